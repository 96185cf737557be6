-- `summary::index_summed` meets its contract: the table fails without its summary, or is indexed where that agrees. By GrownLaws; the index by HeldLaws of
-- mailbox_table.
use Rattle.listing_rules.proofs.Prelude.{◌∙◌, ◌≡◌, ap, sym, ℕ, length, length-replicate, replicate}
use Rattle.listing_rules.specs.Summary.{agrees}
use Rattle.records.specs.Lent.{words_summed}
use Rattle.mailbox_table.proofs.HeldLaws.{Held, index_held}
use Rattle.summary.proofs.GrownLaws.{grown_told, index_fails, index_agrees, index_disagrees}
use Rattle.summary.proofs.index_summed.Goals as goal

pub returns-in_err-n : goal.returns-in_err-n
returns-in_err-n c =
    let a = c.args in
    rw c.from_residual.ensures (index_fails a.area.now a.raw.now a.sums.now a.count _ _ _ c.index_words.ensures c.in_err-n.was)

pub invariant_of-rows : goal.invariant_of-rows
invariant_of-rows c =
    let known : Held c.index_words.ensures c.in_ok-n.n = index_held c.index_words.ensures _ c.in_ok-n.was in
    record { indexed = known.index.indexed; few = known.index.few }

pub returns-then-not-agrees : goal.returns-then-not-agrees
returns-then-not-agrees c =
    let known : Held c.index_words.ensures c.in_ok-n.n = index_held c.index_words.ensures _ c.in_ok-n.was in
    let told : let a = c.args in
    c.agrees.result ≡ agrees (words_summed a.raw.now a.count a.area.now a.sums.now) = let held = known in
    let a = c.args in
    c.agrees.ensures
    ∙ grown_told a.area.now a.raw.now _ a.sums.now a.count held.table_passes held.same (sym held.size ∙ held.number) in
    let a = c.args in
    let room = c.index_words.ensures.room in
    let zeros = c.fill.ensures.after (λ _ same. same) ∙ ap (λ (n : ℕ). replicate n 0) room in
    index_disagrees a.area.now a.raw.now a.sums.now a.count _ _ (ap length zeros ∙ length-replicate {A = ℕ} _ 0) zeros
    (sym told ∙ c.if-not-agrees.true)

pub returns : goal.returns
returns c =
    let known : Held c.index_words.ensures c.in_ok-n.n = index_held c.index_words.ensures _ c.in_ok-n.was in
    let told : let a = c.args in
    c.agrees.result ≡ agrees (words_summed a.raw.now a.count a.area.now a.sums.now) = let held = known in
    let a = c.args in
    c.agrees.ensures
    ∙ grown_told a.area.now a.raw.now _ a.sums.now a.count held.table_passes held.same (sym held.size ∙ held.number) in
    let a = c.args in
    index_agrees a.area.now a.raw.now a.sums.now a.count _ _ _ _ c.index_words.ensures
    c.in_ok-n.was
    (sym told ∙ c.if-not-agrees.false)
