-- `summary::summarize_words` meets its contract: too few numbers, a table that fails, or the rows counted. By GrownLaws; the index by HeldLaws of
-- mailbox_table.
use Rattle.listing_rules.proofs.Prelude.{◌∙◌, ◌≡◌, ap, sym, ℕ, arith, length, take}
use Rattle.std.specs.Prelude.{Option, None, Err}
use Rattle.std.specs.Result.{result_ok}
use Rattle.std.specs.Option.{ok_or}
use Rattle.std.proofs.lemmas.Result.{err_from_is_err_and}
use Rattle.mailbox_table.proofs.HeldLaws.{Held, index_held, index_refused}
use Rattle.octets.specs.declared.refusals.Refusal.TheVariants.{Table}
use Rattle.summary.specs.Counts.{number_or_0}
use Rattle.summary.proofs.GrownLaws.{rows_many, first_few, first_fails, first_counted}
use Rattle.summary.proofs.summarize_words.Goals as goal

pub returns-then-sums-count : goal.returns-then-sums-count
returns-then-sums-count c =
    let a = c.args in
    let both = first_few a.raw.now a.count a.area.now a.sums.now c.if-sums-count.true in
    record { result = both.0; summary = both.1 }

pub returns-in_err-n : goal.returns-in_err-n
returns-in_err-n c =
    let a = c.args in
    let none : c.index_words.result ≡ None = c.ok_or.ensures.ok_part ∙ ap result_ok c.in_err-n.was in
    let failed = err_from_is_err_and c.from_residual.result c.from_residual.ensures.1 in
    let refused : c.ok_or.result ≡ Err Table = c.ok_or.ensures.value ∙ ap (λ (o : Option ℕ). ok_or o Table) none in
    let table : c.from_residual.result ≡ Err Table = cc (failed.1, failed.2, refused, c.in_err-n.was) in
    let both =
    first_fails a.raw.now a.count a.area.now a.sums.now c.if-sums-count.false
    (index_refused c.index_words.ensures (ap length c.no_words-words.ensures) none) in
    record { result = ap number_or_0 table ∙ both.0; summary = both.1 }

pub slice_bounds-words-end : goal.slice_bounds-words-end
slice_bounds-words-end c =
    let known : Held c.index_words.ensures c.in_ok-n.n = index_held c.index_words.ensures _ (c.ok_or.ensures.ok_part ∙ ap result_ok c.in_ok-n.was) in
    known.inside

pub slice_bounds-rows-end : goal.slice_bounds-rows-end
slice_bounds-rows-end c =
    let known : Held c.index_words.ensures c.in_ok-n.n = index_held c.index_words.ensures _ (c.ok_or.ensures.ok_part ∙ ap result_ok c.in_ok-n.was) in
    known.size

pub invariant_of-rows : goal.invariant_of-rows
invariant_of-rows c =
    let known : Held c.index_words.ensures c.in_ok-n.n = index_held c.index_words.ensures _ (c.ok_or.ensures.ok_part ∙ ap result_ok c.in_ok-n.was) in
    record { indexed = known.index.indexed; few = known.index.few }

pub count_all-requires : goal.count_all-requires
count_all-requires c =
    let known : Held c.index_words.ensures c.in_ok-n.n = index_held c.index_words.ensures _ (c.ok_or.ensures.ok_part ∙ ap result_ok c.in_ok-n.was) in
    let a = c.args in
    omega (arith, known.size, known.number, rows_many a.area.now a.raw.now a.count known.table_passes, c.if-sums-count.false)

pub returns : goal.returns
returns c =
    let known : Held c.index_words.ensures c.in_ok-n.n = index_held c.index_words.ensures _ (c.ok_or.ensures.ok_part ∙ ap result_ok c.in_ok-n.was) in
    let held = known in
    let a = c.args in
    let index = take c.in_ok-n.n c.index_words.new.words in
    let both =
    first_counted a.raw.now a.count a.area.now a.sums.now index c.if-sums-count.false held.table_passes held.same
    (sym held.size ∙ held.number) held.index.few _ c.count_all.ensures in
    record { result = both.0; summary = both.1 }
