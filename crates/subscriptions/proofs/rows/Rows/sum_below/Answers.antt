-- `Rows::sum_below` meets its contract: what is counted and what the rows from i on add up to are all of it. By CountLaws.
use Rattle.listing_rules.proofs.Prelude.{◌∙◌, ◌≡◌, ap, sym, cond, ◌+◌, ℕ, arith, drop}
use Rattle.mailbox_table.specs.declared.rows.Row.{Row}
use Rattle.listing_rules.specs.Names.{below}
use Rattle.mailbox_table.specs.Index.{name_at, nth_name}
use Rattle.summary.specs.Counts.{one_word, sum_below}
use Rattle.summary.proofs.CountLaws.{rest_row, rest_end, all_fits}
use Rattle.subscriptions.proofs.rows.Rows.sum_below.Goals as goal

pub loop-w-init : goal.loop-w-init
loop-w-init c = omega arith

pub overflow_add-sum : goal.overflow_add-sum
overflow_add-sum c =
    let counts : let a = c.args in
    c.is_below.result ≡ below a.name.now (nth_name a.self.area.now a.self.words.now c.loop-w.w-index) = unfold name_at in c.is_below.ensures ∙ rw (c.name_of.ensures, c.of_word-row.ensures) in
    let added : let a = c.args in
    sum_below a.self.area.now a.name.now (drop c.loop-w.w-index a.self.words.now)
    ≡ c.if_so-sum.result + sum_below a.self.area.now a.name.now (drop (c.loop-w.w-index + 1) a.self.words.now) = let a = c.args in
    let row = c.of_word-row.ensures in
    rest_row a.self.area.now a.name.now a.self.words.now c.loop-w.w-index c.loop-w-test.true
    ∙ ap (λ (x : ℕ). x + sum_below a.self.area.now a.name.now (drop (c.loop-w.w-index + 1) a.self.words.now))
    (sym (c.if_so-sum.ensures
    ∙ (λ j. cond (counts j)
    ((c.one_of.ensures ∙ ap (λ (r : Row). one_word r.flags.bits) row) j) 0))) in
    let a = c.args in
    record { fits = omega (arith, c.loop-w.invariant, added, all_fits a.self.area.now a.name.now a.self.words.now c.args.self.few) }

pub loop-w-preserved : goal.loop-w-preserved
loop-w-preserved c =
    let counts : let a = c.args in
    c.is_below.result ≡ below a.name.now (nth_name a.self.area.now a.self.words.now c.loop-w.w-index) = unfold name_at in c.is_below.ensures ∙ rw (c.name_of.ensures, c.of_word-row.ensures) in
    let added : let a = c.args in
    sum_below a.self.area.now a.name.now (drop c.loop-w.w-index a.self.words.now)
    ≡ c.if_so-sum.result + sum_below a.self.area.now a.name.now (drop (c.loop-w.w-index + 1) a.self.words.now) = let a = c.args in
    let row = c.of_word-row.ensures in
    rest_row a.self.area.now a.name.now a.self.words.now c.loop-w.w-index c.loop-w-test.true
    ∙ ap (λ (x : ℕ). x + sum_below a.self.area.now a.name.now (drop (c.loop-w.w-index + 1) a.self.words.now))
    (sym (c.if_so-sum.ensures
    ∙ (λ j. cond (counts j)
    ((c.one_of.ensures ∙ ap (λ (r : Row). one_word r.flags.bits) row) j) 0))) in
    omega (arith, c.loop-w.invariant, added)

pub returns : goal.returns
returns c =
    let a = c.args in
    omega (arith, c.loop-w.invariant, rest_end a.self.area.now a.name.now a.self.words.now c.loop-w.w-index c.loop-w-test.false)
