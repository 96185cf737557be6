-- `summary::count_after` meets its contract: what is counted and what the rows from k on add up to are all of it, and the row before k begins with
-- the bytes. Each way through the turn is a law of CountLaws.
use Rattle.listing_rules.proofs.Prelude.{◌∙◌, ◌≡◌, ap, subst, sym, cond, true, ◌+◌, ◌-◌, ◌<◌, ◌≤◌, ℕ, arith, eqb, drop, get_or}
use Rattle.mailbox_table.specs.declared.rows.Row.{Row}
use Rattle.mailbox_table.specs.Index.{name_at, nth_name}
use Rattle.mailbox_table.specs.Below.{prefix_of}
use Rattle.mailbox_table.proofs.BelowLaws.{starts, starts_take}
use Rattle.mailbox_table.proofs.ScanLaws.{starts_next}
use Rattle.summary.specs.Counts.{one_word, sum_below}
use Rattle.summary.proofs.CountLaws.{row_begins, sum_end, sum_byte, sum_shared, sum_on, sum_fits}
use Rattle.summary.proofs.count_after.Goals as goal

pub loop-k-init : goal.loop-k-init
loop-k-init c =
    let a = c.args in
    let e : a.i + 1 - 1 ≡ a.i = omega arith in
    (omega arith, rw e (starts_take a.len _), omega arith)

pub returns-then-row-len : goal.returns-then-row-len
returns-then-row-len c =
    omega (
      arith,
      c.loop-k.invariant.2,
      sum_shared (row_begins c.args.rows.indexed c.requires) c.loop-k.k c.loop-k-test.true (omega (arith, c.loop-k.invariant.0)) c.loop-k.invariant.1
          (subst (λ (r : Row). r.shared < c.args.len) c.of_word-row.ensures c.if-row-len.true),
    )

pub returns-then-b-gt-SLASH : goal.returns-then-b-gt-SLASH
returns-then-b-gt-SLASH c =
    let begins : starts (prefix_of c.args.rows.area.now c.args.rows.words.now c.args.i c.args.len)
    (nth_name c.args.rows.area.now c.args.rows.words.now c.loop-k.k) ≡ true = starts_next (row_begins c.args.rows.indexed c.requires) 0 _ c.loop-k-test.true (omega (arith, c.loop-k.invariant.0)) c.loop-k.invariant.1
    (subst (λ (r : Row). c.args.len ≤ r.shared) c.of_word-row.ensures c.if-row-len.false) in
    let byte : c.byte_at-b.result ≡ get_or (nth_name c.args.rows.area.now c.args.rows.words.now c.loop-k.k) c.args.len 0 = unfold name_at in c.byte_at-b.ensures ∙ rw (c.name_of.ensures, c.of_word-row.ensures) in
    omega
    (arith, c.loop-k.invariant.2, sum_byte (row_begins c.args.rows.indexed c.requires) c.loop-k.k c.loop-k-test.true begins (omega (arith, c.if-b-gt-SLASH.true, byte)))

pub overflow_add-sum : goal.overflow_add-sum
overflow_add-sum c =
    let begins : starts (prefix_of c.args.rows.area.now c.args.rows.words.now c.args.i c.args.len)
    (nth_name c.args.rows.area.now c.args.rows.words.now c.loop-k.k) ≡ true = starts_next (row_begins c.args.rows.indexed c.requires) 0 _ c.loop-k-test.true (omega (arith, c.loop-k.invariant.0)) c.loop-k.invariant.1
    (subst (λ (r : Row). c.args.len ≤ r.shared) c.of_word-row.ensures c.if-row-len.false) in
    let byte : c.byte_at-b.result ≡ get_or (nth_name c.args.rows.area.now c.args.rows.words.now c.loop-k.k) c.args.len 0 = unfold name_at in c.byte_at-b.ensures ∙ rw (c.name_of.ensures, c.of_word-row.ensures) in
    let added : sum_below c.args.rows.area.now (prefix_of c.args.rows.area.now c.args.rows.words.now c.args.i c.args.len)
    (drop c.loop-k.k c.args.rows.words.now)
    ≡ c.if_so-sum.result
    + sum_below c.args.rows.area.now (prefix_of c.args.rows.area.now c.args.rows.words.now c.args.i c.args.len)
    (drop (c.loop-k.k + 1) c.args.rows.words.now) = sum_on (row_begins c.args.rows.indexed c.requires) c.loop-k.k c.loop-k-test.true begins
    ∙ ap (λ (x : ℕ). x + sum_below c.args.rows.area.now (prefix_of c.args.rows.area.now c.args.rows.words.now c.args.i
    c.args.len) (drop (c.loop-k.k + 1) c.args.rows.words.now))
    (sym (c.if_so-sum.ensures
    ∙ (λ j. cond (eqb (byte j) 47)
    ((c.one_of.ensures ∙ ap (λ (r : Row). one_word r.flags.bits) c.of_word-row.ensures) j) 0))) in
    record { fits = omega (arith, c.loop-k.invariant.2, added, sum_fits (row_begins c.args.rows.indexed c.requires) c.args.rows.few (c.args.i + 1)) }

pub loop-k-preserved : goal.loop-k-preserved
loop-k-preserved c =
    let begins : starts (prefix_of c.args.rows.area.now c.args.rows.words.now c.args.i c.args.len)
    (nth_name c.args.rows.area.now c.args.rows.words.now c.loop-k.k) ≡ true = starts_next (row_begins c.args.rows.indexed c.requires) 0 _ c.loop-k-test.true (omega (arith, c.loop-k.invariant.0)) c.loop-k.invariant.1
    (subst (λ (r : Row). c.args.len ≤ r.shared) c.of_word-row.ensures c.if-row-len.false) in
    let byte : c.byte_at-b.result ≡ get_or (nth_name c.args.rows.area.now c.args.rows.words.now c.loop-k.k) c.args.len 0 = unfold name_at in c.byte_at-b.ensures ∙ rw (c.name_of.ensures, c.of_word-row.ensures) in
    let added : sum_below c.args.rows.area.now (prefix_of c.args.rows.area.now c.args.rows.words.now c.args.i c.args.len)
    (drop c.loop-k.k c.args.rows.words.now)
    ≡ c.if_so-sum.result
    + sum_below c.args.rows.area.now (prefix_of c.args.rows.area.now c.args.rows.words.now c.args.i c.args.len)
    (drop (c.loop-k.k + 1) c.args.rows.words.now) = sum_on (row_begins c.args.rows.indexed c.requires) c.loop-k.k c.loop-k-test.true begins
    ∙ ap (λ (x : ℕ). x + sum_below c.args.rows.area.now (prefix_of c.args.rows.area.now c.args.rows.words.now c.args.i
    c.args.len) (drop (c.loop-k.k + 1) c.args.rows.words.now))
    (sym (c.if_so-sum.ensures
    ∙ (λ j. cond (eqb (byte j) 47)
    ((c.one_of.ensures ∙ ap (λ (r : Row). one_word r.flags.bits) c.of_word-row.ensures) j) 0))) in
    let e : c.loop-k.k + 1 - 1 ≡ c.loop-k.k = omega arith in
    (omega (arith, c.loop-k.invariant.0), rw e begins, omega (arith, c.loop-k.invariant.2, added))

pub returns : goal.returns
returns c =
    omega (arith, c.loop-k.invariant.2, sum_end (row_begins c.args.rows.indexed c.requires) c.loop-k.k c.loop-k-test.false)
