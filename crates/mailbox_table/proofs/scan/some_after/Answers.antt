-- `mailbox_table::scan::some_after` meets its contract: the rows from k on decide, and the row before k begins with the bytes.
-- Each way through the turn is a law of ScanLaws.
use Rattle.listing_rules.proofs.Prelude.{◌∙◌, ◌≡◌, refl, subst, sym, ◌&&◌, true, ◌+◌, ◌-◌, ◌<◌, ◌≤◌, arith, eqb, get_or}
use Rattle.octets.specs.Sets.{contains}
use Rattle.mailbox_table.specs.declared.rows.Row.{Row}
use Rattle.mailbox_table.specs.Index.{name_at, nth_name}
use Rattle.mailbox_table.specs.Below.{marks_of, prefix_of, Begins}
use Rattle.mailbox_table.proofs.BelowLaws.{starts, starts_take}
use Rattle.mailbox_table.proofs.ScanLaws.{starts_next, scan_shared, scan_byte, scan_found, scan_on, scan_end}
use Rattle.mailbox_table.proofs.scan.some_after.Goals as goal

pub loop-k-init : goal.loop-k-init
loop-k-init c =
    let a = c.args in
    let e : a.i + 1 - 1 ≡ a.i = omega arith in
    (omega arith, λ from-i. (rw e (starts_take a.len _), refl))

pub returns-then-row-len : goal.returns-then-row-len
returns-then-row-len c =
    λ from-i.
    sym
    (scan_shared from-i _ _ c.loop-k-test.true (omega arith) (c.loop-k.invariant.1 from-i).0
    (subst (λ (r : Row). r.shared < c.args.len) c.of_word-row.ensures c.if-row-len.true))
    ∙ (c.loop-k.invariant.1 from-i).1

pub returns-then-b-gt-SLASH : goal.returns-then-b-gt-SLASH
returns-then-b-gt-SLASH c =
    let begins : Begins c.args.area.now c.args.words.now c.args.i c.args.len →
    starts (prefix_of c.args.area.now c.args.words.now c.args.i c.args.len)
    (nth_name c.args.area.now c.args.words.now c.loop-k.k) ≡ true = λ from-i. starts_next from-i c.args.marks _ c.loop-k-test.true (omega arith) (c.loop-k.invariant.1 from-i).0
    (subst (λ (r : Row). c.args.len ≤ r.shared) c.of_word-row.ensures c.if-row-len.false) in
    let byte : c.byte_at-b.result ≡ get_or (nth_name c.args.area.now c.args.words.now c.loop-k.k) c.args.len 0 = unfold name_at in c.byte_at-b.ensures ∙ rw (c.name_of.ensures, c.of_word-row.ensures) in
    λ from-i.
    sym (scan_byte from-i _ _ c.loop-k-test.true (begins from-i) (omega (arith, byte)))
    ∙ (c.loop-k.invariant.1 from-i).1

pub returns-then-b-is_marked : goal.returns-then-b-is_marked
returns-then-b-is_marked c =
    let begins : Begins c.args.area.now c.args.words.now c.args.i c.args.len →
    starts (prefix_of c.args.area.now c.args.words.now c.args.i c.args.len)
    (nth_name c.args.area.now c.args.words.now c.loop-k.k) ≡ true = λ from-i. starts_next from-i c.args.marks _ c.loop-k-test.true (omega arith) (c.loop-k.invariant.1 from-i).0
    (subst (λ (r : Row). c.args.len ≤ r.shared) c.of_word-row.ensures c.if-row-len.false) in
    let byte : c.byte_at-b.result ≡ get_or (nth_name c.args.area.now c.args.words.now c.loop-k.k) c.args.len 0 = unfold name_at in c.byte_at-b.ensures ∙ rw (c.name_of.ensures, c.of_word-row.ensures) in
    let test : let k = c.loop-k.k in
    (eqb c.byte_at-b.result 47 && c.is_marked.result) ≡
    (eqb (get_or (nth_name c.args.area.now c.args.words.now k) c.args.len 0) 47
    && contains (marks_of (get_or c.args.words.now k 0)) c.args.marks) = λ j. eqb (byte j) 47 && c.is_marked.ensures j in
    λ from-i.
    sym (scan_found from-i _ _ c.loop-k-test.true (begins from-i) (sym test ∙ c.if-b-is_marked.true))
    ∙ (c.loop-k.invariant.1 from-i).1

pub loop-k-preserved : goal.loop-k-preserved
loop-k-preserved c =
    let begins : Begins c.args.area.now c.args.words.now c.args.i c.args.len →
    starts (prefix_of c.args.area.now c.args.words.now c.args.i c.args.len)
    (nth_name c.args.area.now c.args.words.now c.loop-k.k) ≡ true = λ from-i. starts_next from-i c.args.marks _ c.loop-k-test.true (omega arith) (c.loop-k.invariant.1 from-i).0
    (subst (λ (r : Row). c.args.len ≤ r.shared) c.of_word-row.ensures c.if-row-len.false) in
    let byte : c.byte_at-b.result ≡ get_or (nth_name c.args.area.now c.args.words.now c.loop-k.k) c.args.len 0 = unfold name_at in c.byte_at-b.ensures ∙ rw (c.name_of.ensures, c.of_word-row.ensures) in
    let test : let k = c.loop-k.k in
    (eqb c.byte_at-b.result 47 && c.is_marked.result) ≡
    (eqb (get_or (nth_name c.args.area.now c.args.words.now k) c.args.len 0) 47
    && contains (marks_of (get_or c.args.words.now k 0)) c.args.marks) = λ j. eqb (byte j) 47 && c.is_marked.ensures j in
    let e : c.loop-k.k + 1 - 1 ≡ c.loop-k.k = omega arith in (
      omega arith,
      λ from-i. (
        rw e (begins from-i),
        sym (scan_on from-i _ _ c.loop-k-test.true (begins from-i) (sym test ∙ c.if-b-is_marked.false))
            ∙ (c.loop-k.invariant.1 from-i).1,
      ),
    )

pub returns : goal.returns
returns c =
    λ from-i. sym (scan_end from-i _ _ c.loop-k-test.false) ∙ (c.loop-k.invariant.1 from-i).1
