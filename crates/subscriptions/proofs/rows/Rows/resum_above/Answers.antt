-- `Rows::resum_above` meets its contract: the rows before i are done. By ResumLaws.
use Rattle.listing_rules.proofs.Prelude.{◌∙◌, ◌≡◌, ap, subst, sym, cond, ◌+◌, ◌-◌, ◌<◌, ℕ, add-one, List, arith, get_or, length, set}
use Rattle.listing_rules.specs.Names.{below}
use Rattle.mailbox_table.specs.Index.{name_at, nth_name}
use Rattle.summary.specs.Counts.{one_word}
use Rattle.subscriptions.specs.Resums.{Resums, resummed_words}
use Rattle.subscriptions.proofs.ResumLaws.{resummed_to, resum_none, resum_length, resum_same, resum_next, resum_all}
use Rattle.subscriptions.proofs.rows.Rows.resum_above.Goals as goal

pub loop-i-init : goal.loop-i-init
loop-i-init c =
    let a = c.args in (
      sym (resum_none _ _ a.name.now a.self.area.now a.self.words.now a.sums.now),
      (subst (λ (x : ℕ). Resums a.self.area.now a.self.words.now a.name.now x c.one_of-come.result a.sums.now)
          (sym c.one_of-gone.ensures)
          (subst (λ (y : ℕ). Resums a.self.area.now a.self.words.now a.name.now (one_word a.old.bits) y a.sums.now)
          (sym c.one_of-come.ensures)
          c.requires)),
    )

pub bounds-sums-i : goal.bounds-sums-i
bounds-sums-i c =
    let in-sums : c.loop-i.i < length c.loop-i.sums = let a = c.args in
    omega (
      arith,
      c.loop-i-test.true,
      c.loop-i.invariant.1.room,
      ap length c.loop-i.invariant.0,
      resum_length c.one_of-gone.result c.one_of-come.result a.name.now a.self.area.now a.self.words.now a.sums.now
          c.loop-i.i,
    ) in
    in-sums

pub switched-requires : goal.switched-requires
switched-requires c =
    let counts : let a = c.args in
    c.is_below-counts.result ≡ below (nth_name a.self.area.now a.self.words.now c.loop-i.i) a.name.now = unfold name_at in c.is_below-counts.ensures ∙ rw (c.name_of.ensures, c.of_word-row.ensures) in
    let number : let a = c.args in
    get_or c.loop-i.sums c.loop-i.i 0 ≡ get_or a.sums.now c.loop-i.i 0 = let a = c.args in
    ap (λ (l : List ℕ). get_or l c.loop-i.i 0) c.loop-i.invariant.0 ∙ resum_same c.one_of-gone.result
    c.one_of-come.result a.name.now a.self.area.now a.self.words.now a.sums.now c.loop-i.i in
    λ e. rw number (c.loop-i.invariant.1.each c.loop-i.i c.loop-i-test.true (sym counts ∙ e))

pub bounds-sums-i-in-loop-i : goal.bounds-sums-i-in-loop-i
bounds-sums-i-in-loop-i c =
    let in-sums : c.loop-i.i < length c.loop-i.sums = let a = c.args in
    omega (
      arith,
      c.loop-i-test.true,
      c.loop-i.invariant.1.room,
      ap length c.loop-i.invariant.0,
      resum_length c.one_of-gone.result c.one_of-come.result a.name.now a.self.area.now a.self.words.now a.sums.now
          c.loop-i.i,
    ) in
    in-sums

pub loop-i-preserved : goal.loop-i-preserved
loop-i-preserved c =
    let counts : let a = c.args in
    c.is_below-counts.result ≡ below (nth_name a.self.area.now a.self.words.now c.loop-i.i) a.name.now = unfold name_at in c.is_below-counts.ensures ∙ rw (c.name_of.ensures, c.of_word-row.ensures) in
    let number : let a = c.args in
    get_or c.loop-i.sums c.loop-i.i 0 ≡ get_or a.sums.now c.loop-i.i 0 = let a = c.args in
    ap (λ (l : List ℕ). get_or l c.loop-i.i 0) c.loop-i.invariant.0 ∙ resum_same c.one_of-gone.result
    c.one_of-come.result a.name.now a.self.area.now a.self.words.now a.sums.now c.loop-i.i in
    let a = c.args in
    let i = c.loop-i.i in (
      ap (λ (x : ℕ). set c.loop-i.sums i x)
          (c.switched.ensures
          ∙ (λ j. cond (counts j) (number j - c.one_of-gone.result + c.one_of-come.result)
          (number j)))
          ∙ ap (λ (l : List ℕ). set l i (cond (below (nth_name a.self.area.now a.self.words.now i) a.name.now)
          (get_or a.sums.now i 0 - c.one_of-gone.result + c.one_of-come.result) (get_or a.sums.now i 0)))
          c.loop-i.invariant.0
          ∙ sym (resum_next c.one_of-gone.result c.one_of-come.result a.name.now a.self.area.now a.self.words.now
          a.sums.now i c.loop-i-test.true
          (omega (arith, c.loop-i-test.true, c.loop-i.invariant.1.room)))
          ∙ ap (λ (k : ℕ). resummed_to c.one_of-gone.result c.one_of-come.result a.name.now a.self.area.now
          a.self.words.now
          a.sums.now k) (sym (add-one i)),
      c.loop-i.invariant.1,
    )

pub returns : goal.returns
returns c =
    let a = c.args in
    c.loop-i.invariant.0
    ∙ resum_all c.one_of-gone.result c.one_of-come.result a.name.now a.self.area.now a.self.words.now a.sums.now
    c.loop-i.i c.loop-i-test.false
    ∙ (λ j. resummed_words (c.one_of-gone.ensures j) (c.one_of-come.ensures j) a.name.now a.self.area.now a.self.words.now
    a.sums.now)
