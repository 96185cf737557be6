-- `subscriptions::shift::put_word` meets its contract: the words from i on have moved, and the word stands where they made room. By ShiftLaws.
use Rattle.listing_rules.proofs.Prelude.{◌∙◌, ◌≡◌, ap, subst, ◌+◌, ◌-◌, List, ℕ, arith, set}
use Rattle.subscriptions.proofs.ShiftLaws.{Raised, raised_none, raised_more, inserted_set}
use Rattle.subscriptions.proofs.shift.put_word.Goals as goal

pub loop-i-init : goal.loop-i-init
loop-i-init c = (c.requires.0, raised_none _ _ c.requires.1)

pub loop-i-preserved : goal.loop-i-preserved
loop-i-preserved c =
    let turn = c.loop-i in
    let place : turn.i - 1 + 1 ≡ turn.i = omega (arith, c.loop-i-test.true) in
    (omega (arith, c.loop-i-test.true), rw place (raised_more turn.invariant.1 c.requires.1 (omega (arith, c.loop-i-test.true))))

pub returns : goal.returns
returns c =
    let turn = c.loop-i in
    let end : turn.i ≡ c.args.k = omega (arith, turn.invariant.0, c.loop-i-test.false) in
    let moved = (subst (λ (n : ℕ). Raised c.args.words.now turn.words c.args.count n) end turn.invariant.1).words in
    ap (λ (l : List ℕ). set l c.args.k c.args.word) moved ∙ inserted_set _ _ _ _ c.requires.0 c.requires.1
