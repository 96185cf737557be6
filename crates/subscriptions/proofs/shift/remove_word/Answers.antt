-- `subscriptions::shift::remove_word` meets its contract: the words up to i have moved, and a zero stands where the last one lay. By ShiftLaws.
use Rattle.listing_rules.proofs.Prelude.{◌∙◌, ◌≡◌, ap, subst, ◌-◌, List, ℕ, arith, set}
use Rattle.subscriptions.proofs.ShiftLaws.{Lowered, lowered_none, lowered_more, lowered_all, removed_set}
use Rattle.subscriptions.proofs.shift.remove_word.Goals as goal

pub loop-i-init : goal.loop-i-init
loop-i-init c = (omega (arith, c.requires.0), lowered_none _ _)

pub loop-i-preserved : goal.loop-i-preserved
loop-i-preserved c =
    (omega (arith, c.loop-i-test.true), lowered_more c.loop-i.invariant.1 (omega (arith, c.requires.1, c.loop-i-test.true)))

pub returns : goal.returns
returns c =
    let turn = c.loop-i in
    let end : turn.i ≡ c.args.count - 1 = omega (arith, turn.invariant.0, c.loop-i-test.false) in
    let moved = lowered_all (subst (λ (n : ℕ). Lowered c.args.words.now turn.words c.args.k n) end turn.invariant.1) in
    ap (λ (l : List ℕ). set l (c.args.count - 1) 0) moved ∙ removed_set _ _ _ c.requires.0 c.requires.1
