-- What holds at each turn of the loop of `remove_word`: the words after k, up to i, have moved down by one place.
use Rattle.listing_rules.proofs.Prelude.{◌≤◌}
use Rattle.subscriptions.proofs.ShiftLaws.{Lowered}
use Rattle.subscriptions.proofs.shift.remove_word.Given as goal

abbrev pub invariant-loop-i : goal.invariant-loop-i
invariant-loop-i l = (l.i ≤ l.last) × Lowered l.initial.words l.words l.k l.i
