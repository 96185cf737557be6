-- What holds at each turn of the loop of `put_word`: the words from i on, of the first `count`, have moved up by one place.
use Rattle.listing_rules.proofs.Prelude.{◌≤◌}
use Rattle.subscriptions.proofs.ShiftLaws.{Raised}
use Rattle.subscriptions.proofs.shift.put_word.Given as goal

abbrev pub invariant-loop-i : goal.invariant-loop-i
invariant-loop-i l = (l.k ≤ l.i) × Raised l.initial.words l.words l.count l.i
