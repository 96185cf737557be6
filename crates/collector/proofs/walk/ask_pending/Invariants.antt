-- What holds at each turn of a loop of `ask_pending`, and what falls.
use Rattle.listing_rules.proofs.Prelude.{◌-◌, length}
use Rattle.collector.specs.Walking.{Walking}
use Rattle.collector.specs.Held.{held_seen}
use Rattle.collector.proofs.walk.ask_pending.Given as goal

abbrev pub invariant-loop-at : goal.invariant-loop-at
invariant-loop-at l =
    Walking (held_seen l.seen.reader l.seen.area.now l.seen.words.now) l.options (length l.initial.scratch) (length l.initial.found) (length l.initial.pending) l.scratch l.found l.pending l.progress l.at

abbrev pub decreases-loop-at : goal.decreases-loop-at
decreases-loop-at l = length l.pending - l.at
