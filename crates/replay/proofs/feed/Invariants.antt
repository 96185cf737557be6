-- What holds at each turn of a loop of `feed`, and what falls.
use Rattle.listing_rules.proofs.Prelude.{◌-◌, length}
use Rattle.replay.specs.Holding.{memory}
use Rattle.replay.proofs.FeedLaws.{Part}
use Rattle.replay.proofs.feed.Given as goal

abbrev pub invariant-loop-at : goal.invariant-loop-at
invariant-loop-at l =
    Part l.namespaces l.chunk (memory l.initial.words l.initial.sums l.initial.area l.initial.pending l.initial.line) (memory l.words l.sums l.area l.pending l.line) l.initial.held l.held l.at

abbrev pub decreases-loop-at : goal.decreases-loop-at
decreases-loop-at l = length l.chunk - l.at
