-- What holds at each turn of a loop of `feed`.
use Rattle.listing_rules.proofs.Prelude.{◌≡◌, drop, length}
use Rattle.feeder.specs.Feed.{feed_from}
use Rattle.feeder.proofs.feed.Given as goal

abbrev pub invariant-loop-i : goal.invariant-loop-i
invariant-loop-i l = (length l.command ≡ length l.initial.command) × (feed_from l.i l.current l.command (drop l.i l.chunk) ≡ feed_from 0 l.initial.current l.initial.command l.chunk)
