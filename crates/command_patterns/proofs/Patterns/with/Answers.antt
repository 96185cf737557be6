-- `Patterns::with` is the definition: the ninth pattern has no place.
use Rattle.listing_rules.proofs.Prelude.{le-leb, lt-leb}
use Rattle.command_patterns.specs.Places.{with_span}
use Rattle.command_patterns.proofs.Patterns.with.Goals as goal

pub returns-then-at-ge-MAX_PATTERNS : goal.returns-then-at-ge-MAX_PATTERNS
unfolding with_span
returns-then-at-ge-MAX_PATTERNS c = rw (le-leb 8 _ c.if-at-ge-MAX_PATTERNS.true)

pub returns : goal.returns
unfolding with_span
returns c = rw (lt-leb 8 _ c.if-at-ge-MAX_PATTERNS.false)
