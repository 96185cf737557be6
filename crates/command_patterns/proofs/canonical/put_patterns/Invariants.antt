-- What holds at each turn of the loop of `put_patterns`.
use Rattle.command_tokens.specs.Spans.{span_bytes}
use Rattle.command_patterns.specs.Canonical.{canonical_of}
use Rattle.command_patterns.proofs.Counting.{canonical_from}
use Rattle.command_patterns.proofs.Packed.{Packing}
use Rattle.command_patterns.proofs.canonical.put_patterns.Given as goal

abbrev pub invariant-loop-pattern : goal.invariant-loop-pattern
invariant-loop-pattern l =
    Packing l.initial.buf l.buf l.to (canonical_from l.line (span_bytes l.line l.reference) l.pattern-items l.pattern-index)
    (canonical_of l.line l.reference l.fn.patterns)
