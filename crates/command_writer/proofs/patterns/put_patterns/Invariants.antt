-- What holds at each turn of a loop of `put_patterns`, and what falls.
use Rattle.listing_rules.proofs.Prelude.{map, ◌-◌, length}
use Rattle.listing_rules.specs.Lines.{spaced}
use Rattle.listing_rules.specs.Joining.{packed_patterns, string_text}
use Rattle.octets.proofs.Puts.{Putting}
use Rattle.command_writer.proofs.PatternTexts.{text_from}
use Rattle.command_writer.proofs.patterns.put_patterns.Given as goal

abbrev pub invariant-loop-i : goal.invariant-loop-i
invariant-loop-i l = Putting l.initial.buf l.buf l.at (spaced (map string_text (packed_patterns l.list))) (text_from l.first l.list l.i) l.to

abbrev pub decreases-loop-i : goal.decreases-loop-i
decreases-loop-i l = length l.list - l.i
