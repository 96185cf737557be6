-- What holds at each turn of a loop of `same_digits`.
use Rattle.listing_rules.proofs.Prelude.{◌≡◌, ◌*◌, drop}
use Rattle.listing_rules.specs.Bytes.{same}
use Rattle.frames.specs.Hexadecimal.{decoded}
use Rattle.frames.proofs.logs.same_digits.Given as goal

abbrev pub invariant-loop-i : goal.invariant-loop-i
invariant-loop-i l = same (decoded (drop (2 * l.i) l.digits)) (drop l.i l.bytes) ≡ same (decoded l.digits) l.bytes
