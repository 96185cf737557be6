-- What holds at each turn of the loop of `of`: the bits so far are the set of the members so far.
use Rattle.listing_rules.proofs.Prelude.{◌≡◌, take}
use Rattle.list_line.specs.Members.{set_of}
use Rattle.list_line.proofs.attributes.Attributes.of.Given as goal

abbrev pub invariant-loop-k : goal.invariant-loop-k
invariant-loop-k l = l.bits ≡ set_of (take l.k l.fn.shown)
