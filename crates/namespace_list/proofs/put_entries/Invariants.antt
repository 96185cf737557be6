-- What holds at each turn of a loop of `put_entries`, and what falls.
use Rattle.namespace_list.specs.Line.{entries_text}
use Rattle.listing_rules.proofs.Prelude.{◌-◌, drop, length}
use Rattle.listing_rules.specs.Namespaces.{entries, of_class}
use Rattle.octets.proofs.Puts.{Putting}
use Rattle.namespace_list.specs.Line.{entries_text}
use Rattle.namespace_list.proofs.put_entries.Given as goal

abbrev pub invariant-loop-i : goal.invariant-loop-i
invariant-loop-i l =
    Putting l.initial.buf l.buf l.at (entries_text (of_class l.class (entries l.list))) (entries_text (of_class l.class (entries (drop l.i l.list)))) l.to

abbrev pub decreases-loop-i : goal.decreases-loop-i
decreases-loop-i l = length l.list - l.i
