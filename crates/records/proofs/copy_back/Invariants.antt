-- What holds at each turn of the loop of `copy_back`, and what falls: the records from `from` up to i are those of the words.
use Rattle.std.proofs.Common.{◌≡◌, ◌-◌, ◌≤◌, map, drop}
use Rattle.std.proofs.Math.Seq.{paste}
use Rattle.records.specs.Words.{struct_of}
use Rattle.records.proofs.copy_back.Given as goal

abbrev pub invariant-loop-i : goal.invariant-loop-i
invariant-loop-i l =
    (l.from ≤ l.i) × (l.i - l.from ≤ l.end - l.from) × (l.records ≡ paste l.initial.records l.from (map struct_of (drop l.from l.words)) (l.i - l.from))
