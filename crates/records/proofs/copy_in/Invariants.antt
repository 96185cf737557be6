-- What holds at each turn of the loop of `copy_in`, and what falls: the words of the first i records are stored, and tell these records.
use Rattle.std.proofs.Common.{◌≡◌, ◌≤◌, map, take}
use Rattle.std.proofs.Math.Seq.{paste}
use Rattle.records.specs.Words.{word_of, record_of, meant}
use Rattle.records.proofs.copy_in.Given as goal

abbrev pub invariant-loop-i : goal.invariant-loop-i
invariant-loop-i l =
    (l.i ≤ l.n) × (l.words ≡ paste l.initial.words 0 (map word_of l.records) l.i)
    × (map record_of (take l.i (map word_of l.records)) ≡ map meant (take l.i l.records))
