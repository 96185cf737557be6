-- Document 01's numbers of refusal, and a result with its refusal as such a number.
use Rattle.std.specs.Prelude.{ℕ, Result, Ok, Err}
use Rattle.octets.specs.declared.refusals.Refusal.{Refusal}
use Rattle.octets.specs.declared.refusals.Refusal.TheVariants.{Table, Namespaces, LineShape, Grammar, Word, UnknownOption, RecursivematchAlone, Patterns}
use Rattle.octets.specs.declared.refusals.Refusal.TheVariants.{ShortBuffer, FoundFull, PendingFull, NotSuchLine, BadFrame, UnlawfulName, NoRoom, Reader}

-- the number of a refusal
abbrev pub number_of : Refusal → ℕ
number_of Table = 1
number_of Namespaces = 2
number_of LineShape = 3
number_of Grammar = 4
number_of Word = 5
number_of UnknownOption = 6
number_of RecursivematchAlone = 7
number_of Patterns = 8
number_of ShortBuffer = 9
number_of FoundFull = 10
number_of PendingFull = 11
number_of NotSuchLine = 12
number_of BadFrame = 13
number_of UnlawfulName = 14
number_of NoRoom = 15
number_of Reader = 16

-- a result, with the number of its refusal
abbrev pub numbered : {A : Type 0} → Result A Refusal → Result A ℕ
numbered (Ok a) = Ok a
numbered (Err e) = Err (number_of e)
