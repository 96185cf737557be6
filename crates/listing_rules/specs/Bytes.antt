-- Bytes as numbers, the document's texts as bytes, and tests on them.
use Rattle.std.specs.Prelude.{List, [], ◌∷◌, Bool, true, false, cond, ◌&&◌, ◌||◌, eqb, leb, ℕ, ◌-◌, ◌^◌, ◌/◌, ◌%◌}
use Prim.Native.String.{String, [] as end, ◌∷◌ as ◌then◌}
use Prim.Native.Char.{code}

-- a text of the document, as its bytes
unfoldable pub text : String → List ℕ
text end = []
text (c then s) = code c ∷ text s

unfoldable pub slash : ℕ
slash = 47

unfoldable pub quote : ℕ
quote = 34

unfoldable pub backslash : ℕ
backslash = 92

-- the other bytes that the rules name, as RFC 3501 writes them
abbrev pub CR : ℕ
CR = 13

abbrev pub LF : ℕ
LF = 10

abbrev pub space : ℕ
space = 32

abbrev pub percent : ℕ
percent = 37

abbrev pub star : ℕ
star = 42

abbrev pub plus : ℕ
plus = 43

abbrev pub opening : ℕ
opening = 40

abbrev pub bracket : ℕ
bracket = 93

abbrev pub brace : ℕ
brace = 123

-- the first and the last of the digits and of the letters, F as the last that is a digit of hexadecimal
abbrev pub digit0 : ℕ
digit0 = 48

abbrev pub digit9 : ℕ
digit9 = 57

abbrev pub capital_a : ℕ
capital_a = 65

abbrev pub capital_f : ℕ
capital_f = 70

abbrev pub small_a : ℕ
small_a = 97

abbrev pub small_f : ℕ
small_f = 102

abbrev pub small_z : ℕ
small_z = 122

-- how far a small letter stands behind its capital
abbrev pub case_step : ℕ
case_step = 32

unfoldable pub crlf : List ℕ
crlf = CR ∷ LF ∷ []

-- bit k of a number is set
unfoldable pub bit : ℕ → ℕ → Bool
bit k f = eqb (f / 2 ^ k % 2) 1

-- b lies in lo to hi, both included
unfoldable pub within : ℕ → ℕ → ℕ → Bool
within lo hi b = leb lo b && leb b hi

-- b is one of the bytes
unfoldable pub one_of : List ℕ → ℕ → Bool
one_of [] b = false
one_of (x ∷ xs) b = eqb x b || one_of xs b

-- every byte passes the test
unfoldable pub all : (ℕ → Bool) → List ℕ → Bool
all p [] = true
all p (x ∷ xs) = p x && all p xs

-- there is no byte
unfoldable pub is_empty : List ℕ → Bool
is_empty [] = true
is_empty (b ∷ t) = false

-- the two texts are the same
unfoldable pub same : List ℕ → List ℕ → Bool
same [] [] = true
same [] (y ∷ ys) = false
same (x ∷ xs) [] = false
same (x ∷ xs) (y ∷ ys) = eqb x y && same xs ys

-- a letter a to z raised to A to Z; other bytes as they are
unfoldable pub raise : ℕ → ℕ
raise b = cond (within small_a small_z b) (b - case_step) b

unfoldable pub raised : List ℕ → List ℕ
raised [] = []
raised (b ∷ t) = raise b ∷ raised t

-- the text is the word in any case of letters; the word is written without small letters
unfoldable pub spells : List ℕ → List ℕ → Bool
spells t word = same (raised t) word
