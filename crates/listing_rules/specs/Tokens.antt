-- The tokens of a line, read from left to right: each reader takes what is left of the line and gives what it read and what is left then.
use Rattle.std.specs.Prelude.{List, [], ◌∷◌, ◌++◌, Bool, true, false, cond, ◌&&◌, ◌||◌, not, eqb, leb, length, take, drop, ℕ, ◌+◌, ◌-◌, ◌*◌}
use Rattle.std.proofs.Math.Option.{Option, none, some}
use Rattle.listing_rules.specs.Bytes.{text, crlf, quote, backslash, within, one_of, all, is_empty, bracket, plus, brace, digit0, digit9, CR, LF}

-- something read, and what is left of the line behind it
pub record Got (A : Type 0) : Type 0 where
  pub val : A
  pub rest : List ℕ

unfoldable pub got : {A : Type 0} → A → List ℕ → Got A
got a t = record { val = a; rest = t }

-- go on with what was read; nothing where nothing was
infixl 20 ◌>>=◌
unfoldable pub ◌>>=◌ : {A B : Type 0} → Option A → (A → Option B) → Option B
none >>= f = none
(some x) >>= f = f x

-- the line begins with the byte b
unfoldable pub at : ℕ → List ℕ → Bool
at b [] = false
at b (c ∷ t) = eqb b c

-- what is left behind a given text, if the line begins with it
unfoldable pub after : List ℕ → List ℕ → Option (List ℕ)
after [] t = some t
after (x ∷ xs) [] = none
after (x ∷ xs) (y ∷ ys) = let r = after xs ys in cond (eqb x y) r none

unfoldable pub with_first : {A : Type 0} → A → Got (List A) → Got (List A)
with_first a g = got (a ∷ g.val) g.rest

-- RFC 3501: an atom byte is printable and none of ( ) { % * " \ ]
unfoldable pub atom_byte : ℕ → Bool
atom_byte b = within 0x21 0x7E b && not (one_of (text "(){%*\"\\]") b)

-- "A tag is atom bytes and ']', no '+'."
unfoldable pub tag_byte : ℕ → Bool
tag_byte b = (atom_byte b || eqb b bracket) && not (eqb b plus)

-- RFC 3501: a bare astring is of atom bytes and "]"
unfoldable pub astring_byte : ℕ → Bool
astring_byte b = atom_byte b || eqb b bracket

-- "a run of atom bytes, ']', '%' and '*'"
unfoldable pub pattern_byte : ℕ → Bool
pattern_byte b = atom_byte b || one_of (text "]%*") b

-- the longest run of bytes that pass the test, perhaps empty
unfoldable pub run : (ℕ → Bool) → List ℕ → Got (List ℕ)
run p [] = got [] []
run p (b ∷ t) = let r = with_first b (run p t) in cond (p b) r (got [] (b ∷ t))

unfoldable pub unless_empty : Got (List ℕ) → Option (Got (List ℕ))
unless_empty g = cond (is_empty g.val) none (some g)

-- the longest run, of one byte or more
unfoldable pub run₁ : (ℕ → Bool) → List ℕ → Option (Got (List ℕ))
run₁ p t = unless_empty (run p t)

unfoldable pub atom : List ℕ → Option (Got (List ℕ))
atom t = run₁ atom_byte t

-- RFC 3501: a quoted string behind its first quote, without its escapes; a backslash stands only before a quote or a backslash.
-- The flag says that a backslash stands just before.
unfoldable pub unquoted : Bool → List ℕ → Option (Got (List ℕ))
unquoted e [] = none
unquoted true (b ∷ t) =
    let r = unquoted false t in
    cond (eqb b quote || eqb b backslash) (r >>= λ g. some (with_first b g)) none
unquoted false (b ∷ t) =
    let esc = unquoted true t in
    let r = unquoted false t >>= λ g. some (with_first b g) in
    cond (eqb b backslash) esc (cond (eqb b quote) (some (got [] t)) r)

-- "bytes 01 to 7F other than CR and LF"
unfoldable pub line_byte : ℕ → Bool
line_byte b = within 0x01 0x7F b && not (eqb b CR) && not (eqb b LF)

-- RFC 3501: a quoted string holds such bytes alone, so no literal stands in it
unfoldable pub quoted_text : List ℕ → Option (Got (List ℕ))
quoted_text t = unquoted false t >>= λ g. cond (all line_byte g.val) (some g) none

-- a number: one or more digits, leading zeros too
unfoldable pub digit_byte : ℕ → Bool
digit_byte b = within digit0 digit9 b

unfoldable pub decimal : ℕ → List ℕ → ℕ
decimal v [] = v
decimal v (d ∷ t) = decimal (10 * v + (d - digit0)) t

unfoldable pub number : List ℕ → Option (Got ℕ)
number t = run₁ digit_byte t >>= λ g. some (got (decimal 0 g.val) g.rest)

-- Document 02, W2: "`{n}` CR LF with n up to 1,024 .., then n bytes .. count as a string". t stands behind the "{".
unfoldable pub literal : List ℕ → Option (Got (List ℕ))
literal t = do
  n ← number t
  u ← after (text "}" ++ crlf) n.rest
  cond (leb n.val 1024 && leb n.val (length u)) (some (got (take n.val u) (drop n.val u))) none

-- a quoted string, a literal "wherever an astring or pattern may stand", or a run
unfoldable pub string_or : (ℕ → Bool) → List ℕ → Option (Got (List ℕ))
string_or p [] = none
string_or p (b ∷ t) = cond (eqb b quote) (quoted_text t) (cond (eqb b brace) (literal t) (run₁ p (b ∷ t)))

unfoldable pub astring : List ℕ → Option (Got (List ℕ))
astring t = string_or astring_byte t

-- "A pattern is a quoted string or a run of atom bytes, ']', '%' and '*'." With W2, or a literal.
unfoldable pub pattern : List ℕ → Option (Got (List ℕ))
pattern t = string_or pattern_byte t
