-- Hexadecimal characters to the code: a digit's answer, and the bytes of pairs of digits.
use Rattle.std.specs.Prelude.{Option as Maybe, Some, None}
use Rattle.std.specs.Prelude.{List, [], ◌∷◌, Bool, true, false, ℕ, ◌+◌, ◌*◌}
use Rattle.std.proofs.Math.Option.{Option, none, some, get_or}
use Rattle.listing_rules.specs.Frames.{digit}

-- the code's answer to a character
unfoldable pub digit_is : Option ℕ → Maybe ℕ
digit_is none = None
digit_is (some v) = Some v

-- there is something
unfoldable pub is_some : {A : Type 0} → Option A → Bool
is_some none = false
is_some (some a) = true

-- the value of a character; 0 where it is no digit
unfoldable pub value_of : ℕ → ℕ
value_of c = get_or (digit c) 0

-- the byte of two characters, the high digit first
unfoldable pub pair_of : ℕ → ℕ → ℕ
pair_of h l = 16 * value_of h + value_of l

-- the bytes of the pairs; a last character with none beside it gives no byte
unfoldable pub decoded : List ℕ → List ℕ
decoded [] = []
decoded (h ∷ []) = []
decoded (h ∷ l ∷ t) = pair_of h l ∷ decoded t
