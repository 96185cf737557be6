-- A part of the line between two places: where there is none, and that a token lies inside the line. Rests on nothing.
use Rattle.listing_rules.proofs.Prelude.{◌∙◌, ◌≡◌, sym, List, [], ◌-◌, ◌≤◌, min, ℕ, arith, dec_le, drop, drop_of_length-le, length, length-drop, take, take_all}
use Rattle.listing_rules.proofs.Prelude.{take-nil}
use Rattle.command_tokens.specs.declared.Span.{Span}
use Rattle.command_tokens.specs.declared.Cursor.{Cursor}
use Rattle.command_tokens.specs.Spans.{Lies, nowhere}
use Rattle.command_tokens.specs.Tokens.{Ahead}

module _ (s : List ℕ) where
  -- nothing stands from a place back to one before it
  cut_back : (a e : ℕ) → e ≤ a → take (e - a) (drop a s) ≡ []
  cut_back a e h = let none : e - a ≡ 0 = omega arith in rw none

  -- nor behind the end
  cut_out : (a e : ℕ) → length s ≤ a → take (e - a) (drop a s) ≡ []
  cut_out a e h = rw (drop_of_length-le s h) (take-nil (e - a))

  -- a part that ends behind the line ends with it
  cut_rest : (a e : ℕ) → length s ≤ e → take (length s - a) (drop a s) ≡ take (e - a) (drop a s)
  cut_rest a e h =
      take_all (length s - a) (drop a s) (omega (arith, length-drop a s))
      ∙ sym (take_all (e - a) (drop a s) (omega (arith, length-drop a s)))

  -- the part up to a place that lies inside
  cut_ordered : (a e : ℕ) → take (e - min a e) (drop (min a e) s) ≡ take (e - a) (drop a s)
  cut_ordered a e = elim (dec_le a e) [
    | yes h ↦ let here : min a e ≡ a = omega arith in rw here
    | no h ↦ cut_back (min a e) e (omega arith) ∙ sym (cut_back a e (omega arith))
  ]

  -- places that lie inside, for any two
  pub cut_within : (a e : ℕ) → take (min e (length s) - min a (min e (length s))) (drop (min a (min e (length s))) s) ≡ take (e - a) (drop a s)
  cut_within a e = cut_ordered a (min e (length s)) ∙ elim (dec_le (length s) e) [
    | yes h ↦ let last : min e (length s) ≡ length s = omega arith in rw last (cut_rest a e h)
    | no h ↦ let here : min e (length s) ≡ e = omega arith in rw here
  ]

-- no part of the line lies inside it
pub lies_nowhere : (s : List ℕ) → Lies s nowhere
lies_nowhere s = record { order = omega arith; inside = omega arith }

-- and so does a token
pub lies_ahead : (s : List ℕ) (i : ℕ) (t : Span) (c : Cursor) → Ahead s i t c → Lies s t
lies_ahead s i t c a = record { order = a.order; inside = omega (arith, a.within, a.inside) }
