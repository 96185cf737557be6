-- Laws of single bytes: what stands behind one, and where a string begins.
use Rattle.std.specs.Prelude.{Option, Some, None}
use Rattle.listing_rules.proofs.Prelude.{◌≡◌, refl, sym, Bool, cond, false, true, none, some, List, [], ◌∷◌, ◌+◌, ◌<◌, ◌≤◌}
use Rattle.listing_rules.proofs.Prelude.{ℕ, add-one, dec_le, arith, eqb, list_get_or_eq_default, drop, drop_of_length-le, get_or, length, drop-cons}
use Rattle.listing_rules.proofs.Prelude.{eq-eqb, ne_eqb}
use Rattle.command_tokens.specs.declared.Span.{Span}
use Rattle.command_tokens.specs.declared.Cursor.{Cursor}
use Rattle.command_tokens.specs.Tokens.{TokenIn, BehindIn}
use Rattle.listing_rules.specs.Bytes.{quote, is_empty}
use Rattle.listing_rules.specs.Tokens.{got, ◌>>=◌, at, after, run, run₁, unless_empty, quoted_text, literal, string_or}

-- a byte that is not 0 lies inside
pub inside : (s : List ℕ) (i : ℕ) → 0 < get_or s i 0 → i < length s
inside s i h = elim (dec_le (length s) i) [ yes l ↦ absurd (omega (arith, list_get_or_eq_default s 0 l)) | no l ↦ omega arith ]

module _ (s : List ℕ) (i b : ℕ) where
  pub after_out : length s ≤ i → after (b ∷ []) (drop i s) ≡ none
  unfolding after
  after_out h = rw (drop_of_length-le s h)

  pub after_yes : i < length s → get_or s i 0 ≡ b → after (b ∷ []) (drop i s) ≡ some (drop (i + 1) s)
  unfolding after
  after_yes h e = rw (drop-cons s i 0 h, eq-eqb b (get_or s i 0) (sym e), add-one)

  pub after_no : i < length s → (get_or s i 0 ≡ b → ⊥) → after (b ∷ []) (drop i s) ≡ none
  unfolding after
  after_no h e = rw (drop-cons s i 0 h, ne_eqb b (get_or s i 0) (λ q. e (sym q)))

-- the byte at a place, 0 behind the end
module _ (s : List ℕ) (i b : ℕ) where
  pub at_here : 0 < b → get_or s i 0 ≡ b → at b (drop i s) ≡ true
  unfolding at
  at_here h e = rw (drop-cons s i 0 (inside s i (omega arith)), eq-eqb b (get_or s i 0) (sym e))

  pub at_other : (get_or s i 0 ≡ b → ⊥) → at b (drop i s) ≡ false
  unfolding at
  at_other e = elim (dec_le (length s) i) [ yes l ↦ out l | no l ↦ here (omega arith) ]
    where
      out : length s ≤ i → at b (drop i s) ≡ false
      out l = rw (drop_of_length-le s l)

      here : i < length s → at b (drop i s) ≡ false
      here l = rw (drop-cons s i 0 l, ne_eqb b (get_or s i 0) (λ q. e (sym q)))

  pub after_here : 0 < b → get_or s i 0 ≡ b → after (b ∷ []) (drop i s) ≡ some (drop (i + 1) s)
  after_here h e = after_yes s i b (inside s i (omega arith)) e

  pub after_other : (get_or s i 0 ≡ b → ⊥) → after (b ∷ []) (drop i s) ≡ none
  after_other e = elim (dec_le (length s) i) [ yes l ↦ after_out s i b l | no l ↦ after_no s i b (omega arith) e ]

-- a byte, and a text behind it
pub after_then : (x : ℕ) (ys t : List ℕ) → after (x ∷ ys) t ≡ (after (x ∷ []) t >>= λ u. after ys u)
unfolding after ◌>>=◌
after_then x ys [] = refl
after_then x ys (z ∷ t) = go (eqb x z)
  where
    go : (o : Bool) → cond o (after ys t) none ≡ (cond o (some t) none >>= λ u. after ys u)
    go true = refl
    go false = refl

module _ (p : ℕ → Bool) (s : List ℕ) (i : ℕ) where
  -- a quote begins a quoted string
  pub string_quoted : get_or s i 0 ≡ 34 → string_or p (drop i s) ≡ quoted_text (drop (i + 1) s)
  unfolding string_or quote
  string_quoted e = rw (drop-cons s i 0 (inside s i (omega arith)), eq-eqb (get_or s i 0) 34 e, add-one)

  -- an opening brace begins a literal
  pub string_literal : get_or s i 0 ≡ 123 → string_or p (drop i s) ≡ literal (drop (i + 1) s)
  unfolding string_or quote
  string_literal e = rw (drop-cons s i 0 (inside s i (omega arith)), ne_eqb (get_or s i 0) 34 (λ q. omega arith), eq-eqb (get_or s i 0) 123 e, add-one)

  -- any other byte begins a run
  pub string_bare : (get_or s i 0 ≡ 34 → ⊥) → (get_or s i 0 ≡ 123 → ⊥) → string_or p (drop i s) ≡ run₁ p (drop i s)
  unfolding string_or quote run₁ run unless_empty is_empty got
  string_bare e f = elim (dec_le (length s) i) [ yes l ↦ out l | no l ↦ here (omega arith) ]
    where
      out : length s ≤ i → string_or p (drop i s) ≡ run₁ p (drop i s)
      out l = rw (drop_of_length-le s l)

      here : i < length s → string_or p (drop i s) ≡ run₁ p (drop i s)
      here l = rw (drop-cons s i 0 l, ne_eqb (get_or s i 0) 34 e, ne_eqb (get_or s i 0) 123 f)

-- a place behind one that is further on
pub behind_later : (s : List ℕ) (i to : ℕ) (r : Option Cursor) → i < to → BehindIn s to r → BehindIn s i r
unfolding BehindIn
behind_later s i to (Some c) h b = (omega arith, b.1)
behind_later s i to None h b = tt

pub token_later : (s : List ℕ) (i to : ℕ) (r : Option (Span × Cursor)) → i < to → TokenIn s to r → TokenIn s i r
unfolding TokenIn
token_later s i to (Some (t, c)) h b = record { order = b.order; within = b.within; past = omega arith; inside = b.inside }
token_later s i to None h b = tt
