-- Canonical patterns, one place at a time: an empty pattern has none, and each other one counts. Rests on nothing.
use Rattle.listing_rules.proofs.Prelude.{◌∙◌, ◌≡◌, ap, refl, subst, sym, Bool, ◌&&◌, and_assoc, and-true, false, true, List, [], ◌++◌, ◌∷◌, map, ◌+◌}
use Rattle.listing_rules.proofs.Prelude.{◌<◌, ◌≤◌, suc, ℕ, add-one, arith, eqb, leb, drop, drop_of_length-le, get_or}
use Rattle.listing_rules.proofs.Prelude.{length, length-append, drop-cons, ne_eqb}
use Rattle.listing_rules.specs.Bytes.{is_empty}
use Rattle.listing_rules.specs.Lists.{every}
use Rattle.listing_rules.specs.Command.{canonical}
use Rattle.command_tokens.specs.declared.Span.{Span}
use Rattle.command_tokens.specs.Spans.{span_bytes, nowhere}
use Rattle.command_patterns.specs.Canonical.{short, measured_is}

empty_length : (p : List ℕ) → length p ≡ 0 → is_empty p ≡ true
unfolding is_empty
empty_length [] h = refl
empty_length (b ∷ p) h = absurd (omega arith)

full_length : (p : List ℕ) → (length p ≡ 0 → ⊥) → is_empty p ≡ false
unfolding is_empty
full_length [] h = absurd (h refl)
full_length (b ∷ p) h = refl

-- no canonical pattern: every pattern is empty
pub none_written : (r : List ℕ) (ps : List (List ℕ)) → every is_empty ps ≡ eqb (length (canonical r ps)) 0
unfolding every canonical is_empty
none_written r [] = refl
none_written r ([] ∷ ps) = none_written r ps
none_written r ((b ∷ p) ∷ ps) = sym (ne_eqb (suc (length (canonical r ps))) 0 (λ e. omega arith))

-- the canonical patterns of the spans from a place on, after the reference r
abbrev pub canonical_from : List ℕ → List ℕ → List Span → ℕ → List (List ℕ)
canonical_from s r ts i = canonical r (map (span_bytes s) (drop i ts))

-- ---- one place

module _ (s r : List ℕ) (ts : List Span) (i : ℕ) where
  -- no place is left
  pub from_out : length ts ≤ i → canonical_from s r ts i ≡ []
  unfolding canonical
  from_out h = rw (drop_of_length-le ts h)

  module _ (h : i < length ts) where
    -- an empty pattern
    pub from_skip : length (span_bytes s (get_or ts i nowhere)) ≡ 0 → canonical_from s r ts i ≡ canonical_from s r ts (i + 1)
    unfolding canonical
    from_skip e = rw (add-one, drop-cons ts i nowhere h, empty_length (span_bytes s (get_or ts i nowhere)) e)

    -- any other one
    pub from_keep : (length (span_bytes s (get_or ts i nowhere)) ≡ 0 → ⊥) →
        canonical_from s r ts i ≡ (r ++ span_bytes s (get_or ts i nowhere)) ∷ canonical_from s r ts (i + 1)
    unfolding canonical
    from_keep e = rw (add-one, drop-cons ts i nowhere h, full_length (span_bytes s (get_or ts i nowhere)) e)

-- ---- counting

-- how many there are, and whether each is short, over what was counted before
pub record Counted (count : ℕ) (fit : Bool) (rest all : List (List ℕ)) : Type 0 where
  pub count_is : count + length rest ≡ length all
  pub fit_is : (fit && every short rest) ≡ every short all

pub counted_none : (all : List (List ℕ)) → Counted 0 true all all
counted_none all = record { count_is = omega arith; fit_is = refl }

module _ (count : ℕ) (fit : Bool) {rest : List (List ℕ)} (all : List (List ℕ)) (c : Counted count fit rest all) where
  pub counted_same : {rest' : List (List ℕ)} → rest ≡ rest' → Counted count fit rest' all
  counted_same e = subst (λ (x : List (List ℕ)). Counted count fit x all) e c

  pub counted_more : (r p : List ℕ) {rest' : List (List ℕ)} (ok : Bool) → rest ≡ (r ++ p) ∷ rest' → ok ≡ leb (length r + length p) 255 → Counted (count + 1) (fit && ok) rest' all
  unfolding every
  counted_more r p {rest'} ok e o =
      let whole : (fit && (short (r ++ p) && every short rest')) ≡ every short all = ap (λ (x : List (List ℕ)). fit && every short x) (sym e) ∙ c.fit_is in
      record {
        count_is = omega (arith, c.count_is, ap length e);
        fit_is = rw (o, ← length-append r p) (and_assoc fit (short (r ++ p)) (every short rest') ∙ whole);
      }

  pub counted_all : rest ≡ [] → record { count = count; fit = fit } ≡ measured_is all
  unfolding every
  counted_all e = λ i. record { count = many i; fit = fits i }
    where
      many : count ≡ length all
      many = omega (arith, c.count_is, ap length e)

      fits : fit ≡ every short all
      fits = sym (and-true fit) ∙ ap (λ (x : List (List ℕ)). fit && every short x) (sym e) ∙ c.fit_is
