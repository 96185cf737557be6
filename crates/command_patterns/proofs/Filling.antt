-- The eight places: they hold what was read, with one pattern more as before it; and how a list of patterns is read into them. Rests on
-- Bytes and Cuts of command_tokens.
use Rattle.std.specs.Prelude.{Option as Maybe, Some, None}
use Rattle.listing_rules.proofs.Prelude.{◌∙◌, ◌≡◌, ap, refl, subst, sym, cond, Option, none, some, List, [], ◌++◌, ◌∷◌, map, ◌+◌, ◌-◌, ◌<◌, ◌≤◌, min, suc}
use Rattle.listing_rules.proofs.Prelude.{zero, ℕ, add-one, dec_le, arith, leb, drop, drop_of_length-le, get_or, length, length-append, length-set}
use Rattle.listing_rules.proofs.Prelude.{replicate, set, take, append_snoc, drop-drop, drop-set-lt, take-suc-set, le-leb, lt-leb}
use Rattle.listing_rules.specs.Bytes.{text}
use Rattle.listing_rules.specs.Tokens.{Got, got, ◌>>=◌, with_first, pattern}
use Rattle.listing_rules.specs.Command.{parted, patterns}
use Rattle.command_tokens.specs.declared.Span.{Span}
use Rattle.command_patterns.specs.declared.Patterns.{Patterns}
use Rattle.command_tokens.specs.declared.Cursor.{Cursor}
use Rattle.command_tokens.specs.Spans.{span_bytes, Lies, nowhere}
use Rattle.command_patterns.specs.Places.{no_patterns, with_span, held, kept, eight, join_to, up_to_eight, patterns_is, Places, Placed, PlacedIn}
use Rattle.command_tokens.proofs.Cuts.{lies_nowhere}
use Rattle.command_tokens.proofs.Bytes.{after_here, after_other}

-- the places hold what was read
pub record Filled (s : List ℕ) (p : Patterns) (done : List (List ℕ)) : Type 0 where
  pub count : p.count ≡ min (length done) 9
  pub size : length p.spans ≡ 8
  pub bytes : length done ≤ 8 → held s p ≡ done
  pub places : Places s p.spans
  pub unused : drop p.count p.spans ≡ replicate (8 - p.count) nowhere

module _ (s : List ℕ) where
  pub filled_none : Filled s no_patterns []
  unfolding held
  filled_none =
      record {
        count = refl;
        size = refl;
        bytes = λ h. refl;
        places = let l = lies_nowhere s in (l, (l, (l, (l, (l, (l, (l, (l, tt))))))));
        unused = refl;
      }

  places_set : (ts : List Span) (i : ℕ) (t : Span) → Places s ts → Lies s t → Places s (set ts i t)
  places_set [] i t h l = tt
  places_set (u ∷ ts) zero t h l = (l, h.1)
  places_set (u ∷ ts) (suc i) t h l = (h.0, places_set ts i t h.1 l)

  -- the places after the one that was set stay empty
  unused_set : (ts : List Span) (n : ℕ) (t : Span) → drop n ts ≡ replicate (8 - n) nowhere → n < 8 → drop (n + 1) (set ts n t) ≡ replicate (8 - (n + 1)) nowhere
  unused_set ts n t e h = drop-set-lt (n + 1) ts n t (omega arith) ∙ one_less (8 - n) (8 - (n + 1)) (omega arith) e
    where
      one_less : (k j : ℕ) → k ≡ suc j → drop n ts ≡ replicate k nowhere → drop (n + 1) ts ≡ replicate j nowhere
      one_less k j q g = sym (drop-drop 1 n ts) ∙ ap (drop 1) (g ∙ ap (λ (x : ℕ). replicate x nowhere) q)

  map_snoc : (ts : List Span) (t : Span) → map (span_bytes s) (ts ++ (t ∷ [])) ≡ map (span_bytes s) ts ++ (span_bytes s t ∷ [])
  map_snoc [] t = refl
  map_snoc (u ∷ ts) t = ap (λ (x : List (List ℕ)). span_bytes s u ∷ x) (map_snoc ts t)

  module _ (p : Patterns) (done : List (List ℕ)) (t : Span) (f : Filled s p done) (l : Lies s t) where
    one_more : length (done ++ (span_bytes s t ∷ [])) ≡ length done + 1
    one_more = length-append done (span_bytes s t ∷ [])

    room : p.count < 8 → Filled s (record { spans = set p.spans p.count t; count = p.count + 1 }) (done ++ (span_bytes s t ∷ []))
    unfolding held
    room h =
        record {
          count = omega (arith, one_more, f.count);
          size = length-set p.spans p.count t ∙ f.size;
          bytes =
              λ k. rw (add-one, take-suc-set p.spans p.count t (omega (arith, f.size)))
              (map_snoc (take p.count p.spans) t ∙ ap (λ (x : List (List ℕ)). x ++ (span_bytes s t ∷ [])) (f.bytes (omega (arith, f.count))));
          places = places_set p.spans p.count t f.places l;
          unused = unused_set p.spans p.count t f.unused h;
        }

    full : 8 ≤ p.count → Filled s (record { spans = p.spans; count = 9 }) (done ++ (span_bytes s t ∷ []))
    full h =
        let nine : length p.spans ≤ 9 = omega (arith, f.size) in
        record {
          count = omega (arith, one_more, f.count);
          size = f.size;
          bytes = λ k. absurd (omega (arith, one_more, f.count));
          places = f.places;
          unused = drop_of_length-le p.spans nine;
        }

    pub filled_with : Filled s (with_span p t) (done ++ (span_bytes s t ∷ []))
    unfolding with_span
    filled_with = elim (dec_le 8 p.count) [ yes h ↦ rw (le-leb 8 p.count h) (full h) | no h ↦ rw (lt-leb 8 p.count (omega arith)) (room (omega arith)) ]

  -- what is kept is what the paper's list is, unless that is longer than eight
  pub kept_filled : (p : Patterns) (done : List (List ℕ)) → Filled s p done → kept s p ≡ eight done
  unfolding kept eight
  kept_filled p done f = elim (dec_le (length done) 8) [ yes h ↦ few h | no h ↦ many (omega arith) ]
    where
      few : length done ≤ 8 → cond (leb p.count 8) (some (held s p)) none ≡ cond (leb (length done) 8) (some done) none
      few h = rw (le-leb p.count 8 (omega (arith, f.count)), le-leb (length done) 8 h, f.bytes h)

      many : 8 < length done → cond (leb p.count 8) (some (held s p)) none ≡ cond (leb (length done) 8) (some done) none
      many h = rw (lt-leb p.count 8 (omega (arith, f.count)), lt-leb (length done) 8 h)

pub placed_filled : (s : List ℕ) (p : Patterns) (done : List (List ℕ)) → Filled s p done → Placed s p
placed_filled s p done f = record { size = f.size; places = f.places; unused = f.unused }

-- one pattern goes from the list to those that were read
pub join_more : (done : List (List ℕ)) (a : List ℕ) (r : Got (List (List ℕ))) → join_to done (with_first a r) ≡ join_to (done ++ (a ∷ [])) r
unfolding join_to with_first got
join_more done a r = rw (append_snoc done a r.val)

module _ (s : List ℕ) (i : ℕ) where
  pub patterns_list : get_or s i 0 ≡ 40 → patterns (drop i s) ≡ parted pattern (length (drop (i + 1) s)) (drop (i + 1) s)
  unfolding patterns text
  patterns_list h = rw (after_here s i 40 (omega arith) h, patterns)

  patterns_one : (get_or s i 0 ≡ 40 → ⊥) → patterns (drop i s) ≡ (pattern (drop i s) >>= λ g. some (got (g.val ∷ []) g.rest))
  unfolding patterns text
  patterns_one h = rw (after_other s i 40 h, patterns)

  pub patterns_off : (get_or s i 0 ≡ 40 → ⊥) → pattern (drop i s) ≡ none → up_to_eight (patterns (drop i s)) ≡ none
  unfolding up_to_eight ◌>>=◌
  patterns_off h e = rw (patterns_one h, e)

  pub patterns_single : (a u : List ℕ) → (get_or s i 0 ≡ 40 → ⊥) → pattern (drop i s) ≡ some (got a u) → up_to_eight (patterns (drop i s)) ≡ some (got (eight (a ∷ [])) u)
  unfolding up_to_eight ◌>>=◌ join_to got
  patterns_single a u h e = rw (patterns_one h, e)

-- patterns that were read, or were not
module _ (s : List ℕ) {r : Maybe (Patterns × Cursor)} {x : Option (Got (Option (List (List ℕ))))} (e : patterns_is s r ≡ x) where
  pub patterns_behind : {p : Patterns} {c : Cursor} → r ≡ Some (p, c) → x ≡ some (got (kept s p) (drop c.at s))
  unfolding patterns_is
  patterns_behind q = sym e ∙ ap (patterns_is s) q

  pub patterns_nothing : r ≡ None → x ≡ none
  unfolding patterns_is
  patterns_nothing q = sym e ∙ ap (patterns_is s) q

pub patterns_placed : (s : List ℕ) {r : Maybe (Patterns × Cursor)} {p : Patterns} {c : Cursor} → PlacedIn s r → r ≡ Some (p, c) → Placed s p
unfolding PlacedIn
patterns_placed s h q = subst (PlacedIn s) q h
