-- One step as the code has it, and the first, at the ends: what the definitions of a step come to under the code's own tests. Rests on Folded.
use Rattle.listing_rules.proofs.Prelude.{◌∙◌, ◌≡◌, ap, refl, sym, Bool, cond, false, true, List, [], ◌∷◌, ◌+◌, ◌-◌, ◌<◌, ◌≤◌, suc, ℕ, arith, eqb}
use Rattle.listing_rules.proofs.Prelude.{drop, drop_of_length-le, get_or, length, length-drop, drop-cons, eq-eqb, ne_eqb}
use Rattle.listing_rules.specs.Bytes.{is_empty, slash}
use Rattle.pattern.specs.declared.steps.Kind.{Kind}
use Rattle.pattern.specs.declared.steps.Kind.TheVariants.{Plain, Level, Any}
use Rattle.pattern.specs.declared.steps.Going.TheVariants.{Matched, Missed}
use Rattle.pattern.specs.declared.steps.At.{At}
use Rattle.pattern.specs.declared.front.Next.TheVariants.{Front as Next-as-Front, Missed as Next-as-Missed}
use Rattle.pattern.specs.declared.front.Front.{Front}
use Rattle.pattern.specs.Folded.{folded}
use Rattle.pattern.specs.Steps.{BackedAs, went_is, ended_is, resumed_is, retried_is, given_up_as, given_up_is, star_is, level_is, slash_is, byte_is, name_is}
use Rattle.pattern.specs.Steps.{looked_at, step_is, last_byte, apart, led_is, ends_looked, unlooked, ends_is, capped_at, capped_front}
use Rattle.pattern.proofs.Folded.{letter_at, folded_at}

-- a step by what its definition comes to
pub as_capped : {a t u : At} → a ≡ capped_at t → u ≡ t → a ≡ capped_at u
as_capped e f = e ∙ ap (λ (v : At). capped_at v) (sym f)

-- ---- no match here

-- a run after a wildcard lies in the pattern and in the name
pub backed_level : (k : Kind) (back i j : ℕ) → k ≡ Level → BackedAs k back i j → (back ≤ i) × (i ≤ j + back)
backed_level k back i j e h = rw e at h

pub backed_any : (k : Kind) (back i j : ℕ) → k ≡ Any → BackedAs k back i j → (back ≤ i) × (i ≤ j + back)
backed_any k back i j e h = rw e at h

module _ (t : At) (d : ℕ) where
  pub given_plain : t.run.kind ≡ Plain → given_up_is t d ≡ resumed_is t
  unfolding given_up_as
  given_plain e = ap (λ (k : Kind). given_up_as k t d) e

  pub given_any : t.run.kind ≡ Any → given_up_is t d ≡ retried_is t
  unfolding given_up_as
  given_any e = ap (λ (k : Kind). given_up_as k t d) e

  module _ (e : t.run.kind ≡ Level) where
    pub given_byte : (d ≡ 47 → ⊥) → given_up_is t d ≡ retried_is t
    unfolding given_up_as slash
    given_byte f =
        ap (λ (k : Kind). given_up_as k t d) e
        ∙ ap (λ (b : Bool). cond b (cond (eqb t.i t.run.back) (resumed_is t) (retried_is t)) (retried_is t)) (ne_eqb d 47 f)

    given_slash : d ≡ 47 → given_up_is t d ≡ cond (eqb t.i t.run.back) (resumed_is t) (retried_is t)
    unfolding given_up_as slash
    given_slash f =
        ap (λ (k : Kind). given_up_as k t d) e
        ∙ ap (λ (b : Bool). cond b (cond (eqb t.i t.run.back) (resumed_is t) (retried_is t)) (retried_is t)) (eq-eqb d 47 f)

    pub given_run : d ≡ 47 → (t.i ≡ t.run.back → ⊥) → given_up_is t d ≡ retried_is t
    given_run f g = given_slash f ∙ ap (λ (b : Bool). cond b (resumed_is t) (retried_is t)) (ne_eqb t.i t.run.back g)

    pub given_level : d ≡ 47 → t.i ≡ t.run.back → given_up_is t d ≡ resumed_is t
    given_level f g = given_slash f ∙ ap (λ (b : Bool). cond b (resumed_is t) (retried_is t)) (eq-eqb t.i t.run.back g)

-- ---- a byte that stands for itself

module _ (c d : ℕ) (t : At) where
  pub byte_differs : (c ≡ d → ⊥) → byte_is c d t ≡ given_up_is t d
  unfolding byte_is
  byte_differs e = rw (ne_eqb c d e)

  pub byte_slash : c ≡ d → c ≡ 47 → byte_is c d t ≡ slash_is t
  unfolding byte_is slash
  byte_slash e f = rw (eq-eqb c d e, eq-eqb c 47 f)

  pub byte_taken : c ≡ d → (c ≡ 47 → ⊥) → byte_is c d t ≡ went_is t (t.i + 1) (t.j + 1) t.run t.star
  unfolding byte_is slash
  byte_taken e f = rw (eq-eqb c d e, ne_eqb c 47 f)

-- ---- any place of the pattern

rest_none : (fold : Bool) (p : List ℕ) (i : ℕ) → length p ≤ i → folded fold (drop i p) ≡ []
unfolding folded
rest_none fold p i h = rw (drop_of_length-le p h)

-- what is left is empty exactly at the end
empty_at : (fold : Bool) (p : List ℕ) (i : ℕ) → i ≤ length p → is_empty (folded fold (drop i p)) ≡ eqb i (length p)
unfolding is_empty folded
empty_at fold p i h = go (drop i p) (length-drop i p)
  where
    go : (l : List ℕ) → length l ≡ length p - i → is_empty (folded fold l) ≡ eqb i (length p)
    go [] e = sym (eq-eqb i (length p) (omega arith))
    go (c ∷ l) e = sym (ne_eqb i (length p) (λ g. omega arith))

module _ (fold : Bool) (pattern name : List ℕ) (t : At) where
  pub step_end : t.i ≡ length pattern → t.j ≡ length name → step_is fold pattern name t ≡ ended_is t Matched
  unfolding step_is looked_at
  step_end e g = rw (rest_none fold pattern t.i (omega arith), drop_of_length-le name {i = t.j} (omega arith))

  pub step_over : t.i ≡ length pattern → t.j < length name → step_is fold pattern name t ≡ given_up_is t (get_or name t.j 0)
  unfolding step_is looked_at
  step_over e h = rw (rest_none fold pattern t.i (omega arith), drop-cons name t.j 0 h)

  module _ (h : t.i < length pattern) (c : ℕ) (e : c ≡ letter_at fold pattern t.i) where
    pub step_star : c ≡ 42 → step_is fold pattern name t ≡ star_is (eqb (t.i + 1) (length pattern)) t
    unfolding step_is looked_at
    step_star g =
        rw (folded_at fold pattern t.i h, ← e, g) (ap (λ (b : Bool). star_is b t) (empty_at fold pattern (t.i + 1) (omega arith)))

    pub step_level : c ≡ 37 → step_is fold pattern name t ≡ level_is t
    unfolding step_is looked_at
    step_level g = rw (folded_at fold pattern t.i h, ← e, g)

    module _ (f : c ≡ 42 → ⊥) (g : c ≡ 37 → ⊥) where
      step_name : step_is fold pattern name t ≡ name_is c (drop t.j name) t
      unfolding step_is looked_at
      step_name = rw (folded_at fold pattern t.i h, ← e, ne_eqb c 42 f, ne_eqb c 37 g)

      pub step_missed : t.j ≡ length name → step_is fold pattern name t ≡ ended_is t Missed
      unfolding name_is
      step_missed k = step_name ∙ rw (drop_of_length-le name {i = t.j} (omega arith))

      pub step_byte : t.j < length name → step_is fold pattern name t ≡ byte_is c (get_or name t.j 0) t
      unfolding name_is
      step_byte k = step_name ∙ rw (drop-cons name t.j 0 k)

-- ---- the first step

last_at : (c : ℕ) (l : List ℕ) → get_or (c ∷ l) (length (c ∷ l) - 1) 0 ≡ last_byte c l
unfolding last_byte
last_at c [] = refl
last_at c (b ∷ l) =
    let w : length (c ∷ b ∷ l) - 1 ≡ suc (length l) = omega arith in
    let v : length (b ∷ l) - 1 ≡ length l = omega arith in
    rw w (rw v at (last_at b l))

module _ (fold : Bool) where
  pub ends_blank : (pattern name : List ℕ) → length pattern ≡ 0 → ends_is fold pattern name ≡ unlooked
  unfolding ends_is
  ends_blank [] name e = refl
  ends_blank (c ∷ ps) name e = absurd (omega arith)

  pub ends_nameless : (pattern name : List ℕ) → length name ≡ 0 → ends_is fold pattern name ≡ unlooked
  unfolding ends_is
  ends_nameless [] name e = refl
  ends_nameless (c ∷ ps) [] e = refl
  ends_nameless (c ∷ ps) (d ∷ m) e = absurd (omega arith)

  -- by the bytes at the last places
  pub ends_by : (pattern name : List ℕ) → (length pattern ≡ 0 → ⊥) → (length name ≡ 0 → ⊥)
      → ends_is fold pattern name ≡ ends_looked (letter_at fold pattern (length pattern - 1)) (get_or name (length name - 1) 0) unlooked
  unfolding ends_is
  ends_by [] name p n = absurd (p refl)
  ends_by (c ∷ ps) [] p n = absurd (n refl)
  ends_by (c ∷ ps) (d ∷ m) p n = rw (← last_at c ps, ← last_at d m)

-- the step itself, by whether its bytes are apart
module _ (b c d : ℕ) (f r : Front) (e : b ≡ c) where
  pub looked_apart : apart b d ≡ true → r ≡ capped_front (led_is f f.i Next-as-Missed) → r ≡ capped_front (ends_looked c d f)
  looked_apart a l = rw (← e, a) l

  pub looked_alike : apart b d ≡ false → r ≡ capped_front (led_is f f.i Next-as-Front) → r ≡ capped_front (ends_looked c d f)
  looked_alike a l = rw (← e, a) l
