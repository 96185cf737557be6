-- Steps at the front, where the pattern's bytes stood for themselves and were the name's. Rests on Running.
use Rattle.listing_rules.proofs.Prelude.{◌∙◌, ◌≡◌, ap, refl, sym, List, [], ◌∷◌, Bool, cond, false, false≢true, true, ℕ, ◌+◌, ◌<◌, eqb, eq-eqb}
use Rattle.listing_rules.proofs.Prelude.{ne_eqb}
use Rattle.listing_rules.specs.Bytes.{slash}
use Rattle.pattern.specs.declared.steps.At.{At}
use Rattle.pattern.specs.declared.steps.Going.TheVariants.{Matched}
use Rattle.pattern.specs.declared.front.Next.{Next}
use Rattle.pattern.specs.declared.front.Next.TheVariants.{Front as Next-as-Front, Level as Next-as-Level, Any as Next-as-Any, Matched as Next-as-Matched}
use Rattle.pattern.specs.declared.front.Next.TheVariants.{Missed as Next-as-Missed}
use Rattle.pattern.specs.declared.front.Front.{Front}
use Rattle.pattern.specs.Folded.{letter_of}
use Rattle.pattern.specs.Steps.{byte_is, slash_is, went_is, ended_is, begun_is, star_is, settled_as, step_is, front_at, wild_at, fronted_at, front_is}
use Rattle.pattern.specs.Steps.{front_ends, is_over, is_match, wildcard_of, last_byte, apart, ends_is, capped_at, Ran}
use Rattle.pattern.proofs.Stepping.{due_at}
use Rattle.pattern.proofs.Running.{Turn, Told, ends_told, turn_next, turn_less}

-- a byte of both, a slash or another
pub front_byte : (c d i k : ℕ) → c ≡ d → byte_is c d (front_at i k) ≡ front_at (i + 1) (k + 1)
unfolding byte_is settled_as
front_byte c d i k e = rw (eq-eqb c d e) (go (eqb c slash))
  where
    go : (s : Bool) → cond s (slash_is (front_at i k)) (went_is (front_at i k) (i + 1) (i + 1) (front_at i k).run (front_at i k).star) ≡ front_at (i + 1)
        (k + 1)
    go true = refl
    go false = refl

-- a "*" that is the last byte, and one that is not
module _ (a b : ℕ) (t : At) where
  pub star_ends : a ≡ b → star_is (eqb a b) t ≡ ended_is t Matched
  unfolding star_is
  star_ends e = rw (eq-eqb a b e)

  pub star_begins : (a ≡ b → ⊥) → star_is (eqb a b) t ≡ begun_is t (t.i + 1) t.j
  unfolding star_is
  star_begins e = rw (ne_eqb a b e)

-- a step by what its definition comes to
pub front_led : {f : Front} {i k : ℕ} {x : Next} {t u : At} → f ≡ record { i = i; steps = k; next = x } → t ≡ u → fronted_at x i k ≡ capped_at u
    → front_is f ≡ capped_at t
front_led e h g = ap (λ (v : Front). front_is v) e ∙ g ∙ ap (λ (v : At). capped_at v) (sym h)

-- ---- by where the last step led

front_is_lem : (x : Next) (i k : ℕ) → front_ends x ≡ false → fronted_at x i k ≡ front_at i k
unfolding front_ends
front_is_lem Next-as-Front i k e = refl
front_is_lem Next-as-Level i k e = absurd (false≢true (sym e))
front_is_lem Next-as-Any i k e = absurd (false≢true (sym e))
front_is_lem Next-as-Matched i k e = absurd (false≢true (sym e))
front_is_lem Next-as-Missed i k e = absurd (false≢true (sym e))

module _ (fold : Bool) (p n : List ℕ) where
  abbrev ToldOf : Next → ℕ → ℕ → Type 0
  ToldOf x i k = Told fold p n (fronted_at x i k) (fronted_at x i k).going

  on_turn : (x : Next) (i k : ℕ) → ToldOf x i k → front_ends x ≡ false → Turn fold p n (front_at i k)
  unfolding front_ends
  on_turn Next-as-Front i k t e = t
  on_turn Next-as-Level i k t e = absurd (false≢true (sym e))
  on_turn Next-as-Any i k t e = absurd (false≢true (sym e))
  on_turn Next-as-Matched i k t e = absurd (false≢true (sym e))
  on_turn Next-as-Missed i k t e = absurd (false≢true (sym e))

  over_ran : (x : Next) (i k : ℕ) → ToldOf x i k → is_over x ≡ true → Ran fold p n (record { matched = is_match x; steps = k })
  unfolding is_over is_match
  over_ran Next-as-Front i k t e = absurd (false≢true e)
  over_ran Next-as-Level i k t e = absurd (false≢true e)
  over_ran Next-as-Any i k t e = absurd (false≢true e)
  over_ran Next-as-Matched i k t e = t
  over_ran Next-as-Missed i k t e = t

  wild_turn : (x : Next) (i k : ℕ) → ToldOf x i k → front_ends x ≡ true → is_over x ≡ false → Turn fold p n (wild_at (wildcard_of x) i k)
  unfolding front_ends is_over wildcard_of
  wild_turn Next-as-Front i k t e o = absurd (false≢true e)
  wild_turn Next-as-Level i k t e o = t
  wild_turn Next-as-Any i k t e o = t
  wild_turn Next-as-Matched i k t e o = absurd (false≢true (sym o))
  wild_turn Next-as-Missed i k t e o = absurd (false≢true (sym o))

  -- after the look at the ends
  ends_goes : (m l : List ℕ) → is_over (ends_is fold m l).next ≡ false → front_ends (ends_is fold m l).next ≡ false
  unfolding ends_is is_over front_ends
  ends_goes [] l e = refl
  ends_goes (c ∷ ps) [] e = refl
  ends_goes (c ∷ ps) (d ∷ l) e = go (apart (letter_of fold (last_byte c ps)) (last_byte d l)) e
    where
      go : (b : Bool) → is_over (cond b Next-as-Missed Next-as-Front) ≡ false → front_ends (cond b Next-as-Missed Next-as-Front) ≡ false
      go true z = absurd (false≢true (sym z))
      go false z = refl

  module _ (f : Front) (e : f ≡ ends_is fold p n) where
    pub first_turn : is_over f.next ≡ false → Turn fold p n (front_at f.i f.steps)
    first_turn o =
        on_turn f.next f.i f.steps (rw e (ends_told fold p n)) (rw e (ends_goes p n (rw e at o)))

    pub first_over : is_over f.next ≡ true → Ran fold p n (record { matched = is_match f.next; steps = f.steps })
    first_over o = over_ran f.next f.i f.steps (rw e (ends_told fold p n)) o

  -- after a step from where the match stands
  module _ (t : At) (turn : Turn fold p n t) (r : Front) (s : front_is r ≡ capped_at (step_is fold p n t)) where
    told : ToldOf r.next r.i r.steps
    told = turn_next fold p n t turn (front_is r) s (front_is r).going refl

    pub front_over : is_over r.next ≡ true → Ran fold p n (record { matched = is_match r.next; steps = r.steps })
    front_over o = over_ran r.next r.i r.steps told o

    pub front_wild : front_ends r.next ≡ true → is_over r.next ≡ false → Turn fold p n (wild_at (wildcard_of r.next) r.i r.steps)
    front_wild e o = wild_turn r.next r.i r.steps told e o

    module _ (e : front_ends r.next ≡ false) where
      pub front_next : Turn fold p n (front_at r.i r.steps)
      front_next = on_turn r.next r.i r.steps told e

      pub front_less : due_at fold p n (front_at r.i r.steps) < due_at fold p n t
      front_less = turn_less fold p n t turn (front_at r.i r.steps) (sym (front_is_lem r.next r.i r.steps e) ∙ s) refl
