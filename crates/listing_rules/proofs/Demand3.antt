-- Demand 3 in the paper's form: the walk is refused exactly if a buffer is too small, and else comes to what the table says. Rests on WalkWhole.
use Rattle.listing_rules.proofs.Prelude.{◌≡◌, refl, Bool, ◌||◌, false, true, ◌⊎◌, inl, inr, ⊎_elim, [], ◌++◌, ◌∷◌, ℕ, arith, ltb, length}
use Rattle.listing_rules.proofs.Prelude.{ltb-false, ltb-true}
use Rattle.listing_rules.specs.Bytes.{slash, one_of}
use Rattle.listing_rules.specs.Lists.{any_of}
use Rattle.listing_rules.specs.Table.{Table, rows, passes}
use Rattle.listing_rules.specs.Walk.{lawful_byte, walk, walk_refused, packed}
use Rattle.listing_rules.specs.Demand3.{Demand3, meeting_names, meeting_ancestors, walk_answer, scratch_too_small, found_too_small, pending_too_small}
use Rattle.listing_rules.specs.Demand3.{too_small}
use Rattle.listing_rules.proofs.Bools.{or_cases, or_none_l, or_none_r}
use Rattle.listing_rules.proofs.ListLaws.{some_mem, none_mem}
use Rattle.listing_rules.proofs.Levels.{Name}
use Rattle.listing_rules.proofs.Outcome.{Short, scratch_short, found_short_lem, pending_short}
use Rattle.listing_rules.proofs.WalkSets.{Walks}
use Rattle.listing_rules.proofs.WalkWhole.{Room, declared, demand_3_whole}

short_number : (k : ℕ) → Short k → one_of (9 ∷ 10 ∷ 11 ∷ []) k ≡ true
unfolding one_of
short_number k scratch_short = refl
short_number k found_short_lem = refl
short_number k pending_short = refl

-- `Room` says that no buffer is too small
module _ (t : Table) (o scratch found pending : ℕ) (wk : Walks t o) where
  abbrev answer_size : Name → ℕ
  answer_size reference = length (walk_answer (rows t) o reference)

  abbrev found_size : ℕ
  found_size = length (packed (meeting_names (rows t) o))

  abbrev pending_size : ℕ
  pending_size = length (packed (meeting_ancestors (rows t) o))

  abbrev first_short : Bool
  first_short = ltb scratch (answer_size [])

  abbrev next_short : Bool
  next_short = any_of (λ a. ltb scratch (answer_size (a ++ (slash ∷ [])))) (meeting_ancestors (rows t) o)

  abbrev found_short : Bool
  found_short = ltb found found_size

  room_fits : Room t o wk scratch found pending → too_small (rows t) o scratch found pending ≡ true → ⊥
  unfolding too_small scratch_too_small found_too_small pending_too_small
  room_fits R e =
      ⊎_elim buffers (λ g. omega (arith, ltb-true pending pending_size g, R.pending_fits))
      (or_cases ((first_short || next_short) || found_short) (ltb pending pending_size) e)
    where
      next : next_short ≡ true → ⊥
      next g =
          let w = some_mem (λ a. ltb scratch (answer_size (a ++ (slash ∷ [])))) (meeting_ancestors (rows t) o) g in
          omega (arith, ltb-true scratch (answer_size (w.0 ++ (slash ∷ []))) w.2, R.next w.0 w.1)

      answers : (first_short || next_short) ≡ true → ⊥
      answers f = ⊎_elim (λ g. omega (arith, ltb-true scratch (answer_size []) g, R.first)) next (or_cases first_short next_short f)

      buffers : ((first_short || next_short) || found_short) ≡ true → ⊥
      buffers f = ⊎_elim answers (λ g. omega (arith, ltb-true found found_size g, R.found_fits)) (or_cases (first_short || next_short) found_short f)

  fits_room : too_small (rows t) o scratch found pending ≡ false → Room t o wk scratch found pending
  unfolding too_small scratch_too_small found_too_small pending_too_small
  fits_room e =
      let e₁ = or_none_l ((first_short || next_short) || found_short) (ltb pending pending_size) e in
      let e₂ = or_none_l (first_short || next_short) found_short e₁ in
      record {
        first = ltb-false scratch (answer_size []) (or_none_l first_short next_short e₂);
        next = λ a m. ltb-false scratch (answer_size (a ++ (slash ∷ [])))
            (none_mem (λ a. ltb scratch (answer_size (a ++ (slash ∷ [])))) (meeting_ancestors (rows t) o) (or_none_r first_short next_short e₂) a m);
        found_fits = ltb-false found found_size (or_none_r (first_short || next_short) found_short e₁);
        pending_fits = ltb-false pending pending_size (or_none_r ((first_short || next_short) || found_short) (ltb pending pending_size) e);
      }

pub demand_3_holds : (t : Table) (o scratch found pending : ℕ) → passes t ≡ true → lawful_byte o ≡ true →
    Demand3 t o scratch found pending (walk t o scratch found pending)
unfolding Demand3
demand_3_holds t o scratch found pending ok lw =
    pick (too_small (rows t) o scratch found pending) refl (demand_3_whole t o (ok, lw) scratch found pending)
  where
    R : Type 0
    R = Room t o (ok, lw) scratch found pending

    pick : (b : Bool) → too_small (rows t) o scratch found pending ≡ b
        → (R × (walk t o scratch found pending ≡ declared t o (ok, lw) scratch found pending))
        ⊎ ((R → ⊥) × ((k : ℕ) × Short k × (walk t o scratch found pending ≡ walk_refused k)))
        → Demand3 t o scratch found pending (walk t o scratch found pending)
    pick true e (inl w) = absurd (room_fits t o scratch found pending (ok, lw) w.0 e)
    pick false e (inl w) = rw w.1 (e, refl, refl, refl)
    pick true e (inr w) = rw w.1.2 (e, short_number w.1.0 w.1.1)
    pick false e (inr w) = absurd (w.0 (fits_room t o scratch found pending (ok, lw) e))
