-- The bound on the walk's steps does not matter where it is at least two more than the candidates. Rests on WalkWhole.
use Rattle.listing_rules.proofs.Prelude.{◌∙◌, ◌≡◌, ap, refl, List, [], ◌++◌, ◌∷◌, ◌≤◌, suc, zero, ℕ, arith, drop, length}
use Rattle.listing_rules.specs.Bytes.{slash}
use Rattle.listing_rules.specs.Table.{Table, rows}
use Rattle.listing_rules.specs.Listing.{candidates}
use Rattle.listing_rules.specs.Walk.{Lists, Step, stop, go, ◌then◌, Walked, asked, walk_from, walk_all}
use Rattle.listing_rules.proofs.Order.{View, view, less, equal, more}
use Rattle.listing_rules.proofs.WalkSets.{Walks}
use Rattle.listing_rules.proofs.WalkWhole.{walk_ends}

-- a sequence of steps that changes only while it is out of steps
steady : {A : Type 0} (f : ℕ → Step A) (base : ℕ) → ((k : ℕ) → (f k ≡ stop 0 → ⊥) → f (suc k) ≡ f k) → (f base ≡ stop 0 → ⊥) → (k : ℕ) → base ≤ k → f k ≡ f base
steady f base up ends zero h = ap f (omega arith)
steady f base up ends (suc k) h = pick (view base (suc k)) (steady f base up ends k)
  where
    pick : View base (suc k) → (base ≤ k → f k ≡ f base) → f (suc k) ≡ f base
    pick (less c l) ih = let e = ih (omega arith) in up k (λ z. ends (cc)) ∙ e
    pick (equal c e) ih = rw e
    pick (more c l) ih = absurd (omega arith)

bind_more : {A B : Type 0} (x : Step A) (f g : A → Step B) → ((a : A) → (g a ≡ stop 0 → ⊥) → f a ≡ g a) → ((x then g) ≡ stop 0 → ⊥) → (x then f) ≡ (x then g)
unfolding ◌then◌
bind_more (stop k) f g h n = refl
bind_more (go a) f g h n = h a n

-- one step more changes nothing where the walk is not out of steps
module _ (t : Table) (o scratch found pending : ℕ) where
  -- a step, with the names that are still to be asked
  step_at : ℕ → ℕ → Lists → List (List ℕ) → Step Walked
  step_at k done s l =
      elim l [ [] ↦ go (record { count = suc done; lists = s }) | n ∷ ns ↦ (asked t o scratch found pending s (n ++ (slash ∷ [])) then λ u. walk_from t o scratch found pending k (suc done) u) ]

  abbrev Steady : ℕ → ℕ → Lists → Type 0
  Steady k done s = (walk_from t o scratch found pending k done s ≡ stop 0 → ⊥)
      → walk_from t o scratch found pending (suc k) done s ≡ walk_from t o scratch found pending k done s

  from_more : (k done : ℕ) (s : Lists) → Steady k done s
  unfolding walk_from step_at
  from_more zero done s n = absurd (n refl)
  from_more (suc k) done s n = pick (drop done s.asks) (λ u. from_more k (suc done) u) n
    where
      pick : (l : List (List ℕ)) → ((u : Lists) → Steady k (suc done) u) → (step_at k done s l ≡ stop 0 → ⊥) → step_at (suc k) done s l ≡ step_at k done s l
      pick [] ih n = refl
      pick (a ∷ l) ih n = bind_more (asked t o scratch found pending s (a ++ (slash ∷ []))) _ _ ih n

  all_more : (k : ℕ) → (walk_all t o scratch found pending k ≡ stop 0 → ⊥) → walk_all t o scratch found pending (suc k) ≡ walk_all t o scratch found pending k
  unfolding walk_all
  all_more k n = bind_more (asked t o scratch found pending (record { finds = []; asks = [] }) []) _ _ (from_more k 0) n

pub walk_fuel : (t : Table) (o scratch found pending k : ℕ) → Walks t o → suc (suc (length (candidates (rows t)))) ≤ k
    → walk_all t o scratch found pending k ≡ walk_all t o scratch found pending (suc (suc (length (candidates (rows t)))))
walk_fuel t o scratch found pending k wk h =
    steady (walk_all t o scratch found pending) (suc (suc (length (candidates (rows t))))) (all_more t o scratch found pending) (walk_ends t o wk scratch found pending) k h
