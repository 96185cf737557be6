-- The records of a packed table from a place on, as a loop over the bytes meets them; records without overlap, one by one. Rests on Bools.
use Rattle.listing_rules.proofs.Prelude.{◌∙◌, ◌≡◌, refl, sym, Bool, ◌&&◌, ◌||◌, and-true, false, true, List, [], ◌++◌, ◌∷◌, ◌*◌, ◌+◌, ◌<◌, ◌≤◌}
use Rattle.listing_rules.proofs.Prelude.{suc, zero, ℕ, add-zero, arith, leb, drop, drop_of_length-le, get_or, length, drop-cons, drop-drop}
use Rattle.listing_rules.proofs.Prelude.{get_or-drop}
use Rattle.listing_rules.specs.Lists.{every}
use Rattle.listing_rules.specs.Records.{Record, apart, all_apart, records_after}
use Rattle.listing_rules.proofs.Bools.{and_l, and_r, and_i, and_assoc}

pub records_drop : (k at : ℕ) (t : List ℕ) → records_after at k t ≡ records_after (at + k) 0 (drop k t)
unfolding records_after
records_drop zero at t = rw (add-zero at)
records_drop (suc k) at [] = refl
records_drop (suc k) at (x ∷ t) = let e : suc at + k ≡ at + suc k = omega arith in rw (← e) (records_drop k (suc at) t)

-- the record whose row begins at a place
abbrev pub record_there : List ℕ → ℕ → Record
record_there t at = record { flags = 256 * get_or t at 0 + get_or t (at + 1) 0; start = at + 4; len = get_or t (at + 3) 0; readers = get_or t (at + 2) 0 }

module _ (t : List ℕ) (at : ℕ) where
  pub records_end : length t ≤ at → records_after at 0 (drop at t) ≡ []
  unfolding records_after
  records_end h = rw (drop_of_length-le t h)

  pub records_at : at < length t → records_after at 0 (drop at t) ≡ record_there t at ∷
      records_after (at + 4 + get_or t (at + 3) 0) 0 (drop (at + 4 + get_or t (at + 3) 0) t)
  unfolding records_after
  records_at h =
      let a : suc at + 0 ≡ at + 1 = omega arith in
      let b : suc at + 1 ≡ at + 2 = omega arith in
      let d : suc at + 2 ≡ at + 3 = omega arith in
      let c : suc at + suc (suc (suc (get_or t (at + 3) 0))) ≡ at + 4 + get_or t (at + 3) 0 = omega arith in
      rw (
        drop-cons t at 0 h,
        get_or-drop (suc at) t 0 0,
        get_or-drop (suc at) t 1 0,
        get_or-drop (suc at) t 2 0,
        a,
        b,
        d,
        records_drop (suc (suc (suc (get_or t (at + 3) 0)))) (suc at) (drop (suc at) t),
        drop-drop (suc (suc (suc (get_or t (at + 3) 0)))) (suc at) t,
        c,
      )

-- of two names, neither is the first
apart_turned : (r q : Record) → apart r q ≡ apart q r
unfolding apart
apart_turned r q = go (leb (r.start + r.len) q.start) (leb (q.start + q.len) r.start)
  where
    go : (a b : Bool) → (a || b) ≡ (b || a)
    go true true = refl
    go true false = refl
    go false true = refl
    go false false = refl

-- one record more at the end
every_snoc : (p : Record → Bool) (rs : List Record) (r : Record) → every p (rs ++ r ∷ []) ≡ (every p rs && p r)
unfolding every
every_snoc p [] r = and-true (p r)
every_snoc p (q ∷ rs) r = rw (every_snoc p rs r) (sym (and_assoc (p q) (every p rs) (p r)))

pub all_apart_snoc : (rs : List Record) (r : Record) → all_apart rs ≡ true → every (apart r) rs ≡ true → all_apart (rs ++ r ∷ []) ≡ true
unfolding all_apart every
all_apart_snoc [] r a e = refl
all_apart_snoc (q ∷ rs) r a e =
    and_i (every (apart q) (rs ++ r ∷ [])) (all_apart (rs ++ r ∷ []))
    (every_snoc (apart q) rs r
    ∙ and_i (every (apart q) rs) (apart q r) (and_l (every (apart q) rs) (all_apart rs) a)
    (apart_turned q r ∙ and_l (apart r q) (every (apart r) rs) e))
    (all_apart_snoc rs r (and_r (every (apart q) rs) (all_apart rs) a) (and_r (apart r q) (every (apart r) rs) e))

every_middle : (p : Record → Bool) (rs : List Record) (r : Record) (qs : List Record) → every p (rs ++ r ∷ qs) ≡ true → p r ≡ true
unfolding every
every_middle p [] r qs e = and_l (p r) (every p qs) e
every_middle p (q ∷ rs) r qs e = every_middle p rs r qs (and_r (p q) (every p (rs ++ r ∷ qs)) e)

-- a record among others is apart from those before it
pub all_apart_at : (rs : List Record) (r : Record) (qs : List Record) → all_apart (rs ++ r ∷ qs) ≡ true → every (apart r) rs ≡ true
unfolding all_apart every
all_apart_at [] r qs a = refl
all_apart_at (q ∷ rs) r qs a =
    and_i (apart r q) (every (apart r) rs)
    (apart_turned r q ∙ every_middle (apart q) rs r qs (and_l (every (apart q) (rs ++ r ∷ qs)) (all_apart (rs ++ r ∷ qs)) a))
    (all_apart_at rs r qs (and_r (every (apart q) (rs ++ r ∷ qs)) (all_apart (rs ++ r ∷ qs)) a))
