-- A beginning of row i's name that comes after all names before row i: it has the flags of row i or none. And texts of lists of names.
-- Rests on Prefixes and on listing_rules' Sorted and NameFlags.
use Rattle.listing_rules.proofs.Prelude.{◌∙◌, ◌≡◌, ap, refl, subst, sym, Bool, cond, false, false≢true, true, ◌⊎◌, inl, inr, ⊎_elim, List, list_mem}
use Rattle.listing_rules.proofs.Prelude.{list_mem_append_cases, list_mem_cases_cons, list_mem_eq_of_singleton, list_mem_head, list_mem_not_nil}
use Rattle.listing_rules.proofs.Prelude.{[], ◌++◌, ◌∷◌, append_assoc, map, nil≢cons, ◌≤◌, suc, zero, ℕ, arith, drop, get_or, length, take}
use Rattle.listing_rules.proofs.Prelude.{take-append-drop, drop-cons, take-suc}
use Rattle.listing_rules.specs.Bytes.{same}
use Rattle.listing_rules.specs.Lists.{any_of, keep, joined}
use Rattle.listing_rules.specs.Orders.{byte_order}
use Rattle.listing_rules.specs.Table.{Row, names, has_row, flags_of}
use Rattle.listing_rules.specs.Listing.{implied}
use Rattle.listing_rules.proofs.ListLaws.{some_mem, mem_map_lem, same_true}
use Rattle.listing_rules.proofs.Order.{bytes_total}
use Rattle.listing_rules.proofs.Sorted.{Above, Asc, above_mem, irrefl}
use Rattle.listing_rules.proofs.NameFlags.{implied_flags}
use Rattle.list_answer.proofs.Prefixes.{Less, mem_right}

module _ {A : Type 0} (f : A → Bool) where
  any_none : (a : List A) → ((z : A) → list_mem z a → f z ≡ false) → any_of f a ≡ false
  any_none a h = go (any_of f a) refl
    where
      go : (b : Bool) → any_of f a ≡ b → b ≡ false
      go true e = let w = some_mem f a e in absurd (false≢true (sym (h w.0 w.1) ∙ w.2))
      go false e = refl

module _ (rs : List Row) (i : ℕ) (p : List ℕ) (earlier : (r : Row) → list_mem r (take i rs) → Less r.name p) where
  -- a beginning that no row from i on has as its name is implied
  pub implied_at : ((r : Row) → list_mem r (drop i rs) → Less p r.name) → flags_of rs p ≡ 0
  implied_at later = implied_flags rs p (unfold implied has_row in rw (any_none (λ r. same r.name p) rs (λ r m. other r (place r m))))
    where
      place : (r : Row) → list_mem r rs → list_mem r (take i rs) ⊎ list_mem r (drop i rs)
      place r m = list_mem_append_cases (take i rs) (subst (λ (l : List Row). list_mem r l) (sym (take-append-drop i rs)) m)

      differ : (r : Row) → (r.name ≡ p → ⊥) → same r.name p ≡ false
      differ r h = go (same r.name p) refl
        where
          go : (b : Bool) → same r.name p ≡ b → b ≡ false
          go true e = absurd (h (same_true r.name p e))
          go false e = refl

      other : (r : Row) → list_mem r (take i rs) ⊎ list_mem r (drop i rs) → same r.name p ≡ false
      other r (inl m) = differ r (λ e. irrefl byte_order bytes_total p (subst (λ (n : List ℕ). Less n p) e (earlier r m)))
      other r (inr m) = differ r (λ e. irrefl byte_order bytes_total p (subst (λ (n : List ℕ). Less p n) e (later r m)))

-- Rows of a table whose names ascend

names_asc : (r : Row) (rs : List Row) → Above byte_order r.name (names rs) → (q : Row) → list_mem q rs → Less r.name q.name
unfolding names
names_asc r rs a q m = above_mem byte_order bytes_total r.name q.name (names rs) a (mem_map_lem (λ (x : Row). x.name) m)

pub drop_mem : (i : ℕ) (rs : List Row) (r : Row) → list_mem r (drop i rs) → list_mem r rs
drop_mem i rs r m = subst (λ (l : List Row). list_mem r l) (take-append-drop i rs) (mem_right (take i rs) m)

-- the row at a place comes before every row after it
pub later_less : (rs : List Row) → Asc byte_order (names rs) → (i : ℕ) (r : Row) (more : List Row) → drop i rs ≡ r ∷ more → (q : Row) → list_mem q more → Less r.name q.name
unfolding names
later_less rs a zero r more e q m = names_asc r more (subst (λ (l : List Row). Asc byte_order (names l)) e a).0 q m
later_less [] a (suc i) r more e q m = absurd (nil≢cons e)
later_less (x ∷ rs) a (suc i) r more e q m = later_less rs a.1 i r more e q m

-- every row before a place comes before the row at it
earlier_less : (rs : List Row) → Asc byte_order (names rs) → (i : ℕ) (r : Row) (more : List Row) → drop i rs ≡ r ∷ more → (q : Row) → list_mem q (take i rs) → Less q.name r.name
unfolding names
earlier_less rs a zero r more e q m = absurd (list_mem_not_nil m)
earlier_less [] a (suc i) r more e q m = absurd (list_mem_not_nil m)
earlier_less (x ∷ rs) a (suc i) r more e q m =
    ⊎_elim (λ f. rw f (names_asc x rs a.0 r (drop_mem i rs r (subst (λ (l : List Row). list_mem r l) (sym e) (list_mem_head refl)))))
    (λ k. earlier_less rs a.1 i r more e q k) (list_mem_cases_cons m)

-- no row: what stands after the last
abbrev pub no_row : Row
no_row = record { flags = 0; name = [] }

-- what comes after the row before place i comes after all rows before it
pub before_less : (rs : List Row) → Asc byte_order (names rs) → (i : ℕ) (p : List ℕ) → i ≤ length rs →
    ((j : ℕ) → i ≡ suc j → Less (get_or rs j no_row).name p) → (q : Row) → list_mem q (take i rs) → Less q.name p
before_less rs a zero p h g q m = absurd (list_mem_not_nil m)
before_less rs a (suc j) p h g q m =
    ⊎_elim (λ k. bytes_total.trans q.name (get_or rs j no_row).name p (earlier_less rs a j (get_or rs j no_row) (drop (suc j) rs) (drop-cons rs j no_row (omega arith)) q k) (g j refl))
    (λ k. let e = list_mem_eq_of_singleton k in rw e (g j refl))
    (list_mem_append_cases (take j rs) (subst (λ (l : List Row). list_mem q l) (take-suc rs j no_row (omega arith)) m))

-- Text for each name that is listed

module _ (L : List ℕ → Bool) (line : List ℕ → List ℕ) where
  -- the line of a name, where it is listed
  abbrev pub shown : List ℕ → List ℕ
  shown n = cond (L n) (line n) []

  pub joined_shown : (ns : List (List ℕ)) → joined (map line (keep L ns)) ≡ joined (map shown ns)
  unfolding joined keep
  joined_shown [] = refl
  joined_shown (n ∷ ns) = go (L n) (joined_shown ns)
    where
      go : (b : Bool) → joined (map line (keep L ns)) ≡ joined (map shown ns) → joined (map line (cond b (n ∷ keep L ns) (keep L ns))) ≡ cond b (line n) [] ++ joined (map shown ns)
      go true e = ap (λ (x : List ℕ). line n ++ x) e
      go false e = e

pub joined_append : (a b : List (List ℕ)) → joined (a ++ b) ≡ joined a ++ joined b
unfolding joined
joined_append [] b = refl
joined_append (x ∷ a) b = ap (λ (l : List ℕ). x ++ l) (joined_append a b) ∙ sym (append_assoc x (joined a) (joined b))
