-- The place of a name among records whose names ascend (W6): `rowsBefore` counts the lower names; at that place stands the name's own record, or
-- the first of a higher name. Rests on EditLists.
use Rattle.listing_rules.proofs.Prelude.{◌∙◌, ◌≡◌, ap, refl, subst, sym, Bool, ◌||◌, false, false≢true, true, ◌⊎◌, inl, inr, List, [], ◌++◌}
use Rattle.listing_rules.proofs.Prelude.{◌∷◌, Ordering, ordering_eq, ordering_gt, ordering_lt, suc, ℕ, length}
use Rattle.listing_rules.specs.Bytes.{same}
use Rattle.listing_rules.specs.Lists.{every, any_of, keep}
use Rattle.listing_rules.specs.Orders.{byte_order, is_lt}
use Rattle.listing_rules.specs.Table.{Row, names, has_row}
use Rattle.listing_rules.specs.Records.{Record, row_of, record_rows}
use Rattle.listing_rules.specs.Subscriptions.{rows_before}
use Rattle.listing_rules.proofs.Bools.{or_none_l, or_none_r}
use Rattle.listing_rules.proofs.ListLaws.{every_mem, mem_every, some_mem, mem_map_lem, same_refl, same_true}
use Rattle.listing_rules.proofs.Order.{swap, bytes_total}
use Rattle.listing_rules.proofs.Sorted.{Above, Asc, above_mem, irrefl, lt_true, before_other}
use Rattle.listing_rules.proofs.EditLists.{keep_none}

-- names on either side of n
abbrev pub all_lower : List Row → List ℕ → Type 0
all_lower rs n = every (λ (r : Row). is_lt (byte_order r.name n)) rs ≡ true

abbrev pub all_higher : List Row → List ℕ → Type 0
all_higher rs n = every (λ (r : Row). is_lt (byte_order n r.name)) rs ≡ true

-- the record of the name n, those before it and those after it
pub record Found (area : List ℕ) (hs : List Record) (n : List ℕ) : Type 0 where
  pub front : List Record
  pub it : Record
  pub back : List Record
  pub whole : hs ≡ front ++ (it ∷ back)
  pub place : rows_before (record_rows area hs) n ≡ length front
  pub named : (row_of area it).name ≡ n
  pub lower : all_lower (record_rows area front) n
  pub higher : all_higher (record_rows area back) n

-- no record of the name n: those before its place, and those from there on
pub record Gap (area : List ℕ) (hs : List Record) (n : List ℕ) : Type 0 where
  pub front : List Record
  pub back : List Record
  pub whole : hs ≡ front ++ back
  pub place : rows_before (record_rows area hs) n ≡ length front
  pub lower : all_lower (record_rows area front) n
  pub higher : all_higher (record_rows area back) n

-- rows above a name that is n or above it are above n
higher_rows : (rs : List Row) (x n : List ℕ) → Above byte_order x (names rs) → (byte_order n x ≡ ordering_eq) ⊎ (byte_order n x ≡ ordering_lt) → all_higher rs n
unfolding names is_lt
higher_rows rs x n a o =
    mem_every (λ (r : Row). is_lt (byte_order n r.name)) rs
    (λ r m. ap is_lt (go o r (above_mem byte_order bytes_total x r.name (names rs) a (mem_map_lem (λ (q : Row). q.name) m))))
  where
    go : (byte_order n x ≡ ordering_eq) ⊎ (byte_order n x ≡ ordering_lt) → (r : Row) → byte_order x r.name ≡ ordering_lt → byte_order n r.name ≡ ordering_lt
    go (inl e) r h = subst (λ (z : List ℕ). byte_order z r.name ≡ ordering_lt) (sym (bytes_total.equal n x e)) h
    go (inr e) r h = bytes_total.trans n x r.name e h

-- no name above n is below n, nor n itself
none_lower : (rs : List Row) (n : List ℕ) → all_higher rs n → rows_before rs n ≡ 0
unfolding rows_before is_lt
none_lower rs n h =
    ap length (keep_none (λ (r : Row). is_lt (byte_order r.name n)) rs
    (λ r m. ap is_lt (turned r.name (lt_true (byte_order n r.name) (every_mem (λ (q : Row). is_lt (byte_order n q.name)) rs h r m)))))
  where
    turned : (x : List ℕ) → byte_order n x ≡ ordering_lt → byte_order x n ≡ ordering_gt
    turned x e = bytes_total.turned n x ∙ ap swap e

pub none_named : (rs : List Row) (n : List ℕ) → all_higher rs n → has_row rs n ≡ true → ⊥
unfolding has_row
none_named rs n h e =
    let w = some_mem (λ (r : Row). same r.name n) rs e in
    let l = lt_true (byte_order n w.0.name) (every_mem (λ (q : Row). is_lt (byte_order n q.name)) rs h w.0 w.1) in
    irrefl byte_order bytes_total n (subst (λ (z : List ℕ). byte_order n z ≡ ordering_lt) (same_true w.0.name n w.2) l)

-- a lower name is another one
lower_other : (x n : List ℕ) → byte_order x n ≡ ordering_lt → same x n ≡ false
unfolding is_lt
lower_other x n e = before_other x n (ap is_lt e)

module _ (area : List ℕ) (n : List ℕ) where
  pub found : (hs : List Record) → Asc byte_order (names (record_rows area hs)) → has_row (record_rows area hs) n ≡ true → Found area hs n
  unfolding record_rows names has_row any_of rows_before keep is_lt every
  found [] s h = absurd (false≢true h)
  found (r ∷ hs) s h = go (byte_order (row_of area r).name n) refl (found hs s.1)
    where
      x : List ℕ
      x = (row_of area r).name

      go : (o : Ordering) → byte_order x n ≡ o → (has_row (record_rows area hs) n ≡ true → Found area hs n) → Found area (r ∷ hs) n
      go ordering_lt e ih =
          let w = ih (sym (ap (λ (b : Bool). b || has_row (record_rows area hs) n) (lower_other x n e)) ∙ h) in
          record {
            front = r ∷ w.front;
            it = w.it;
            back = w.back;
            whole = ap (λ (l : List Record). r ∷ l) w.whole;
            place = rw e (ap suc w.place);
            named = w.named;
            lower = rw e w.lower;
            higher = w.higher;
          }
      go ordering_eq e ih =
          let up = higher_rows (record_rows area hs) x n s.0 (inl (bytes_total.turned x n ∙ ap swap e)) in
          record {
            front = [];
            it = r;
            back = hs;
            whole = refl;
            place = rw e (none_lower (record_rows area hs) n up);
            named = bytes_total.equal x n e;
            lower = refl;
            higher = up;
          }
      go ordering_gt e ih =
          let n<x = bytes_total.turned x n ∙ ap swap e in
          absurd (none_named (record_rows area (r ∷ hs)) n (rw n<x (higher_rows (record_rows area hs) x n s.0 (inr n<x))) h)

  pub gap : (hs : List Record) → Asc byte_order (names (record_rows area hs)) → has_row (record_rows area hs) n ≡ false → Gap area hs n
  unfolding record_rows names has_row any_of rows_before keep is_lt every
  gap [] s h = record { front = []; back = []; whole = refl; place = refl; lower = refl; higher = refl }
  gap (r ∷ hs) s h = go (byte_order (row_of area r).name n) refl (gap hs s.1 (or_none_r (same (row_of area r).name n) (has_row (record_rows area hs) n) h))
    where
      x : List ℕ
      x = (row_of area r).name

      go : (o : Ordering) → byte_order x n ≡ o → Gap area hs n → Gap area (r ∷ hs) n
      go ordering_lt e w =
          record {
            front = r ∷ w.front;
            back = w.back;
            whole = ap (λ (l : List Record). r ∷ l) w.whole;
            place = rw e (ap suc w.place);
            lower = rw e w.lower;
            higher = w.higher;
          }
      go ordering_eq e w = absurd (false≢true (sym (or_none_l (same x n) (has_row (record_rows area hs) n) h) ∙ ap (λ (z : List ℕ). same z n) (bytes_total.equal x n e) ∙ same_refl n))
      go ordering_gt e w =
          let n<x = bytes_total.turned x n ∙ ap swap e in
          let up : all_higher (record_rows area (r ∷ hs)) n = rw n<x (higher_rows (record_rows area hs) x n s.0 (inr n<x)) in
          record { front = []; back = r ∷ hs; whole = refl; place = none_lower (record_rows area (r ∷ hs)) n up; lower = refl; higher = up }
