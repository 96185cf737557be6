-- The claim of W9: tables that pass and show a reader the same names with the same flags are answered and walked alike for that reader. Rows that
-- pass ascend by name, so that what they show decides them; a reader sees one table then. Rests on Sorted, Passes and ReaderLaws.
use Rattle.listing_rules.proofs.Prelude.{◌∙◌, ◌≡◌, ap, refl, subst, sym, Bool, ◌&&◌, false, true, ◌⊎◌, inl, inr, ⊎_elim, some, List, list_mem}
use Rattle.listing_rules.proofs.Prelude.{list_mem_cases_cons, list_mem_head, list_mem_not_nil, list_mem_tail, [], ◌∷◌, ordering_lt, ℕ, eqb}
use Rattle.listing_rules.proofs.Prelude.{eq-eqb, eqb-true}
use Rattle.listing_rules.specs.Bytes.{same}
use Rattle.listing_rules.specs.Lists.{any_of}
use Rattle.listing_rules.specs.Orders.{byte_order}
use Rattle.listing_rules.specs.Table.{Row, Table, names, rows_pass, passes, packed_table}
use Rattle.listing_rules.specs.Records.{packed_records}
use Rattle.listing_rules.specs.Readers.{visible, seen, records_seen, packed_seen}
use Rattle.listing_rules.specs.Command.{is_edit, parsed}
use Rattle.listing_rules.specs.Subscriptions.{Store, store_table, store_seen, held}
use Rattle.listing_rules.specs.Server.{served, served_to, commanded}
use Rattle.listing_rules.specs.Walk.{collected_by}
use Rattle.listing_rules.proofs.Bools.{and_l, and_r, and_i}
use Rattle.listing_rules.proofs.ListLaws.{some_mem, mem_some, mem_map_lem, same_refl, same_true}
use Rattle.listing_rules.proofs.Order.{bytes_total}
use Rattle.listing_rules.proofs.Sorted.{Asc, irrefl, above_mem, ascends_asc}
use Rattle.listing_rules.proofs.Passes.{rows_parts}
use Rattle.listing_rules.proofs.CommandLaws.{read_answered}
use Rattle.listing_rules.proofs.ReaderLaws.{held_parts, visible_pass, seen_some, packed_visible_pass}

-- a row of this name with these flags is among them
abbrev pub shows : List Row → List ℕ → ℕ → Bool
shows rs n f = any_of (λ r. same r.name n && eqb r.flags f) rs

-- the one list of rows shows each name with the flags with which the other shows it
abbrev pub ShowSame : List Row → List Row → Type 0
ShowSame rs qs = (n : List ℕ) (f : ℕ) → shows rs n f ≡ shows qs n f

-- a row among rows is among those that show the same
shown_mem : (rs qs : List Row) → ShowSame rs qs → (z : Row) → list_mem z rs → list_mem z qs
shown_mem rs qs e z m =
    let w = some_mem is qs (sym (e z.name z.flags) ∙ mem_some is rs z m
    (and_i (same z.name z.name) (eqb z.flags z.flags) (same_refl z.name) (eq-eqb z.flags z.flags refl))) in
    subst (λ (r : Row). list_mem r qs) (it w.0 w.2) w.1
  where
    is : Row → Bool
    is r = same r.name z.name && eqb r.flags z.flags

    it : (r : Row) → is r ≡ true → r ≡ z
    it r h =
        let n = same_true r.name z.name (and_l (same r.name z.name) (eqb r.flags z.flags) h) in
        let f = eqb-true r.flags z.flags (and_r (same r.name z.name) (eqb r.flags z.flags) h) in
        λ i. record { flags = f i; name = n i }

-- a row that comes before all rows of a list comes before each
before_each : (x z : Row) (rs : List Row) → Asc byte_order (names (x ∷ rs)) → list_mem z rs → byte_order x.name z.name ≡ ordering_lt
unfolding names
before_each x z rs s m = above_mem byte_order bytes_total x.name z.name (names rs) s.0 (mem_map_lem (λ (r : Row). r.name) m)

-- and is not among them
not_again : (x : Row) (rs : List Row) → Asc byte_order (names (x ∷ rs)) → list_mem x rs → ⊥
not_again x rs s m = irrefl byte_order bytes_total x.name (before_each x x rs s m)

-- rows whose names ascend are decided by their members
rows_decided : (l m : List Row) → Asc byte_order (names l) → Asc byte_order (names m) → ((z : Row) → list_mem z l → list_mem z m)
    → ((z : Row) → list_mem z m → list_mem z l) → l ≡ m
unfolding names
rows_decided [] [] s t f g = refl
rows_decided [] (y ∷ ys) s t f g = absurd (list_mem_not_nil (g y (list_mem_head refl)))
rows_decided (x ∷ xs) [] s t f g = absurd (list_mem_not_nil (f x (list_mem_head refl)))
rows_decided (x ∷ xs) (y ∷ ys) s t f g = go (rows_decided xs ys s.1 t.1)
  where
    heads : (x ≡ y) ⊎ list_mem x ys → (y ≡ x) ⊎ list_mem y xs → x ≡ y
    heads (inl e) q = e
    heads (inr m) (inl e) = sym e
    heads (inr m) (inr k) = absurd (irrefl byte_order bytes_total x.name
        (bytes_total.trans x.name y.name x.name (before_each x y xs s k) (before_each y x ys t m)))

    same_head : x ≡ y
    same_head = heads (list_mem_cases_cons (f x (list_mem_head refl))) (list_mem_cases_cons (g y (list_mem_head refl)))

    left : (z : Row) → list_mem z xs → list_mem z ys
    left z k =
        ⊎_elim (λ e. absurd (not_again x xs s (subst (λ (w : Row). list_mem w xs) (e ∙ sym same_head) k))) (λ j. j)
        (list_mem_cases_cons (f z (list_mem_tail k)))

    right : (z : Row) → list_mem z ys → list_mem z xs
    right z k =
        ⊎_elim (λ e. absurd (not_again y ys t (subst (λ (w : Row). list_mem w ys) (e ∙ same_head) k))) (λ j. j)
        (list_mem_cases_cons (g z (list_mem_tail k)))

    go : (((z : Row) → list_mem z xs → list_mem z ys) → ((z : Row) → list_mem z ys → list_mem z xs) → xs ≡ ys) → Path (List Row) (x ∷ xs) (y ∷ ys)
    go ih = let tails : xs ≡ ys = ih left right in λ i. same_head i ∷ tails i

-- Rows that pass and show the same are the same.
pub same_rows : (rs qs : List Row) → rows_pass rs ≡ true → rows_pass qs ≡ true → ShowSame rs qs → rs ≡ qs
same_rows rs qs h g e =
    rows_decided rs qs (ascends_asc (names rs) (rows_parts rs h).ascend) (ascends_asc (names qs) (rows_parts qs g).ascend)
    (shown_mem rs qs e)
    (shown_mem qs rs (λ n f. sym (e n f)))

-- What a reader sees of two tables, and what it is answered from them: commands that only read, and walks.
pub record SeenAlike (reader : ℕ) (t u : Table) : Type 0 where
  pub seen_same : t ≡ u
  pub commands : (spaces l buffer : List ℕ) → served_to reader t spaces l buffer ≡ served_to reader u spaces l buffer
  pub walks : (o : ℕ) (scratch found pending : List ℕ) → collected_by reader t o scratch found pending ≡ collected_by reader u o scratch found pending

-- of two tables that pass, however they are stored, with the rows that are visible of each
pub seen_alike : (reader : ℕ) (all other : Table) (rs qs : List Row) → passes all ≡ true → passes other ≡ true → rows_pass rs ≡ true →
    rows_pass qs ≡ true → ShowSame rs qs
    → SeenAlike reader (seen all rs) (seen other qs)
seen_alike reader all other rs qs h g hs gs e =
    record {
      seen_same = one;
      commands = λ spaces l buffer. ap (λ (v : Table). served_to reader v spaces l buffer) one;
      walks = λ o scratch found pending. ap (λ (v : Table). collected_by reader v o scratch found pending) one;
    }
  where
    one : seen all rs ≡ seen other qs
    one = seen_some all rs h ∙ ap some (same_rows rs qs hs gs e) ∙ sym (seen_some other qs g)

-- a command that is no edit is answered from what its reader sees
pub command_reading : (reader : ℕ) (s : Store) (spaces l buffer : List ℕ) → is_edit (parsed l) ≡ false
    → (commanded reader s spaces l buffer).reply ≡ served_to reader (store_seen reader s) spaces l buffer
unfolding served_to served
command_reading = read_answered

-- "If two tables both pass their check and have the same names with the same flags visible to a reader, then, for the same command or option byte,
-- namespace list and lent buffers, that reader's LIST, LSUB and walk give the same bytes, numbers and counts": records over their areas.
pub record StoresAlike (reader : ℕ) (s t : Store) : Type 0 where
  pub seen_same : store_seen reader s ≡ store_seen reader t
  pub commands : (spaces l buffer : List ℕ) → is_edit (parsed l) ≡ false →
      (commanded reader s spaces l buffer).reply ≡ (commanded reader t spaces l buffer).reply
  pub walks : (o : ℕ) (scratch found pending : List ℕ)
      → collected_by reader (store_seen reader s) o scratch found pending ≡ collected_by reader (store_seen reader t) o scratch found pending

-- what is visible of a store that passes, passes
store_visible : (reader : ℕ) (s : Store) → passes (store_table s) ≡ true → rows_pass (visible reader s.area (held s)) ≡ true
unfolding store_table held
store_visible reader s h = visible_pass reader s.area (held s) (held_parts s.area s.records s.count h).rows_pass_lem

pub stores_seen_alike : (reader : ℕ) (s t : Store) → passes (store_table s) ≡ true → passes (store_table t) ≡ true
    → ShowSame (visible reader s.area (held s)) (visible reader t.area (held t)) → StoresAlike reader s t
stores_seen_alike reader s t h g e =
    record {
      seen_same = alike.seen_same;
      commands =
          λ spaces l buffer k. command_reading reader s spaces l buffer k ∙ alike.commands spaces l buffer ∙ sym
          (command_reading reader t spaces l buffer k);
      walks = alike.walks;
    }
  where
    alike : SeenAlike reader (store_seen reader s) (store_seen reader t)
    alike = unfold store_seen store_table records_seen held in
        seen_alike reader (store_table s) (store_table t) (visible reader s.area (held s)) (visible reader t.area (held t)) h g
        (store_visible reader s h) (store_visible reader t g) e

-- two packed tables
pub packed_seen_alike : (reader : ℕ) (t u : List ℕ) → passes (packed_table t) ≡ true → passes (packed_table u) ≡ true
    → ShowSame (visible reader t (packed_records t)) (visible reader u (packed_records u)) →
    SeenAlike reader (packed_seen reader t) (packed_seen reader u)
unfolding packed_seen
packed_seen_alike reader t u h g e =
    seen_alike reader (packed_table t) (packed_table u) (visible reader t (packed_records t)) (visible reader u (packed_records u)) h g
    (packed_visible_pass reader t h) (packed_visible_pass reader u g) e

-- a packed table beside records
pub packed_beside_records : (reader : ℕ) (t : List ℕ) (s : Store) → passes (packed_table t) ≡ true → passes (store_table s) ≡ true
    → ShowSame (visible reader t (packed_records t)) (visible reader s.area (held s)) → SeenAlike reader (packed_seen reader t) (store_seen reader s)
unfolding packed_seen store_seen store_table records_seen held
packed_beside_records reader t s h g e =
    seen_alike reader (packed_table t) (store_table s) (visible reader t (packed_records t)) (visible reader s.area (held s)) h g
    (packed_visible_pass reader t h) (store_visible reader s g) e
