-- A table that passes check 1: its parts, one by one; its names and so its candidates are lawful; what has a use exists. Rests on NameFlags and LawfulNames.
use Rattle.listing_rules.proofs.Prelude.{◌∙◌, ◌≡◌, ap, refl, subst, sym, Bool, ◌&&◌, ◌||◌, cond, false, false≢true, not, true, ⊎_elim, none}
use Rattle.listing_rules.proofs.Prelude.{some, List, list_mem, list_mem_cases_cons, ◌≤◌, ℕ, eqb, leb, length, eqb-true, le-leb, leb-true}
use Rattle.listing_rules.specs.Bytes.{bit}
use Rattle.listing_rules.specs.Lists.{every}
use Rattle.listing_rules.specs.Orders.{ascends}
use Rattle.listing_rules.specs.Names.{lawful_name}
use Rattle.listing_rules.specs.Flags.{exists, marked, unmarked, has_use, lawful_flags}
use Rattle.listing_rules.proofs.Keys.{open_bytes, open_lists, open_flags}
use Rattle.listing_rules.specs.Table.{Row, Table, rows, rows_pass, passes, names, none_below, packed_rows, rows_fill, packed_table, has_row, flags_of}
use Rattle.listing_rules.specs.Listing.{candidates, implied}
use Rattle.listing_rules.proofs.Bools.{and_l, and_r, or_cases}
use Rattle.listing_rules.proofs.ListLaws.{every_mem}
use Rattle.listing_rules.proofs.Ancestors.{candidate_cases, anc_below}
use Rattle.listing_rules.proofs.NameFlags.{candidate_row, row_flags, implied_flags}
use Rattle.listing_rules.proofs.LawfulNames.{good_below}

-- the parts of check 1
pub record TableParts (rs : List Row) : Type 0 where
  pub few : length rs ≤ 512
  pub lawful_names : every (λ (r : Row). lawful_name r.name) rs ≡ true
  pub lawful_flags_lem : every (λ (r : Row). lawful_flags r.flags) rs ≡ true
  pub ascend : ascends (names rs) ≡ true
  pub inferiors : every (λ r. none_below rs r) rs ≡ true

pub rows_parts : (rs : List Row) → rows_pass rs ≡ true → TableParts rs
unfolding rows_pass
rows_parts rs h =
    let x₂ = leb (length rs) 512 in
    let x₃ = x₂ && every (λ r. lawful_name r.name) rs in
    let x₄ = x₃ && every (λ r. lawful_flags r.flags) rs in
    let x₅ = x₄ && ascends (names rs) in
    let h₅ = and_l x₅ (every (λ r. none_below rs r) rs) h in
    let h₄ = and_l x₄ (ascends (names rs)) h₅ in
    let h₃ = and_l x₃ (every (λ r. lawful_flags r.flags) rs) h₄ in
    let h₂ = and_l x₂ (every (λ r. lawful_name r.name) rs) h₃ in
    record {
      few = leb-true (length rs) 512 h₂;
      lawful_names = and_r x₂ (every (λ r. lawful_name r.name) rs) h₃;
      lawful_flags_lem = and_r x₃ (every (λ r. lawful_flags r.flags) rs) h₄;
      ascend = and_r x₄ (ascends (names rs)) h₅;
      inferiors = and_r x₅ (every (λ r. none_below rs r) rs) h;
    }

pub parts_pass : (rs : List Row) → TableParts rs → rows_pass rs ≡ true
unfolding rows_pass
parts_pass rs p = simp (le-leb (length rs) 512 p.few, p.lawful_names, p.lawful_flags_lem, p.ascend, p.inferiors)

-- a table that passes has rows, and they pass
passes_rows : (t : Table) → passes t ≡ true → rows_pass (rows t) ≡ true
unfolding passes rows
passes_rows none h = absurd (false≢true h)
passes_rows (some rs) h = h

pub passes_parts : (t : Table) → passes t ≡ true → TableParts (rows t)
passes_parts t h = rows_parts (rows t) (passes_rows t h)

-- a packed table that passes: "At most .. 32,768 bytes", "rows fill it exactly", and the parts of check 1 over its rows
pub record PackedParts (t : List ℕ) : Type 0 where
  pub size : length t ≤ 32768
  pub fills : rows_fill 0 t ≡ true
  pub parts : TableParts (packed_rows t)

packed_whole : (t : List ℕ) → passes (packed_table t) ≡ true → ((leb (length t) 32768 && rows_fill 0 t) ≡ true) × (rows_pass (packed_rows t) ≡ true)
unfolding packed_table passes
packed_whole t h = go (leb (length t) 32768 && rows_fill 0 t) refl h
  where
    go : (b : Bool) → (leb (length t) 32768 && rows_fill 0 t) ≡ b → passes (cond b (some (packed_rows t)) none) ≡ true
        → ((leb (length t) 32768 && rows_fill 0 t) ≡ true) × (rows_pass (packed_rows t) ≡ true)
    go true e k = (e, k)
    go false e k = absurd (false≢true k)

pub packed_parts : (t : List ℕ) → passes (packed_table t) ≡ true → PackedParts t
packed_parts t h =
    let w = packed_whole t h in
    record {
      size = leb-true (length t) 32768 (and_l (leb (length t) 32768) (rows_fill 0 t) w.0);
      fills = and_r (leb (length t) 32768) (rows_fill 0 t) w.0;
      parts = rows_parts (packed_rows t) w.1;
    }

-- the bytes hold rows
pub packed_some : (t : List ℕ) → length t ≤ 32768 → rows_fill 0 t ≡ true → packed_table t ≡ some (packed_rows t)
unfolding packed_table
packed_some t h e = rw (le-leb (length t) 32768 h, e)

pub packed_none : (t : List ℕ) → (leb (length t) 32768 && rows_fill 0 t) ≡ false → packed_table t ≡ none
unfolding packed_table
packed_none t e = rw e

-- the rows of a packed table that passes
pub packed_rows_lem : (t : List ℕ) → passes (packed_table t) ≡ true → rows (packed_table t) ≡ packed_rows t
unfolding rows
packed_rows_lem t h = let p = packed_parts t h in rw (packed_some t p.size p.fills)

-- the names of a table that passes are lawful, and so are its candidates
passes_names : (t : Table) → passes t ≡ true → every (λ (r : Row). lawful_name r.name) (rows t) ≡ true
passes_names t h = (passes_parts t h).lawful_names

pub candidate_good : (t : Table) → passes t ≡ true → (n : List ℕ) → list_mem n (candidates (rows t)) → lawful_name n ≡ true
candidate_good t h n m =
    let w = candidate_cases (rows t) n m in
    let g = every_mem (λ (r : Row). lawful_name r.name) (rows t) (passes_names t h) w.0 w.1 in
    ⊎_elim (λ e. ap lawful_name e ∙ g) (λ k. good_below n w.0.name g (anc_below n w.0.name k)) (list_mem_cases_cons w.2)

-- a name with a use exists: a row that does not exist has flags 0002, and an implied name none
pub use_exists : (t : Table) → passes t ≡ true → (n : List ℕ) → has_use (flags_of (rows t) n) ≡ true → exists (flags_of (rows t) n) ≡ true
use_exists t h n u = go (has_row (rows t) n) refl
  where
    no_use : (f : ℕ) → f ≡ 2 → has_use f ≡ true → exists f ≡ true
    no_use f e u = absurd (false≢true (unfold open_flags open_bytes open_lists in subst (λ (x : ℕ). has_use x ≡ true) e u))

    lawful : (f : ℕ) → lawful_flags f ≡ true → has_use f ≡ true → exists f ≡ true
    lawful f l u = ⊎_elim (λ e. e) (λ e. no_use f (eqb-true f 2 e) u) (or_cases (exists f) (eqb f 2) (there l))
      where
        there : lawful_flags f ≡ true → (exists f || eqb f 2) ≡ true
        there k = unfold lawful_flags in
            and_r (not (bit 7 f) && not (bit 15 f)) (exists f || eqb f 2)
            (and_l ((not (bit 7 f) && not (bit 15 f)) && (exists f || eqb f 2)) (not (marked f && unmarked f)) k)

    go : (b : Bool) → has_row (rows t) n ≡ b → exists (flags_of (rows t) n) ≡ true
    go true e =
        let w = candidate_row (rows t) n e in
        let p = passes_parts t h in
        let f : flags_of (rows t) n ≡ w.0.flags = ap (flags_of (rows t)) (sym w.2) ∙ row_flags (rows t) p.ascend w.0 w.1 in
        ap exists f ∙ lawful w.0.flags (every_mem (λ (r : Row). lawful_flags r.flags) (rows t) p.lawful_flags_lem w.0 w.1) (ap has_use (sym f) ∙ u)
    go false e = absurd (false≢true (unfold open_flags open_bytes open_lists in sym (ap has_use (implied_flags (rows t) n (unfold implied in rw e))) ∙ u))
