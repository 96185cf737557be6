-- The line writer and the reader undo each other: what is written is read as its parts, and what is read is written again. Rests on ReaderWriter.
use Rattle.listing_rules.proofs.Prelude.{◌∙◌, ◌≡◌, ap, refl, sym, Bool, ◌&&◌, ◌||◌, cond, false, false≢true, not, true, ◌⊎◌, inl, inr, List}
use Rattle.listing_rules.proofs.Prelude.{[], ◌∷◌, suc, zero, ℕ, arith, length, leb-true}
use Rattle.listing_rules.specs.Bytes.{is_empty}
use Rattle.listing_rules.specs.Names.{lawful_name}
use Rattle.listing_rules.specs.Options.{Criteria, no_criteria, is_none, lawful_criteria, criteria_of, criteria_number}
use Rattle.listing_rules.specs.Lines.{list_line, root_line}
use Rattle.listing_rules.specs.Server.{Reply, answered, refusal}
use Rattle.listing_rules.specs.LineReader.{root, bad, read_line, root_attributes, attributes_read, name_read, child_info_of, read_number, same_bools}
use Rattle.listing_rules.specs.LineReader.{root_parts, line_from}
use Rattle.listing_rules.proofs.Keys.{open_bytes, open_names, open_options, open_reader}
use Rattle.listing_rules.proofs.Bools.{and_l, and_r}
use Rattle.listing_rules.proofs.ListLaws.{empty_true}
use Rattle.listing_rules.proofs.ReaderWriter.{Taken, read_line_written, read_line_root, read_line_only}

-- `sameBools` decides equality
pub same_bools_refl : (a : List Bool) → same_bools a a ≡ true
unfolding same_bools
same_bools_refl [] = refl
same_bools_refl (true ∷ a) = same_bools_refl a
same_bools_refl (false ∷ a) = same_bools_refl a

pub same_bools_true : (a b : List Bool) → same_bools a b ≡ true → a ≡ b
unfolding same_bools
same_bools_true [] [] e = refl
same_bools_true [] (y ∷ b) e = cc
same_bools_true (x ∷ a) [] e = cc
same_bools_true (true ∷ a) (true ∷ b) e = ap (λ (l : List Bool). true ∷ l) (same_bools_true a b e)
same_bools_true (true ∷ a) (false ∷ b) e = cc
same_bools_true (false ∷ a) (true ∷ b) e = cc
same_bools_true (false ∷ a) (false ∷ b) e = ap (λ (l : List Bool). false ∷ l) (same_bools_true a b e)

none_true : (c : Criteria) → is_none c ≡ true → c ≡ no_criteria
unfolding is_none no_criteria
none_true c e = go c.subscribed c.special e
  where
    go : (a b : Bool) → not (a || b) ≡ true → record { subscribed = a; special = b } ≡ no_criteria
    go true b e = absurd (false≢true e)
    go false true e = absurd (false≢true e)
    go false false e = refl

-- the parts of the root line
root_parts_lem : (bs : List Bool) (n : List ℕ) (c : Criteria) → root_parts bs n c ≡ true → (bs ≡ root_attributes) × (n ≡ []) × (c ≡ no_criteria)
unfolding root_parts
root_parts_lem bs n c e =
    let f = and_l (same_bools bs root_attributes && is_empty n) (is_none c) e in (
      same_bools_true bs root_attributes (and_l (same_bools bs root_attributes) (is_empty n) f),
      empty_true n (and_r (same_bools bs root_attributes) (is_empty n) f),
      none_true c (and_r (same_bools bs root_attributes && is_empty n) (is_none c) e),
    )

-- the set of a number and the number of a set
pub criteria_number_lem : (c : Criteria) → criteria_of (criteria_number c) ≡ c
criteria_number_lem c = go c.subscribed c.special
  where
    go : (a b : Bool) → criteria_of (criteria_number (record { subscribed = a; special = b })) ≡ record { subscribed = a; special = b }
    go true true = unfold open_bytes open_options in refl
    go true false = unfold open_bytes open_options in refl
    go false true = unfold open_bytes open_options in refl
    go false false = unfold open_bytes open_options in refl

number_criteria : (k : ℕ) → lawful_criteria k ≡ true → criteria_number (criteria_of k) ≡ k
unfolding open_bytes open_options
number_criteria zero e = refl
number_criteria (suc zero) e = refl
number_criteria (suc (suc zero)) e = refl
number_criteria (suc (suc (suc zero))) e = refl
number_criteria (suc (suc (suc (suc k)))) e = absurd (omega (arith, leb-true (suc (suc (suc (suc k)))) 3 e))

number_lawful : (c : Criteria) → lawful_criteria (criteria_number c) ≡ true
number_lawful c = go c.subscribed c.special
  where
    go : (a b : Bool) → lawful_criteria (criteria_number (record { subscribed = a; special = b })) ≡ true
    go true true = unfold open_options in refl
    go true false = unfold open_options in refl
    go false true = unfold open_options in refl
    go false false = unfold open_options in refl

-- what the reader gives back, beside the parts that a line was written from
abbrev pub ReadAs : List ℕ → List Bool → List ℕ → ℕ → Type 0
ReadAs l bs n k =
    (read_number (read_line l) ≡ 0)
    × (attributes_read (read_line l) ≡ bs)
    × (name_read (read_line l) ≡ n)
    × (criteria_number (child_info_of (read_line l)) ≡ k)

-- what the writer writes is read as the parts that it was written from
pub written_is_read : (bs : List Bool) (n : List ℕ) (k : ℕ) (l : List ℕ) → length bs ≡ 16 → line_from bs n k ≡ answered l → ReadAs l bs n k
unfolding line_from read_number attributes_read name_read child_info_of
written_is_read bs n k l h e = go (lawful_criteria k) refl (lawful_name n) refl (root_parts bs n (criteria_of k)) refl e
  where
    parts : Bool → Bool → Reply
    parts o p = cond o (answered (list_line bs n (criteria_of k))) (cond p (answered root_line) (refusal 12))

    go : (m : Bool) → lawful_criteria k ≡ m → (o : Bool) → lawful_name n ≡ o → (p : Bool) → root_parts bs n (criteria_of k) ≡ p → cond m (parts o p) (refusal 12) ≡ answered l → ReadAs l bs n k
    go true m true g p f w = let q : list_line bs n (criteria_of k) ≡ l = cc in rw (← q, read_line_written bs n (criteria_of k) h g) (refl, refl, refl, number_criteria k m)
    go true m false g true f w =
        let q : root_line ≡ l = cc in
        let v = root_parts_lem bs n (criteria_of k) f in
        rw (← q, read_line_root) (refl, sym v.0, sym v.1, ap criteria_number (sym v.2) ∙ number_criteria k m)
    go true m false g false f w = absurd (let z : ◌≡◌ {A = ℕ} 0 1 = cc in omega arith)
    go false m o g p f w = absurd (let z : ◌≡◌ {A = ℕ} 0 1 = cc in omega arith)

-- what the reader takes is written again from the parts that it was read as
root_written : line_from root_attributes [] (criteria_number no_criteria) ≡ answered root_line
unfolding open_bytes open_names open_options open_reader
root_written = refl

pub read_is_written : (l : List ℕ) → read_number (read_line l) ≡ 0 → line_from (attributes_read (read_line l)) (name_read (read_line l)) (criteria_number (child_info_of (read_line l))) ≡ answered l
unfolding read_number attributes_read name_read child_info_of
read_is_written l h = go (read_line_only l)
  where
    taken : (T : Taken l (read_line l)) → line_from T.attrs T.name (criteria_number T.child) ≡ answered l
    taken T = unfold line_from in rw (number_lawful T.child, criteria_number_lem T.child, T.good) (ap answered (sym T.text_is_lem))

    go : (read_line l ≡ bad) ⊎ ((l ≡ root_line) × (read_line l ≡ root)) ⊎ Taken l (read_line l)
        → line_from (attributes_read (read_line l)) (name_read (read_line l)) (criteria_number (child_info_of (read_line l))) ≡ answered l
    go (inl e) = absurd (omega (arith, ap read_number e))
    go (inr (inl w)) = rw w.1 (root_written ∙ ap answered (sym w.0))
    go (inr (inr T)) = rw T.is (taken T)
