-- Records of which one is put in or taken out (W6): the others stay without overlap; what `flagged`, `inserted` and `removed` make of the records,
-- as the parts before and after the place, and the spare ones. Rests on EditBytes and EditLists.
use Rattle.listing_rules.proofs.Prelude.{◌∙◌, ◌≡◌, ap, refl, sym, Bool, ◌&&◌, true, List, [], ◌++◌, ◌∷◌, append_assoc, ◌+◌, ◌≤◌, suc, ℕ, arith}
use Rattle.listing_rules.proofs.Prelude.{leb, drop, get_or, length, length-append, take, take-append-drop, drop-append_seam, drop_at, drop-drop}
use Rattle.listing_rules.proofs.Prelude.{get_or-append_seam, length-take-le, take-append_seam, take_at, le-leb, leb-true}
use Rattle.listing_rules.specs.Lists.{every}
use Rattle.listing_rules.specs.Records.{Record, lies_inside, apart, all_apart, laid_out}
use Rattle.listing_rules.specs.Subscriptions.{Store, held, zero_record, nth, flagged, inserted, removed}
use Rattle.listing_rules.proofs.Bools.{and_l, and_r, and_i}
use Rattle.listing_rules.proofs.ListLaws.{every_mem, mem_every, every_left}
use Rattle.listing_rules.proofs.EditLists.{every_append, every_right}
use Rattle.listing_rules.proofs.EditBytes.{apart_sym}

-- "without overlap": a record put in between others that are apart from it
apart_put : (a : List Record) (w : Record) (b : List Record) → all_apart (a ++ b) ≡ true → every (apart w) (a ++ b) ≡ true →
    all_apart (a ++ (w ∷ b)) ≡ true
unfolding all_apart every
apart_put [] w b h e = and_i (every (apart w) b) (all_apart b) e h
apart_put (r ∷ a) w b h e =
    and_i (every (apart r) (a ++ (w ∷ b))) (all_apart (a ++ (w ∷ b)))
    (every_append (apart r) a (w ∷ b) (every_left (apart r) a b others)
    (and_i (apart r w) (every (apart r) b) (apart_sym w r (and_l (apart w r) (every (apart w) (a ++ b)) e)) (every_right (apart r) a b others)))
    (apart_put a w b (and_r (every (apart r) (a ++ b)) (all_apart (a ++ b)) h) (and_r (apart w r) (every (apart w) (a ++ b)) e))
  where
    others : every (apart r) (a ++ b) ≡ true
    others = and_l (every (apart r) (a ++ b)) (all_apart (a ++ b)) h

-- a record taken out: it is apart from the others, and they stay so
pub apart_others : (a : List Record) (w : Record) (b : List Record) → all_apart (a ++ (w ∷ b)) ≡ true → every (apart w) (a ++ b) ≡ true
unfolding all_apart every
apart_others [] w b h = and_l (every (apart w) b) (all_apart b) h
apart_others (r ∷ a) w b h =
    and_i (apart w r) (every (apart w) (a ++ b))
    (apart_sym r w (and_l (apart r w) (every (apart r) b) (every_right (apart r) a (w ∷ b)
    (and_l (every (apart r) (a ++ (w ∷ b))) (all_apart (a ++ (w ∷ b))) h))))
    (apart_others a w b (and_r (every (apart r) (a ++ (w ∷ b))) (all_apart (a ++ (w ∷ b))) h))

every_out : (p : Record → Bool) (a : List Record) (w : Record) (b : List Record) → every p (a ++ (w ∷ b)) ≡ true → every p (a ++ b) ≡ true
unfolding every
every_out p a w b h = every_append p a b (every_left p a (w ∷ b) h) (and_r (p w) (every p b) (every_right p a (w ∷ b) h))

apart_taken : (a : List Record) (w : Record) (b : List Record) → all_apart (a ++ (w ∷ b)) ≡ true → all_apart (a ++ b) ≡ true
unfolding all_apart
apart_taken [] w b h = and_r (every (apart w) b) (all_apart b) h
apart_taken (r ∷ a) w b h =
    and_i (every (apart r) (a ++ b)) (all_apart (a ++ b))
    (every_out (apart r) a w b (and_l (every (apart r) (a ++ (w ∷ b))) (all_apart (a ++ (w ∷ b))) h))
    (apart_taken a w b (and_r (every (apart r) (a ++ (w ∷ b))) (all_apart (a ++ (w ∷ b))) h))

-- the layout of records over an area, part by part
pub record LaidParts (area : List ℕ) (rs : List Record) : Type 0 where
  pub small : length area ≤ 32768
  pub inside : every (lies_inside area) rs ≡ true
  pub apart_all : all_apart rs ≡ true

pub laid_parts : (area : List ℕ) (rs : List Record) → laid_out area rs ≡ true → LaidParts area rs
unfolding laid_out
laid_parts area rs h =
    let f = and_l (leb (length area) 32768 && every (lies_inside area) rs) (all_apart rs) h in
    record {
      small = leb-true (length area) 32768 (and_l (leb (length area) 32768) (every (lies_inside area) rs) f);
      inside = and_r (leb (length area) 32768) (every (lies_inside area) rs) f;
      apart_all = and_r (leb (length area) 32768 && every (lies_inside area) rs) (all_apart rs) h;
    }

pub parts_laid : (area : List ℕ) (rs : List Record) → LaidParts area rs → laid_out area rs ≡ true
unfolding laid_out
parts_laid area rs p = simp (le-leb (length area) 32768 p.small, p.inside, p.apart_all)

-- over an area of the same length
inside_alike : (area new : List ℕ) → length new ≡ length area → (rs : List Record) → every (lies_inside area) rs ≡ true →
    every (lies_inside new) rs ≡ true
unfolding lies_inside
inside_alike area new e rs h = mem_every (lies_inside new) rs (λ r m. ap (leb (r.start + r.len)) e ∙ every_mem (lies_inside area) rs h r m)

pub laid_put : (area new : List ℕ) → length new ≡ length area → (a : List Record) (w : Record) (b : List Record) → LaidParts area (a ++ b)
    → lies_inside area w ≡ true → every (apart w) (a ++ b) ≡ true → LaidParts new (a ++ (w ∷ b))
unfolding every
laid_put area new e a w b p i h =
    record {
      small = omega (arith, e, p.small);
      inside = inside_alike area new e (a ++ (w ∷ b))
          (every_append (lies_inside area) a (w ∷ b) (every_left (lies_inside area) a b p.inside)
          (and_i (lies_inside area w) (every (lies_inside area) b) i (every_right (lies_inside area) a b p.inside)));
      apart_all = apart_put a w b p.apart_all h;
    }

pub laid_taken : (area new : List ℕ) → length new ≡ length area → (a : List Record) (w : Record) (b : List Record) → LaidParts area (a ++ (w ∷ b)) →
    LaidParts new (a ++ b)
laid_taken area new e a w b p =
    record {
      small = omega (arith, e, p.small);
      inside = inside_alike area new e (a ++ b) (every_out (lies_inside area) a w b p.inside);
      apart_all = apart_taken a w b p.apart_all;
    }

-- the records of a store: those before a place, those at it, those after it, and the spare ones
pub record Parts (s : Store) (front mid back spare : List Record) : Type 0 where
  pub all_records : s.records ≡ front ++ (mid ++ (back ++ spare))
  pub all_rows : s.count ≡ length front + (length mid + length back)

module _ (s : Store) (front mid back spare : List Record) (p : Parts s front mid back spare) where
  regroup : s.records ≡ (front ++ (mid ++ back)) ++ spare
  regroup = p.all_records ∙ sym (append_assoc front (mid ++ back) spare ∙ ap (λ (l : List Record). front ++ l) (append_assoc mid back spare))

  all_held : length (front ++ (mid ++ back)) ≡ s.count
  all_held = omega (arith, p.all_rows, length-append front (mid ++ back), length-append mid back)

  pub parts_held : held s ≡ front ++ (mid ++ back)
  unfolding held
  parts_held = ap (take s.count) regroup ∙ take_at (front ++ (mid ++ back)) spare s.count all_held

  pub parts_length : length s.records ≡ s.count + length spare
  parts_length =
      omega
      (arith, ap length p.all_records, p.all_rows, length-append front (mid ++ (back ++ spare)), length-append mid (back ++ spare), length-append back spare)

  parts_spare : drop s.count s.records ≡ spare
  parts_spare = ap (drop s.count) regroup ∙ drop_at (front ++ (mid ++ back)) spare s.count all_held

  parts_front : take (length front) s.records ≡ front
  parts_front = ap (take (length front)) p.all_records ∙ take-append_seam front (mid ++ (back ++ spare))

-- what `drop` leaves after the one at the seam
drop_past : (a : List Record) (x : Record) (b : List Record) → drop (suc (length a)) (a ++ (x ∷ b)) ≡ b
drop_past [] x b = refl
drop_past (y ∷ a) x b = drop_past a x b

-- any store has such parts for its rows
pub parts_whole : (s : Store) (front mid back : List Record) → s.count ≤ length s.records → held s ≡ front ++ (mid ++ back) →
    Parts s front mid back (drop s.count s.records)
unfolding held
parts_whole s front mid back h e =
    record {
      all_records =
          sym (take-append-drop s.count s.records)
          ∙ ap (λ (l : List Record). l ++ drop s.count s.records) e
          ∙ append_assoc front (mid ++ back) (drop s.count s.records)
          ∙ ap (λ (l : List Record). front ++ l) (append_assoc mid back (drop s.count s.records));
      all_rows =
          omega (arith, sym (length-take-le s.count s.records h), ap length e, length-append front (mid ++ back), length-append mid back);
    }

-- the record at the place
pub parts_nth : (s : Store) (front : List Record) (it : Record) (back spare : List Record) → Parts s front (it ∷ []) back spare →
    nth s.records (length front) ≡ it
unfolding nth
parts_nth s front it back spare p =
    ap (λ (l : List Record). get_or l (length front) zero_record) p.all_records ∙ get_or-append_seam front it (back ++ spare) zero_record

-- "sets the flag", "clears the flag": the record at the place has other flags
pub parts_flagged : (s : Store) (front : List Record) (it : Record) (back spare : List Record) (f : ℕ) → Parts s front (it ∷ []) back spare
    → Parts (flagged s (length front) f) front (record { flags = f; start = it.start; len = it.len; readers = it.readers } ∷ []) back spare
unfolding flagged
parts_flagged s front it back spare f p =
    record {
      all_records = λ i. parts_front s front (it ∷ []) back spare p i ++ (flagging (parts_nth s front it back spare p i) ∷ rest i);
      all_rows = p.all_rows;
    }
  where
    flagging : Record → Record
    flagging r = record { flags = f; start = r.start; len = r.len; readers = r.readers }

    rest : drop (suc (length front)) s.records ≡ back ++ spare
    rest = ap (drop (suc (length front))) p.all_records ∙ drop_past front it (back ++ spare)

-- "inserts a row 0002"
pub parts_inserted : (s : Store) (front back : List Record) (x : Record) (spare : List Record) (start : ℕ) (n : List ℕ)
    → Parts s front [] back (x ∷ spare)
    → Parts (inserted s (length front) start n) front (record { flags = 0x0002; start = start; len = length n; readers = 0xFF } ∷ []) back spare
unfolding inserted
parts_inserted s front back x spare start n p =
    record {
      all_records =
          λ i. parts_front s front [] back (x ∷ spare) p i ++
          (record { flags = 0x0002; start = start; len = length n; readers = 0xFF } ∷ (moved i ++ left i));
      all_rows = omega (arith, p.all_rows);
    }
  where
    moved : drop (length front) (held s) ≡ back
    moved = ap (drop (length front)) (parts_held s front [] back (x ∷ spare) p) ∙ drop-append_seam front back

    left : drop (suc s.count) s.records ≡ spare
    left =
        let e : suc s.count ≡ s.count + 1 = omega arith in
        ap (λ (k : ℕ). drop k s.records) e ∙ sym (drop-drop 1 s.count s.records) ∙ ap (drop 1) (parts_spare s front [] back (x ∷ spare) p)

-- "removes a row 0002 entirely"; "A freed record .. become zero"
pub parts_removed : (s : Store) (front : List Record) (it : Record) (back spare : List Record) → Parts s front (it ∷ []) back spare
    → Parts (removed s (length front)) front [] back (zero_record ∷ spare)
unfolding removed
parts_removed s front it back spare p =
    record {
      all_records = λ i. parts_front s front (it ∷ []) back spare p i ++ (moved i ++ (zero_record ∷ parts_spare s front (it ∷ []) back spare p i));
      all_rows = omega (arith, p.all_rows);
    }
  where
    moved : drop (suc (length front)) (held s) ≡ back
    moved = ap (drop (suc (length front))) (parts_held s front (it ∷ []) back spare p) ∙ drop_past front it back
