-- W9 over W6 and W7: an accepted edit leaves each reader the other rows, decides the rows that the reader sees then from those before it, and does
-- so alike where the names were moved together first. Rests on SubscriptionLaws, ReaderLaws and CompactionLaws.
use Rattle.listing_rules.proofs.Prelude.{◌∙◌, ◌≡◌, ap, refl, sym, Bool, ◌||◌, cond, false, not, or-false, true, List, [], ◌++◌, ◌∷◌, map}
use Rattle.listing_rules.proofs.Prelude.{map-append, ℕ, drop, get_or}
use Rattle.listing_rules.specs.Bytes.{same, bit}
use Rattle.listing_rules.specs.Lists.{every, any_of, keep}
use Rattle.listing_rules.specs.Orders.{byte_order, is_lt}
use Rattle.listing_rules.specs.Table.{Row, has_row, passes}
use Rattle.listing_rules.specs.Records.{Record, row_of, record_rows}
use Rattle.listing_rules.specs.Readers.{sees, visible}
use Rattle.listing_rules.specs.Command.{Edit}
use Rattle.listing_rules.specs.Subscriptions.{Store, store_table, held, store_rows, stored, edited}
use Rattle.listing_rules.specs.Compaction.{compacted}
use Rattle.listing_rules.proofs.Bools.{and_l}
use Rattle.listing_rules.proofs.ListLaws.{every_mem}
use Rattle.listing_rules.proofs.Sorted.{before_other}
use Rattle.listing_rules.proofs.EditLists.{any_append, mem_none, keep_append}
use Rattle.listing_rules.proofs.ReaderLaws.{kept_every}
use Rattle.listing_rules.proofs.EditRows.{Change, rows_with, others_kept, changed_rows}
use Rattle.listing_rules.proofs.EditPlaces.{all_lower, all_higher, none_named}
use Rattle.listing_rules.proofs.EditPasses.{store_parts, rows_in_parts, readers_after, Readers, Swap}
use Rattle.listing_rules.proofs.SubscriptionLaws.{name_of, row_after, edited_done}
use Rattle.listing_rules.proofs.CompactionLaws.{stays, compacted_passes, visible_moved}

-- of rows of lower names, others, and rows of higher names, the others decide whether the name n has a row
has_own : (n : List ℕ) (lo old up : List Row) → all_lower lo n → all_higher up n → has_row (lo ++ (old ++ up)) n ≡ has_row old n
unfolding has_row
has_own n lo old up l h =
    any_append own lo (old ++ up)
    ∙ ap (λ (b : Bool). b || any_of own (old ++ up))
    (mem_none own lo (λ r m. before_other r.name n (every_mem (λ (q : Row). is_lt (byte_order q.name n)) lo l r m)))
    ∙ any_append own old up
    ∙ ap (λ (b : Bool). any_of own old || b) (none (any_of own up) refl)
    ∙ or-false (any_of own old)
  where
    own : Row → Bool
    own r = same r.name n

    none : (b : Bool) → any_of own up ≡ b → b ≡ false
    none true e = absurd (none_named up n h e)
    none false e = refl

-- whether a reader sees the row that the name n has after an edit, from all rows and those that it saw: a row keeps its readers, and one that is
-- inserted has all eight
abbrev pub own_seen : ℕ → List Row → List Row → List ℕ → Bool
own_seen reader rs vs n = cond (has_row rs n) (has_row vs n) (bit reader 0xFF)

module _ (reader : ℕ) where
  visible_parts : (area : List ℕ) (a b d : List Record) →
      visible reader area (a ++ (b ++ d)) ≡ visible reader area a ++ (visible reader area b ++ visible reader area d)
  unfolding visible record_rows
  visible_parts area a b d =
      ap (map (row_of area))
      (keep_append (sees reader) a (b ++ d) ∙ ap (λ (l : List Record). keep (sees reader) a ++ l) (keep_append (sees reader) b d))
      ∙ map-append (row_of area) (keep (sees reader) a) (keep (sees reader) b ++ keep (sees reader) d)
      ∙ ap (λ (l : List Row). map (row_of area) (keep (sees reader) a) ++ l) (map-append (row_of area) (keep (sees reader) b) (keep (sees reader) d))

  -- records that mean the same rows over another area
  visible_alike : (area new : List ℕ) (rs : List Record) → record_rows new rs ≡ record_rows area rs → visible reader new rs ≡ visible reader area rs
  unfolding visible record_rows keep
  visible_alike area new [] e = refl
  visible_alike area new (r ∷ rs) e = go (sees reader r) (visible_alike area new rs (ap (drop 1) e))
    where
      go : (b : Bool) → record_rows new (keep (sees reader) rs) ≡ record_rows area (keep (sees reader) rs)
          → record_rows new (cond b (r ∷ keep (sees reader) rs) (keep (sees reader) rs))
          ≡ record_rows area (cond b (r ∷ keep (sees reader) rs) (keep (sees reader) rs))
      go true k = λ i. get_or (e i) 0 (row_of area r) ∷ k i
      go false k = k

  -- records with one set of readers are seen all, or none
  kept_alike : (set : ℕ) (l : List Record) → Readers set l → keep (sees reader) l ≡ cond (bit reader set) l []
  unfolding keep sees
  kept_alike set [] e = go (bit reader set)
    where
      go : (b : Bool) → ◌≡◌ {A = List Record} [] (cond b [] [])
      go true = refl
      go false = refl
  kept_alike set (x ∷ l) e =
      (λ i. cond (bit reader (get_or (e i) 0 set)) (x ∷ kept_alike set l (ap (drop 1) e) i) (kept_alike set l (ap (drop 1) e) i)) ∙ go (bit reader set)
    where
      go : (b : Bool) → cond b (x ∷ cond b l []) (cond b l []) ≡ cond b (x ∷ l) []
      go true = refl
      go false = refl

  module _ (s t : Store) (n : List ℕ) (row : List Row) (w : Swap s t n row) where
    -- the rows that the reader sees change as all rows do
    seen_change : Change (visible reader s.area (held s)) (visible reader t.area (held t)) n
    unfolding visible
    seen_change =
        record {
          lower = visible reader s.area w.front;
          old = visible reader s.area w.mid;
          new = visible reader t.area w.mid';
          upper = visible reader s.area w.back;
          was = ap (visible reader s.area) w.was ∙ visible_parts s.area w.front w.mid w.back;
          is =
              ap (visible reader t.area) w.is
              ∙ visible_parts t.area w.front w.mid' w.back
              ∙ (λ i. visible_alike s.area t.area w.front w.front_rows i ++
              (visible reader t.area w.mid' ++ visible_alike s.area t.area w.back w.back_rows i));
          lower_names = kept_every (sees reader) s.area (λ (r : Row). is_lt (byte_order r.name n)) w.front w.lower;
          upper_names = kept_every (sees reader) s.area (λ (r : Row). is_lt (byte_order n r.name)) w.back w.higher;
          old_names = kept_every (sees reader) s.area own w.mid w.own;
          new_names = kept_every (sees reader) t.area own w.mid' (ap (every own) w.mid_rows ∙ w.own_after);
        }
      where
        own : Row → Bool
        own r = same r.name n

    -- whether it sees the name's own row afterwards
    own_seen_lem : bit reader (readers_after w.mid) ≡ own_seen reader (store_rows s) (visible reader s.area (held s)) n
    unfolding store_rows has_row any_of record_rows visible every keep seen_change
    own_seen_lem = go w.mid w.own w.readers ∙ (λ i. cond (sym has_row_lem i) (sym sees_row i) (bit reader 0xFF))
      where
        has_row_lem : has_row (store_rows s) n ≡ has_row (record_rows s.area w.mid) n
        has_row_lem =
            ap (λ (l : List Record). has_row (record_rows s.area l) n) w.was
            ∙ ap (λ (l : List Row). has_row l n) (rows_in_parts s.area w.front w.mid w.back)
            ∙ has_own n (record_rows s.area w.front) (record_rows s.area w.mid) (record_rows s.area w.back) w.lower w.higher

        sees_row : has_row (visible reader s.area (held s)) n ≡ has_row (visible reader s.area w.mid) n
        sees_row =
            ap (λ (l : List Row). has_row l n) seen_change.was
            ∙ has_own n seen_change.lower seen_change.old seen_change.upper seen_change.lower_names seen_change.upper_names

        go : (mid : List Record) → every (λ (r : Row). same r.name n) (record_rows s.area mid) ≡ true → Readers (readers_after mid) mid →
            bit reader (readers_after mid) ≡ own_seen reader (record_rows s.area mid) (visible reader s.area mid) n
        go [] o e = refl
        go (r ∷ rs) o e =
            sym (ap (λ (b : Bool). cond b (has_row (visible reader s.area (r ∷ rs)) n) (bit reader 0xFF)) named
            ∙ ap (λ (l : List Record). has_row (record_rows s.area l) n) (kept_alike r.readers (r ∷ rs) e)
            ∙ pick (bit reader r.readers))
          where
            named : has_row (record_rows s.area (r ∷ rs)) n ≡ true
            named =
                ap (λ (b : Bool). b || has_row (record_rows s.area rs) n)
                (and_l (same (row_of s.area r).name n) (every (λ (q : Row). same q.name n) (record_rows s.area rs)) o)

            pick : (b : Bool) → has_row (record_rows s.area (cond b (r ∷ rs) [])) n ≡ b
            pick true = named
            pick false = refl

    -- so the rows before it, and which of them the reader saw, decide what it sees
    seen_after : visible reader t.area (held t)
        ≡ rows_with (visible reader s.area (held s)) n (cond (own_seen reader (store_rows s) (visible reader s.area (held s)) n) row [])
    unfolding visible record_rows seen_change
    seen_after =
        changed_rows (visible reader s.area (held s)) (visible reader t.area (held t)) n seen_change
        ∙ ap (rows_with (visible reader s.area (held s)) n) new_seen
      where
        through : (b : Bool) → record_rows t.area (cond b w.mid' []) ≡ cond b row []
        through true = w.mid_rows
        through false = refl

        new_seen : visible reader t.area w.mid' ≡ cond (own_seen reader (store_rows s) (visible reader s.area (held s)) n) row []
        new_seen =
            ap (record_rows t.area) (kept_alike (readers_after w.mid) w.mid' w.readers_after_lem)
            ∙ through (bit reader (readers_after w.mid)) ∙ ap (λ (b : Bool). cond b row []) own_seen_lem

-- After an accepted edit each reader sees the rows of other names as before, in their order.
pub others_seen : (reader : ℕ) (s t : Store) (e : Edit) → passes (store_table s) ≡ true → edited s e ≡ stored t
    → keep (λ (r : Row). not (same r.name (name_of e))) (visible reader t.area (held t))
    ≡ keep (λ (r : Row). not (same r.name (name_of e))) (visible reader s.area (held s))
others_seen reader s t e h q =
    others_kept (visible reader s.area (held s)) (visible reader t.area (held t)) (name_of e)
    (seen_change reader s t (name_of e) (row_after (store_rows s) e) (edited_done s t e h q).swap)

-- The rows that a reader sees after an accepted edit: the others, and the name's own if it saw that one, or if it was inserted.
pub edited_seen : (reader : ℕ) (s t : Store) (e : Edit) → passes (store_table s) ≡ true → edited s e ≡ stored t
    → visible reader t.area (held t)
    ≡ rows_with (visible reader s.area (held s)) (name_of e)
    (cond (own_seen reader (store_rows s) (visible reader s.area (held s)) (name_of e)) (row_after (store_rows s) e) [])
edited_seen reader s t e h q = seen_after reader s t (name_of e) (row_after (store_rows s) e) (edited_done s t e h q).swap

-- W7: where names were moved together first, an accepted edit leaves each reader the same rows.
pub moved_seen : (reader : ℕ) (s t u : Store) (e : Edit) → passes (store_table s) ≡ true → edited s e ≡ stored t
    → edited (compacted s) e ≡ stored u → visible reader u.area (held u) ≡ visible reader t.area (held t)
moved_seen reader s t u e h x y =
    edited_seen reader (compacted s) u e (compacted_passes s h) y
    ∙ (λ i. left ((stays s h).rows i) (visible_moved s (store_parts s h) reader i))
    ∙ sym (edited_seen reader s t e h x)
  where
    left : List Row → List Row → List Row
    left rs vs = rows_with vs (name_of e) (cond (own_seen reader rs vs (name_of e)) (row_after rs e) [])
