-- SUBSCRIBE and UNSUBSCRIBE on the records of W4 (document 02, W6): what an edit is refused for, and every record and byte that it leaves.
use Rattle.std.specs.Prelude.{List, [], ◌∷◌, ◌++◌, map, Bool, cond, ◌&&◌, ◌||◌, not, eqb, leb, ltb, length, take, drop, get_or, replicate, ℕ, suc, ◌+◌, ◌-◌}
use Rattle.std.proofs.Math.Option.{Option, none, some}
use Rattle.listing_rules.specs.Bytes.{same, spells}
use Rattle.listing_rules.specs.Lists.{any_of, keep}
use Rattle.listing_rules.specs.Orders.{byte_order, is_lt}
use Rattle.listing_rules.specs.Names.{levels, inbox, lawful_name, below}
use Rattle.listing_rules.specs.Flags.{subscribed, no_inferiors}
use Rattle.listing_rules.specs.Command.{Edit, subscribe, unsubscribe}
use Rattle.listing_rules.specs.Table.{Row, Table, has_row}
use Rattle.listing_rules.specs.Records.{Record, record_rows, record_table}
use Rattle.listing_rules.specs.Readers.{records_seen}

-- The records of W4 with their count: "a row count is passed and given back, and records behind it are spare".
pub record Store : Type 0 where
  pub records : List Record
  pub count : ℕ
  pub area : List ℕ

unfoldable pub store_table : Store → Table
store_table s = record_table s.area s.records s.count

-- the table that a reader sees of it (W9)
unfoldable pub store_seen : ℕ → Store → Table
store_seen reader s = records_seen reader s.area s.records s.count

-- the records that are rows, and their rows
unfoldable pub held : Store → List Record
held s = take s.count s.records

unfoldable pub store_rows : Store → List Row
store_rows s = record_rows s.area (held s)

-- "A name whose first level is INBOX in any case of letters is first spelled INBOX."
unfoldable pub spelled_as : List (List ℕ) → List ℕ → List ℕ
spelled_as [] n = n
spelled_as (l ∷ ls) n = cond (spells l inbox) (inbox ++ drop (length l) n) n

unfoldable pub spelled : List ℕ → List ℕ
spelled n = spelled_as (levels n) n

-- the place of the row of this name, or of the first row after it: as many rows come before it
unfoldable pub rows_before : List Row → List ℕ → ℕ
rows_before rs n = length (keep (λ r. is_lt (byte_order r.name n)) rs)

-- "below a row with no inferiors"
unfoldable pub below_no_inferiors : List Row → List ℕ → Bool
below_no_inferiors rs n = any_of (λ r. no_inferiors r.flags && below r.name n) rs

-- a byte of the area is free if no row uses it
unfoldable pub uses : ℕ → Record → Bool
uses k r = leb r.start k && ltb k (r.start + r.len)

-- the area from place k on, byte by byte: whether it is free
unfoldable pub free_from : List Record → ℕ → List ℕ → List Bool
free_from rs k [] = []
free_from rs k (b ∷ t) = not (any_of (uses k) rs) ∷ free_from rs (suc k) t

-- how many free bytes stand at the front
unfoldable pub free_front : List Bool → ℕ
free_front [] = 0
free_front (b ∷ bs) = let r = free_front bs in cond b (suc r) 0

-- "no free run of name bytes long enough"; "it takes the lowest such run": the first place with that many free bytes
unfoldable pub lowest_run : ℕ → ℕ → List Bool → Option ℕ
lowest_run len k [] = none
lowest_run len k (b ∷ bs) = let r = lowest_run len (suc k) bs in cond (leb len (free_front (b ∷ bs))) (some k) r

unfoldable pub free_run : Store → ℕ → Option ℕ
free_run s len = lowest_run len 0 (free_from (held s) 0 s.area)

-- bytes written over the area from a place on
unfoldable pub overwritten : List ℕ → ℕ → List ℕ → List ℕ
overwritten area at bs = take at area ++ (bs ++ drop (at + length bs) area)

-- the flag of a row set, or cleared: its other flags stay
unfoldable pub with_subscribed : ℕ → ℕ
with_subscribed f = cond (subscribed f) f (f + 2)

unfoldable pub without_subscribed : ℕ → ℕ
without_subscribed f = cond (subscribed f) (f - 2) f

-- a record of zeros, which a freed record becomes
unfoldable pub zero_record : Record
zero_record = record { flags = 0; start = 0; len = 0; readers = 0 }

unfoldable pub nth : List Record → ℕ → Record
nth rs k = get_or rs k zero_record

-- record k with other flags; W9: its readers stay
unfoldable pub flagged : Store → ℕ → ℕ → Store
flagged s k f =
    let r = nth s.records k in
    record {
      records = take k s.records ++ (record { flags = f; start = r.start; len = r.len; readers = r.readers } ∷ drop (suc k) s.records);
      count = s.count;
      area = s.area;
    }

-- "inserts a row 0002": the rows from place k on move by one, and the first spare record is used up; the name lies at `start`. W9: "An
-- inserted row is seen by all eight."
unfoldable pub inserted : Store → ℕ → ℕ → List ℕ → Store
inserted s k start n =
    record {
      records = take k s.records
          ++ (record { flags = 0x0002; start = start; len = length n; readers = 0xFF } ∷ (drop k (held s) ++ drop (suc s.count) s.records));
      count = suc s.count;
      area = overwritten s.area start n;
    }

-- "removes a row 0002 entirely"; "A freed record and freed name bytes become zero; other spare records and unused bytes stay."
unfoldable pub removed : Store → ℕ → Store
removed s k =
    let r = nth s.records k in
    record {
      records = take k s.records ++ (drop (suc k) (held s) ++ (zero_record ∷ drop s.count s.records));
      count = s.count - 1;
      area = overwritten s.area r.start (replicate r.len 0);
    }

-- what an edit comes to: a number of refusal, or what is stored then
pub data Edited : Type 0 where
  denied : ℕ → Edited
  stored : Store → Edited

-- "an insertion with 512 rows, no spare record or no free run of name bytes long enough, with 15"
unfoldable pub insertion : Store → List ℕ → Edited
insertion s n =
    elim (free_run s (length n)) [
      | none ↦ denied 15
      | some start ↦ cond (ltb s.count 512 && ltb s.count (length s.records)) (stored (inserted s (rows_before (store_rows s) n) start n))
          (denied 15)
    ]

-- "SUBSCRIBE sets the flag, or inserts a row 0002 if the name is lawful and has no row; below a row with no inferiors, or with an
--  unlawful name, it is refused with 14". n is spelled.
unfoldable pub subscribing : Store → List ℕ → Edited
subscribing s n =
    let k = rows_before (store_rows s) n in
    let set = stored (flagged s k (with_subscribed (nth s.records k).flags)) in
    let fresh = cond (lawful_name n && not (below_no_inferiors (store_rows s) n)) (insertion s n) (denied 14) in
    cond (has_row (store_rows s) n) set fresh

-- "UNSUBSCRIBE clears the flag, removes a row 0002 entirely, and is OK for a name with no subscription."
unfoldable pub unsubscribing : Store → List ℕ → Edited
unsubscribing s n =
    let k = rows_before (store_rows s) n in
    let f = (nth s.records k).flags in
    let cleared = stored (flagged s k (without_subscribed f)) in
    cond (has_row (store_rows s) n) (cond (eqb f 0x0002) (stored (removed s k)) cleared) (stored s)

-- an edit of a table that passes, its name first spelled
unfoldable pub edited : Store → Edit → Edited
edited s (subscribe n) = subscribing s (spelled n)
edited s (unsubscribe n) = unsubscribing s (spelled n)

-- The names that are subscribed, and what an edit does to a plain set of names: "After any series of edits the subscribed names are those
-- that a plain set, starting with the table's and given the same accepted edits, names so spelled, would hold." (`Series`)
unfoldable pub is_in : List (List ℕ) → List ℕ → Bool
is_in ns n = any_of (same n) ns

unfoldable pub subscribed_names : Store → List (List ℕ)
subscribed_names s = map (λ r. r.name) (keep (λ r. subscribed r.flags) (store_rows s))

-- whether the set has the name m after the edit
unfoldable pub set_edited : (List ℕ → Bool) → Edit → List ℕ → Bool
set_edited has (subscribe n) m = same (spelled n) m || has m
set_edited has (unsubscribe n) m = not (same (spelled n) m) && has m
