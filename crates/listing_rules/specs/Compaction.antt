-- Names moved together (document 02, W7): every record and byte that it leaves.
use Rattle.std.specs.Prelude.{List, [], ◌∷◌, ◌++◌, map, cond, length, take, drop, replicate, ℕ, suc, ◌-◌}
use Rattle.listing_rules.specs.Lists.{any_of}
use Rattle.listing_rules.specs.Table.{passes}
use Rattle.listing_rules.specs.Records.{Record}
use Rattle.listing_rules.specs.Subscriptions.{Store, store_table, held, uses}

-- the bytes of the area from place k on that rows use, in their order: as names do not overlap, the names "in the order of their starts"
unfoldable pub used_from : List Record → ℕ → List ℕ → List ℕ
used_from rs k [] = []
used_from rs k (b ∷ t) = let r = used_from rs (suc k) t in cond (any_of (uses k) rs) (b ∷ r) r

-- where a place of the area comes to lie: after the used bytes before it
unfoldable pub place_after : List Record → List ℕ → ℕ → ℕ
place_after rs area k = length (used_from rs 0 (take k area))

-- a record whose name has moved
unfoldable pub moved : List Record → List ℕ → Record → Record
moved rs area r = record { flags = r.flags; start = place_after rs area r.start; len = r.len; readers = r.readers }

-- "moves names together, in the order of their starts, so that free bytes form one run of zeros at the end"; "Names, flags, order, spare
-- records .. stay as they were"
unfoldable pub compacted : Store → Store
compacted s =
    let names = used_from (held s) 0 s.area in
    record {
      records = map (moved (held s) s.area) (held s) ++ drop s.count s.records;
      count = s.count;
      area = names ++ replicate (length s.area - length names) 0;
    }

-- the number of its refusal, 0 for none, and what is stored then: "a table that does not pass is 1, unchanged"
pub record Compaction : Type 0 where
  pub number : ℕ
  pub store : Store

unfoldable pub compaction : Store → Compaction
compaction s = cond (passes (store_table s)) (record { number = 0; store = compacted s }) (record { number = 1; store = s })
