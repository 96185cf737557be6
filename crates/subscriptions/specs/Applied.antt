-- What a plan leaves of the words and of the area, and what it needs. A refusal leaves them as they were.
use Rattle.std.specs.Prelude.{Ok, Err, ◌≡◌, List, ◌∷◌, ◌++◌, map, length, get_or, set, take, drop, replicate, ℕ, suc, ◌+◌, ◌-◌, ◌%◌, ◌≤◌, ◌<◌}
use Rattle.listing_rules.specs.Records.{Record}
use Rattle.listing_rules.specs.Subscriptions.{Store, overwritten}
use Rattle.records.specs.Words.{word_of, record_of}
use Rattle.subscriptions.specs.declared.Plan.TheVariants.{Keep, Flag, Insert, Remove}
use Rattle.subscriptions.specs.declared.Change.{Change}
use Rattle.subscriptions.specs.Plans.{Decision}

-- a word with other flags, and the word of a row 0002 that all eight see
unfoldable pub with_flags : ℕ → ℕ → ℕ
with_flags f w = w - w % 65536 + f

unfoldable pub new_word : ℕ → ℕ → ℕ
new_word start len = word_of (record { flags = 0x0002; start = start; len = len; readers = 0xFF })

-- a word put in at place k of the first `count`, over the first spare word; and word k of them taken out, with a zero after the rest
unfoldable pub inserted_at : List ℕ → ℕ → ℕ → ℕ → List ℕ
inserted_at ws count k w = take k ws ++ (w ∷ (drop k (take count ws) ++ drop (suc count) ws))

unfoldable pub removed_at : List ℕ → ℕ → ℕ → List ℕ
removed_at ws count k = take k ws ++ (drop (suc k) (take count ws) ++ (0 ∷ drop count ws))

-- the words, of which the first `count` are rows; n is the name
unfoldable pub words_after : Decision → List ℕ → ℕ → List ℕ → List ℕ
words_after (Ok Keep) ws count n = ws
words_after (Ok (Flag k f)) ws count n = set ws k (with_flags f (get_or ws k 0))
words_after (Ok (Insert k start)) ws count n = inserted_at ws count k (new_word start (length n))
words_after (Ok (Remove k)) ws count n = removed_at ws count k
words_after (Err x) ws count n = ws

-- zeros where the name of a word lay
unfoldable pub freed : List ℕ → ℕ → List ℕ
freed area w = overwritten area (record_of w).start (replicate (record_of w).len 0)

unfoldable pub area_after : Decision → List ℕ → List ℕ → List ℕ → List ℕ
area_after (Ok Keep) ws area n = area
area_after (Ok (Flag k f)) ws area n = area
area_after (Ok (Insert k start)) ws area n = overwritten area start n
area_after (Ok (Remove k)) ws area n = freed area (get_or ws k 0)
area_after (Err x) ws area n = area

-- the words that changed or moved, and the new count
unfoldable pub change_of : Decision → ℕ → Change
change_of (Ok Keep) count = record { from = 0; to = 0; count = count }
change_of (Ok (Flag k f)) count = record { from = k; to = k + 1; count = count }
change_of (Ok (Insert k start)) count = record { from = k; to = count + 1; count = count + 1 }
change_of (Ok (Remove k)) count = record { from = k; to = count; count = count - 1 }
change_of (Err x) count = record { from = 0; to = 0; count = count }

-- what each case of a plan needs of the words, their count, the area and the name
pub record FlagFits (ws : List ℕ) (count k f : ℕ) : Type 0 where
  pub row : k < count
  pub words : count ≤ length ws
  pub flags : f < 65536

pub record InsertFits (ws : List ℕ) (count : ℕ) (area n : List ℕ) (k start : ℕ) : Type 0 where
  pub place : k ≤ count
  pub room : count < length ws
  pub inside : start + length n ≤ length area
  pub start_small : start < 65536
  pub name_short : length n < 256

pub record RemoveFits (ws : List ℕ) (count : ℕ) (area : List ℕ) (k : ℕ) : Type 0 where
  pub row : k < count
  pub words : count ≤ length ws
  pub inside : (record_of (get_or ws k 0)).start + (record_of (get_or ws k 0)).len ≤ length area

-- the plan fits
abbrev pub Fits : Decision → List ℕ → ℕ → List ℕ → List ℕ → Type 0
Fits (Ok Keep) ws count area n = Unit {0}
Fits (Ok (Flag k f)) ws count area n = FlagFits ws count k f
Fits (Ok (Insert k start)) ws count area n = InsertFits ws count area n k start
Fits (Ok (Remove k)) ws count area n = RemoveFits ws count area k
Fits (Err x) ws count area n = Unit {0}

-- the words that changed or moved, as records, between the records that stay
unfoldable pub changed_records : List Record → Change → List ℕ → List Record
changed_records rs c ws = take c.from rs ++ (map record_of (take (c.to - c.from) (drop c.from ws)) ++ drop c.to rs)

-- A plan done on the words, their count and the area that hold a store makes of it the store t.
pub record Applies (p : Decision) (s t : Store) (ws : List ℕ) (count : ℕ) (area n : List ℕ) : Type 0 where
  pub area_is : t.area ≡ area_after p ws area n
  pub count_is : t.count ≡ (change_of p count).count
  pub records_are : t.records ≡ changed_records s.records (change_of p count) (words_after p ws count n)
