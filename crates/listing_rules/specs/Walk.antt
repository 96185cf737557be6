-- The collector's walk as it is done, command by command, with its three buffers.
use Rattle.std.specs.Prelude.{List, [], ◌∷◌, ◌++◌, map, Bool, true, false, cond, ◌&&◌, ◌||◌, not, eqb, leb, length, get_or, drop, replicate, ℕ, zero, suc, ◌-◌}
use Rattle.listing_rules.specs.Bytes.{text, crlf, bit, slash, LF}
use Rattle.listing_rules.specs.Lists.{joined, on_first}
use Rattle.listing_rules.specs.Table.{Table, rows, passes}
use Rattle.listing_rules.specs.Readers.{is_reader}
use Rattle.listing_rules.specs.Options.{is_none}
use Rattle.listing_rules.specs.Listing.{candidates}
use Rattle.listing_rules.specs.Lines.{quoted, remote_place, subscribed_place, all_place, archive_place, drafts_place, flagged_place, junk_place}
use Rattle.listing_rules.specs.Lines.{sent_place, trash_place}
use Rattle.listing_rules.specs.Server.{Reply, refusal, answered, answer, limited}
use Rattle.listing_rules.specs.LineReader.{Read, line, root, bad, read_line}

-- "an option byte (1 REMOTE, 2 SPECIAL-USE)"; W3: "Option byte 4 lets the collector drop SUBSCRIBED"
unfoldable pub wants_remote : ℕ → Bool
wants_remote o = bit 0 o

unfoldable pub wants_special : ℕ → Bool
wants_special o = bit 1 o

unfoldable pub drops_subscribed : ℕ → Bool
drops_subscribed o = bit 2 o

-- "legal only with 2 (else 6; a byte above 7 is 6)"
unfoldable pub lawful_byte : ℕ → Bool
lawful_byte o = leb o 7 && (not (drops_subscribed o) || wants_special o)

unfoldable pub when : Bool → List ℕ → List ℕ
when true t = t
when false t = []

-- "It sends tag `w`, selection in the order SUBSCRIBED RECURSIVEMATCH SPECIAL-USE REMOTE, reference .., pattern "%"."
unfoldable pub command_line : ℕ → List ℕ → List ℕ
command_line o reference =
    text "w LIST (" ++
    (when (not (drops_subscribed o)) (text "SUBSCRIBED ") ++
    (text "RECURSIVEMATCH" ++
    (when (wants_special o) (text " SPECIAL-USE") ++ (when (wants_remote o) (text " REMOTE") ++ (text ") " ++ (quoted reference ++ (text " \"%\"" ++ crlf)))))))

-- the lines of an answer, each with its line feed
unfoldable pub lines_of : List ℕ → List (List ℕ)
lines_of [] = []
lines_of (b ∷ t) = let r = lines_of t in cond (eqb b LF) ((b ∷ []) ∷ r) (on_first b r)

-- names as they lie in found and pending: "each as a length byte and the name"
unfoldable pub packed : List (List ℕ) → List ℕ
packed ns = joined (map (λ n. length n ∷ n) ns)

-- what the walk has so far: the finds, and the names to ask below, those asked already included
pub record Lists : Type 0 where
  pub finds : List (List ℕ)
  pub asks : List (List ℕ)

-- a step that may be refused
pub data Step (A : Type 0) : Type 0 where
  stop : ℕ → Step A
  go : A → Step A

infixl 20 ◌then◌
unfoldable pub ◌then◌ : {A B : Type 0} → Step A → (A → Step B) → Step B
(stop k) then f = stop k
(go x) then f = f x

-- an attribute by its place in the sixteen
unfoldable pub attr : ℕ → List Bool → Bool
attr k bs = get_or bs k false

unfoldable pub use_attr : List Bool → Bool
use_attr bs =
    attr all_place bs || attr archive_place bs || attr drafts_place bs || attr flagged_place bs || attr junk_place bs || attr sent_place bs || attr trash_place bs

-- "A line is a find if it has \Subscribed, has no \Remote unless REMOTE was asked, and has a use if SPECIAL-USE was." Without SUBSCRIBED
-- (W3) "A find then is a line with a use, under the same rule for remote".
unfoldable pub is_find : ℕ → List Bool → Bool
is_find o bs = (drops_subscribed o || attr subscribed_place bs) && (not (attr remote_place bs) || wants_remote o) && (not (wants_special o) || use_attr bs)

unfoldable pub with_name : Bool → List ℕ → List (List ℕ) → List (List ℕ)
with_name true n ns = ns ++ (n ∷ [])
with_name false n ns = ns

-- "10, 11: find, or pending name, does not fit"
unfoldable pub fits : ℕ → ℕ → List (List ℕ) → Step (List (List ℕ))
fits number room ns = cond (leb (length (packed ns)) room) (go ns) (stop number)

-- "Finds go to found, names with CHILDINFO to the end of pending"; "by line 10 before 11"
unfoldable pub taken_in : ℕ → ℕ → ℕ → Lists → Read → Step Lists
taken_in o found pending s (line bs n c) =
    fits 10 found (with_name (is_find o bs) n s.finds) then λ f.
    fits 11 pending (with_name (not (is_none c)) n s.asks) then λ a. go (record { finds = f; asks = a })
taken_in o found pending s root = go s
taken_in o found pending s bad = go s

-- "Each answer line is read back."
unfoldable pub taken_all : ℕ → ℕ → ℕ → Lists → List (List ℕ) → Step Lists
taken_all o found pending s [] = go s
taken_all o found pending s (l ∷ ls) = taken_in o found pending s (read_line l) then λ u. taken_all o found pending u ls

-- "after each command 9": the one refusal that a command of the walk can meet (W12, law `own-commands`)
unfoldable pub replied : Reply → Step (List ℕ)
replied (refusal k) = stop 9
replied (answered a) = go a

pub record Walked : Type 0 where
  pub count : ℕ
  pub lists : Lists

-- "Its namespace list is empty." "Scratch takes the server's answers": its room, and that of found and pending
module _ (table : Table) (o scratch found pending : ℕ) where
  -- one command and its lines: "after each command 9, then by line 10 before 11"
  unfoldable pub asked : Lists → List ℕ → Step Lists
  asked s reference = replied (limited scratch (answer table [] (command_line o reference))) then λ a. taken_all o found pending s (lines_of a)

  -- "pending is never shortened, and is asked in order": the first `done` names of pending were asked, so one command more was sent.
  -- The reference is "later each pending name and '/'". The number of steps left is a bound; enough are given (law `walk-fuel`).
  unfoldable pub walk_from : ℕ → ℕ → Lists → Step Walked
  walk_from zero done s = stop 0
  walk_from (suc k) done s =
      elim (drop done s.asks) [ [] ↦ go (record { count = suc done; lists = s }) | n ∷ ns ↦ (asked s (n ++ (slash ∷ [])) then λ u. walk_from k (suc done) u) ]

  -- "reference "" first"
  unfoldable pub walk_all : ℕ → Step Walked
  walk_all fuel = asked (record { finds = []; asks = [] }) [] then λ u. walk_from fuel 0 u

-- a number of refusal; or the number of commands sent, and the names that lie in found and pending
pub data WalkReply : Type 0 where
  walk_refused : ℕ → WalkReply
  walked : ℕ → List ℕ → List ℕ → WalkReply

unfoldable pub ended : Step Walked → WalkReply
ended (stop k) = walk_refused k
ended (go w) = walked w.count (packed w.lists.finds) (packed w.lists.asks)

-- "Collector order: 1, 6, then the walk", over the table that the walk's reader sees; 6 is an option byte that is not lawful. No candidate is
-- asked twice, so the candidates bound the steps.
unfoldable pub walk : Table → ℕ → ℕ → ℕ → ℕ → WalkReply
walk table o scratch found pending =
    let w = ended (walk_all table o scratch found pending (suc (suc (length (candidates (rows table)))))) in
    cond (passes table) (cond (lawful_byte o) w (walk_refused 6)) (walk_refused 1)

-- the number of a refusal, 0 for none
unfoldable pub walk_number : WalkReply → ℕ
walk_number (walk_refused k) = k
walk_number (walked c f p) = 0

-- "The result has the number of commands sent and the length of found"; "Its refusals give count 0 and length 0"
unfoldable pub walk_count : WalkReply → ℕ
walk_count (walk_refused k) = 0
walk_count (walked c f p) = c

unfoldable pub found_length : WalkReply → ℕ
found_length (walk_refused k) = 0
found_length (walked c f p) = length f

-- bytes at the front of a buffer of this length, zero behind them
unfoldable pub zero_behind : ℕ → List ℕ → List ℕ
zero_behind room bs = bs ++ replicate (room - length bs) 0

-- "On success pending holds its names; room behind the lengths, and all scratch, is zero." A refusal zeroes all three.
unfoldable pub found_after : ℕ → WalkReply → List ℕ
found_after room (walk_refused k) = replicate room 0
found_after room (walked c f p) = zero_behind room f

unfoldable pub pending_after : ℕ → WalkReply → List ℕ
pending_after room (walk_refused k) = replicate room 0
pending_after room (walked c f p) = zero_behind room p

unfoldable pub scratch_after : ℕ → WalkReply → List ℕ
scratch_after room r = replicate room 0

-- one collection: the table that the reader sees, the option byte, and the three buffers as they were lent
unfoldable pub collected : Table → ℕ → List ℕ → List ℕ → List ℕ → WalkReply
collected table o scratch found pending = walk table o (length scratch) (length found) (length pending)

-- a reader's walk, and collection. W9: a reader "above: 16, checked before 1"
unfoldable pub walk_by : ℕ → Table → ℕ → ℕ → ℕ → ℕ → WalkReply
walk_by reader table o scratch found pending = cond (is_reader reader) (walk table o scratch found pending) (walk_refused 16)

unfoldable pub collected_by : ℕ → Table → ℕ → List ℕ → List ℕ → List ℕ → WalkReply
collected_by reader table o scratch found pending = walk_by reader table o (length scratch) (length found) (length pending)
