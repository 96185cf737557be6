-- Document 02, W10: what a LIST command asks and what its answer lists, read off the bytes of both, and the claims about two commands.
use Rattle.std.specs.Prelude.{◌≡◌, ◌⊎◌, List, [], ◌∷◌, ◌++◌, Bool, true, false, cond, ◌&&◌, not, eqb, ℕ}
use Rattle.std.proofs.Math.Option.{Option, none, some}
use Rattle.listing_rules.specs.Bytes.{text, same, spells}
use Rattle.listing_rules.specs.Lists.{every, any_of, keep}
use Rattle.listing_rules.specs.Names.{below}
use Rattle.listing_rules.specs.Table.{Row, Table, rows, has_row, flags_of}
use Rattle.listing_rules.specs.Records.{Record}
use Rattle.listing_rules.specs.Tokens.{◌>>=◌, after, tag_byte, atom_byte, run, run₁}
use Rattle.listing_rules.specs.Options.{Options, is_none}
use Rattle.listing_rules.specs.Command.{ListArgs, line_text, list_args, extended, options_of, canonical, Parsed, refused, namespace, listing}
use Rattle.listing_rules.specs.Command.{root_of, subscriptions, editing, subscribe, unsubscribe, parsed}
use Rattle.listing_rules.specs.Match.{matches_any}
use Rattle.listing_rules.specs.Listing.{candidates, candidate_meets}
use Rattle.listing_rules.specs.Subscriptions.{Store, store_seen, held, with_subscribed}
use Rattle.listing_rules.specs.Server.{answered, served_to, commanded}
use Rattle.listing_rules.specs.Series.{Sent, commanded_all}
use Rattle.listing_rules.specs.LineReader.{read_line, read_number, name_read, child_info_of}
use Rattle.listing_rules.specs.Walk.{lines_of}

-- A LIST command as it is written: its tag, and its options, reference and patterns.
pub record ListCommand : Type 0 where
  pub tag : List ℕ
  pub args : ListArgs

-- the LIST command that a line is by the grammar; none where it is no such command
unfoldable pub list_command : List ℕ → Option ListCommand
list_command l = do
  t ← line_text l
  tag ← run₁ tag_byte t
  u ← after (text " ") tag.rest
  a ← cond (spells (run atom_byte u).val (text "LIST")) (list_args (run atom_byte u).rest) none
  some (record { tag = tag.val; args = a })

-- its options as a set, its reference and its patterns as they are written, and its canonical patterns
abbrev pub options_in : ListCommand → Options
options_in c = options_of c.args

abbrev pub reference_in : ListCommand → List ℕ
reference_in c = c.args.reference

abbrev pub written_in : ListCommand → List (List ℕ)
written_in c = c.args.pats

abbrev pub patterns_in : ListCommand → List (List ℕ)
patterns_in c = canonical (reference_in c) (written_in c)

-- The LIST lines of an answer: those of its lines that the line reader takes.
unfoldable pub list_lines : List ℕ → List (List ℕ)
list_lines a = keep (λ l. eqb (read_number (read_line l)) 0) (lines_of a)

-- the name that the line reader reads in a line
unfoldable pub line_name : List ℕ → List ℕ
line_name l = name_read (read_line l)

-- the lines of an answer that name n
unfoldable pub lines_for : List ℕ → List ℕ → List (List ℕ)
lines_for a n = keep (λ l. same (line_name l) n) (list_lines a)

-- the name is "listed": some line names it
unfoldable pub listed_in : List ℕ → List ℕ → Bool
listed_in a n = any_of (λ l. same (line_name l) n) (list_lines a)

-- it is listed with CHILDINFO
unfoldable pub child_info_in : List ℕ → List ℕ → Bool
child_info_in a n = any_of (λ l. same (line_name l) n && not (is_none (child_info_of (read_line l)))) (list_lines a)

-- "extended and accepted": a LIST command of a reader and its answer, over the table that the reader sees ..
pub record Accepted (reader : ℕ) (t : Table) (spaces l buffer : List ℕ) (c : ListCommand) (a : List ℕ) : Type 0 where
  pub reads : list_command l ≡ some c
  pub is_extended : extended c.args ≡ true
  pub is_answered_lem : served_to reader t spaces l buffer ≡ answered a

-- .. and over lent records
pub record AcceptedOver (reader : ℕ) (s : Store) (spaces l buffer : List ℕ) (c : ListCommand) (a : List ℕ) : Type 0 where
  pub reads : list_command l ≡ some c
  pub is_extended : extended c.args ≡ true
  pub is_answered_lem : (commanded reader s spaces l buffer).reply ≡ answered a

-- "one reference and one set of options .., the second with a pattern more", at any place
pub record PatternMore (c d : ListCommand) : Type 0 where
  pub one_reference : reference_in d ≡ reference_in c
  pub one_set : options_in d ≡ options_in c
  pub front : List (List ℕ)
  pub extra : List ℕ
  pub back : List (List ℕ)
  pub fewer : written_in c ≡ front ++ back
  pub more : written_in d ≡ front ++ (extra ∷ back)

-- the descendants of n that meet the criteria
unfoldable pub meeting_below : List Row → Options → List ℕ → List (List ℕ)
meeting_below rs o n = keep (λ d. below n d && candidate_meets rs o d) (candidates rs)

-- What W10 says of a command c answered by a, and a command d with a pattern more answered by b, over the same rows.
pub record NothingLost (rs : List Row) (c d : ListCommand) (a b : List ℕ) : Type 0 where
  -- "without RECURSIVEMATCH, every name listed before is listed after"
  pub plain_stays : (options_in c).sel_recursive ≡ false → (n : List ℕ) → listed_in a n ≡ true → listed_in b n ≡ true
  -- "With RECURSIVEMATCH the same holds, except for a name that did not meet the criteria"
  pub meeting_stays : (n : List ℕ) → candidate_meets rs (options_in c) n ≡ true → listed_in a n ≡ true → listed_in b n ≡ true
  -- "that one goes exactly if each of its meeting descendants now matches a pattern"
  pub goes_exactly : (options_in c).sel_recursive ≡ true → (n : List ℕ) → candidate_meets rs (options_in c) n ≡ false → listed_in a n ≡ true
      → listed_in b n ≡ not (every (matches_any (patterns_in d)) (meeting_below rs (options_in c) n))
  -- what stays keeps its line, byte for byte
  pub keeps_line : (n : List ℕ) → listed_in a n ≡ true → listed_in b n ≡ true → lines_for b n ≡ lines_for a n

-- W10: "Show, for one table, one reader, one reference and one set of options, both commands extended and accepted, the second with a pattern
-- more: ..". The namespace list, the answer buffer and the spelling of the two commands may differ.
abbrev pub AddingAPattern : Type 0
AddingAPattern =
    (reader : ℕ) (t : Table) (spaces l buffer spaces' m buffer' : List ℕ) (c d : ListCommand) (a b : List ℕ)
    → Accepted reader t spaces l buffer c a → Accepted reader t spaces' m buffer' d b → PatternMore c d → NothingLost (rows t) c d a b

abbrev pub AddingAPatternOver : Type 0
AddingAPatternOver =
    (reader : ℕ) (s : Store) (spaces l buffer spaces' m buffer' : List ℕ) (c d : ListCommand) (a b : List ℕ)
    → AcceptedOver reader s spaces l buffer c a → AcceptedOver reader s spaces' m buffer' d b → PatternMore c d
    → NothingLost (rows (store_seen reader s)) c d a b

-- "If rows gain subscriptions instead": each name keeps its row, and has the flags that it had or those with bit 1 set. A name without a row
-- has flags 0, so a row that it gains is 0002, as SUBSCRIBE inserts it.
pub record Gains (rs qs : List Row) : Type 0 where
  pub stay : (n : List ℕ) → has_row rs n ≡ true → has_row qs n ≡ true
  pub gain : (n : List ℕ) → (flags_of qs n ≡ flags_of rs n) ⊎ (flags_of qs n ≡ with_subscribed (flags_of rs n))

-- the same of records over one area: flags set, and nothing else changed
abbrev pub RecordsGain : List Record → List Record → Type 0
RecordsGain [] [] = Unit {0}
RecordsGain [] (q ∷ qs) = ⊥
RecordsGain (r ∷ rs) [] = ⊥
RecordsGain (r ∷ rs) (q ∷ qs) =
    ((q.start ≡ r.start) × (q.len ≡ r.len) × (q.readers ≡ r.readers) × ((q.flags ≡ r.flags) ⊎ (q.flags ≡ with_subscribed r.flags)))
    × RecordsGain rs qs

-- the two commands ask the same: one reference, one set of options, the same patterns
pub record AskSame (c d : ListCommand) : Type 0 where
  pub one_reference : reference_in d ≡ reference_in c
  pub one_set : options_in d ≡ options_in c
  pub same_patterns : written_in d ≡ written_in c

-- ".. no listed name and no CHILDINFO is lost"
pub record NoneLost (a b : List ℕ) : Type 0 where
  pub name_stays : (n : List ℕ) → listed_in a n ≡ true → listed_in b n ≡ true
  pub childinfo_stays : (n : List ℕ) → child_info_in a n ≡ true → child_info_in b n ≡ true

-- W10's last sentence, for every set of options and every reader: over two tables, ..
abbrev pub GainingSubscriptions : Type 0
GainingSubscriptions =
    (reader : ℕ) (t u : Table) (spaces l buffer spaces' m buffer' : List ℕ) (c d : ListCommand) (a b : List ℕ)
    → Accepted reader t spaces l buffer c a → Accepted reader u spaces' m buffer' d b → AskSame c d → Gains (rows t) (rows u) → NoneLost a b

-- .. over records of which some gained the flag, and over what a series of commands leaves, from any readers, of which none is UNSUBSCRIBE
abbrev pub GainingInRecords : Type 0
GainingInRecords =
    (reader : ℕ) (s t : Store) (spaces l buffer spaces' m buffer' : List ℕ) (c d : ListCommand) (a b : List ℕ)
    → AcceptedOver reader s spaces l buffer c a → AcceptedOver reader t spaces' m buffer' d b → AskSame c d
    → t.area ≡ s.area → RecordsGain (held s) (held t) → NoneLost a b

unfoldable pub takes_away : Parsed → Bool
takes_away (editing tag (subscribe n)) = false
takes_away (editing tag (unsubscribe n)) = true
takes_away (refused k) = false
takes_away (namespace tag) = false
takes_away (listing tag o ps) = false
takes_away (root_of tag) = false
takes_away (subscriptions tag ps) = false

abbrev pub none_takes_away : List Sent → Bool
none_takes_away cs = every (λ c. not (takes_away (parsed c.line))) cs

abbrev pub GainingInASeries : Type 0
GainingInASeries =
    (reader : ℕ) (s : Store) (cs : List Sent) (spaces l buffer spaces' m buffer' : List ℕ) (c d : ListCommand) (a b : List ℕ)
    → AcceptedOver reader s spaces l buffer c a → AcceptedOver reader (commanded_all s cs) spaces' m buffer' d b → AskSame c d
    → none_takes_away cs ≡ true → NoneLost a b
