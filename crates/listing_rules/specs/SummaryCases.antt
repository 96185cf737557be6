-- Cases of the summary beside the table (document 02, W13): what is counted, what is checked and refused, what each kind of edit leaves, and what is counted
-- first (`summary-cases-hold` of proofs/SummaryTables).
use Rattle.std.specs.Prelude.{List, [], ◌∷◌, ◌++◌, Bool, true, false, cond, ◌&&◌, eqb, replicate, ℕ, suc}
use Prim.Native.String.{String}
use Rattle.listing_rules.specs.Bytes.{text}
use Rattle.listing_rules.specs.Table.{passes}
use Rattle.listing_rules.specs.Command.{parsed}
use Rattle.listing_rules.specs.Records.{Record}
use Rattle.listing_rules.specs.Subscriptions.{Store, store_table, store_rows, zero_record}
use Rattle.listing_rules.specs.Server.{number_of, changes}
use Rattle.listing_rules.specs.Walk.{walk_number, collected_by}
use Rattle.listing_rules.specs.Summary.{Summary, afresh, Summed, same_summaries, summed_table, summed_seen, summed_command, summed_compaction, summarized}
use Rattle.listing_rules.specs.Frames.{program_summed}
use Rattle.listing_rules.specs.Cases.{sends, same_flag, mailbox}

pub data SummaryCase : Type 0 where
  -- what counting afresh gives for the rows of a store
  counts : Store → List Summary → SummaryCase
  -- whether check 1 passes
  checks : Summed → Bool → SummaryCase
  -- the number of a command's refusal from a reader, 0 for none
  refuses : ℕ → Summed → String → ℕ → SummaryCase
  -- the number of a walk's refusal, of an option byte; and of a compaction's
  walks : Summed → ℕ → ℕ → SummaryCase
  compacts : Summed → ℕ → SummaryCase
  -- whether a command from reader 0 changes a row, and the summary that it leaves, in an answer buffer of that length
  leaves : ℕ → Summed → String → Bool → List Summary → SummaryCase
  -- a first summary: its number and what it is then
  firsts : Store → List Summary → ℕ → List Summary → SummaryCase
  -- the first numbers of the program's summary, where its packed rows become records
  program_counts : List ℕ → List Summary → SummaryCase

-- a list that begins with another
abbrev starts_with : List Summary → List Summary → Bool
starts_with ms [] = true
starts_with [] (x ∷ xs) = false
starts_with (m ∷ ms) (x ∷ xs) = same_summaries (m ∷ []) (x ∷ []) && starts_with ms xs

abbrev pub holds_summary : SummaryCase → Bool
holds_summary (counts s ms) = same_summaries (afresh (store_rows s)) ms
holds_summary (checks m b) = same_flag (passes (summed_table m)) b
holds_summary (refuses reader m l k) = eqb (number_of (summed_command reader m [] (sends l) (replicate 64 0)).reply) k
holds_summary (walks m o k) = eqb (walk_number (collected_by 0 (summed_seen 0 m) o (replicate 600 0) (replicate 100 0) (replicate 100 0))) k
holds_summary (compacts m k) = eqb (summed_compaction m).number k
holds_summary (leaves n m l b ms) =
    let c = summed_command 0 m [] (sends l) (replicate n 0) in
    same_flag (changes m.store (parsed (sends l)) c.reply) b && same_summaries c.left.summary ms
holds_summary (firsts s ms k after) = let r = summarized (store_table s) ms in eqb r.number k && same_summaries r.summary after
holds_summary (program_counts t ms) = starts_with (program_summed t).summary ms

-- the places of the cases that fail, counted from k
abbrev pub failures_in : ℕ → List SummaryCase → List ℕ
failures_in k [] = []
failures_in k (c ∷ cs) = let r = failures_in (suc k) cs in cond (holds_summary c) r (k ∷ r)

abbrev at : ℕ → ℕ → ℕ → Record
at f start len = record { flags = f; start = start; len = len; readers = 0xFF }

-- the four numbers, in the paper's order: subscribed local, subscribed remote, existing local, existing remote
abbrev sums : ℕ → ℕ → ℕ → ℕ → Summary
sums a b c d = record { subscribed_local = a; subscribed_remote = b; existing_local = c; existing_remote = d }

abbrev no : Summary
no = sums 0 0 0 0

abbrev odd : Summary
odd = sums 9 9 9 9

-- Foo, Foo-x, Foo/Bar, Foo/Baz (remote), Foo/Baz/q (not existing), INBOX; five free bytes, and a spare record with rubbish
abbrev tree : Store
tree =
    record {
      records = at 0x0001 0 3 ∷ at 0x0003 3 5 ∷ at 0x0003 8 7 ∷ at 0x0005 15 7 ∷ at 0x0002 22 9 ∷ at 0x0003 31 5 ∷ at 0xFFFF 9 9 ∷ [];
      count = 6;
      area = text "FooFoo-xFoo/BarFoo/BazFoo/Baz/qINBOX?????";
    }

abbrev with : List Summary → Summed
with ms = record { store = tree; summary = ms }

abbrev right : Summed
right = with (sums 2 0 1 1 ∷ no ∷ no ∷ sums 1 0 0 0 ∷ no ∷ no ∷ odd ∷ [])

-- the summary of the tree with another number for Foo, and with another for Foo/Baz
abbrev first : Summary → Summed
first x = with (x ∷ no ∷ no ∷ sums 1 0 0 0 ∷ no ∷ no ∷ odd ∷ [])

-- names of which one stands between a parent and its children, by a blank and by a dash; each of them a parent too
abbrev between : Store
between =
    record {
      records = at 0x0001 0 1 ∷ at 0x0001 1 3 ∷ at 0x0003 4 5 ∷ at 0x0001 9 2 ∷ at 0x0007 11 4 ∷ at 0x0003 15 3 ∷ at 0x0005 18 5 ∷ [];
      count = 7;
      area = text "aa xa x/ba-a-/ba/ca/c/d";
    }

-- "rows strictly below its name": Foo-x is not below Foo and what stands after it is; a row that exists and is subscribed counts twice; a row 0002 is
-- subscribed local; all depths; a name with the same beginning is none below
abbrev pub counted_afresh : List SummaryCase
counted_afresh =
    counts tree (sums 2 0 1 1 ∷ no ∷ no ∷ sums 1 0 0 0 ∷ no ∷ no ∷ [])
    ∷ counts between (sums 1 0 1 1 ∷ sums 1 0 1 0 ∷ no ∷ sums 0 1 0 1 ∷ no ∷ sums 0 0 0 1 ∷ no ∷ [])
    ∷ counts (record { records = []; count = 0; area = [] }) []
    ∷ program_counts (mailbox 0x0001 "Foo" ++ (mailbox 0x0003 "Foo-x" ++ (mailbox 0x0007 "Foo/Bar" ++ mailbox 0x0002 "Foo/Baz/q")))
    (sums 1 1 0 1 ∷ no ∷ no ∷ no ∷ no ∷ no ∷ [])
    ∷ []

-- "one that disagrees is refusal 1": each of the four numbers off by one, in either direction; a number where none lies below; too few numbers. That of a
-- spare record is not looked at, nor are numbers after the last record
abbrev pub checked_summaries : List SummaryCase
checked_summaries =
    checks right true
    ∷ checks (with (sums 2 0 1 1 ∷ no ∷ no ∷ sums 1 0 0 0 ∷ no ∷ no ∷ [])) true
    ∷ checks (first (sums 3 0 1 1)) false
    ∷ checks (first (sums 1 0 1 1)) false
    ∷ checks (first (sums 2 1 1 1)) false
    ∷ checks (first (sums 2 0 2 1)) false
    ∷ checks (first (sums 2 0 0 1)) false
    ∷ checks (first (sums 2 0 1 0)) false
    ∷ checks (first (sums 2 0 1 2)) false
    ∷ checks (with (sums 2 0 1 1 ∷ no ∷ no ∷ sums 1 0 0 0 ∷ no ∷ sums 0 0 1 0 ∷ odd ∷ [])) false
    ∷ checks (with (sums 2 0 1 1 ∷ no ∷ no ∷ sums 1 0 0 0 ∷ no ∷ [])) false
    ∷ checks (with []) false
    ∷ checks (record { store = record { records = []; count = 0; area = [] }; summary = [] }) true
    ∷ []

-- in 1's place: after 16 above reader 7, before 2, and whatever the line; for the walk before 6; for W7 too
abbrev pub refused_summaries : List SummaryCase
refused_summaries =
    refuses 0 (first odd) "a SUBSCRIBE Foo/Baz" 1
    ∷ refuses 7 (first odd) "a NAMESPACE" 1
    ∷ refuses 8 (first odd) "a NAMESPACE" 16
    ∷ refuses 0 (first odd) "" 1
    ∷ refuses 0 (with (sums 2 0 1 1 ∷ [])) "a NAMESPACE" 1
    ∷ refuses 0 right "a NAMESPACE" 0
    ∷ walks (first odd) 0 1
    ∷ walks (first odd) 9 1
    ∷ walks right 0 0
    ∷ compacts (first odd) 1
    ∷ compacts right 0
    ∷ []

-- "keep it up to date in an inserted row and the affected ancestors only (beside W6's named row)"; the named row's own numbers do not change by its flag;
-- numbers move as the records do; a freed one becomes zero; a refused edit, and a command that reads, leave all
abbrev pub edited_summaries : List SummaryCase
edited_summaries =
    leaves 64 right "a SUBSCRIBE Foo/Baz" true (sums 2 1 1 1 ∷ no ∷ no ∷ sums 1 0 0 0 ∷ no ∷ no ∷ odd ∷ [])
    ∷ leaves 64 right "a SUBSCRIBE Foo" true (sums 2 0 1 1 ∷ no ∷ no ∷ sums 1 0 0 0 ∷ no ∷ no ∷ odd ∷ [])
    ∷ leaves 64 right "a SUBSCRIBE Foo/a" true (sums 3 0 1 1 ∷ no ∷ no ∷ sums 1 0 0 0 ∷ no ∷ no ∷ no ∷ [])
    ∷ leaves 64 right "a UNSUBSCRIBE Foo/Bar" true (sums 1 0 1 1 ∷ no ∷ no ∷ sums 1 0 0 0 ∷ no ∷ no ∷ odd ∷ [])
    ∷ leaves 64 right "a UNSUBSCRIBE Foo/Baz/q" true (sums 1 0 1 1 ∷ no ∷ no ∷ no ∷ no ∷ no ∷ odd ∷ [])
    ∷ leaves 64 right "a UNSUBSCRIBE Foo" false right.summary
    ∷ leaves 64 right "a SUBSCRIBE Foo/Bar" false right.summary
    ∷ leaves 64 right "a UNSUBSCRIBE Foo/none" false right.summary
    ∷ leaves 9 right "a SUBSCRIBE Foo/a" false right.summary
    ∷ leaves 64 right "a SUBSCRIBE Foo//a" false right.summary
    ∷ leaves 64 right "a SUBSCRIBE Foo/abcdef" false right.summary
    ∷ leaves 400 right "a LIST \"\" *" false right.summary
    ∷ leaves 64 (record { store = tree; summary = odd ∷ [] }) "a SUBSCRIBE Foo/a" false (odd ∷ [])
    ∷ []

-- a row put in above others has numbers of its own, remote ones among them; the last row below a name removed leaves zeros
abbrev pub parents_summed : List SummaryCase
parents_summed =
    leaves 64
    (record {
      store = record { records = at 0x0007 0 3 ∷ at 0x0003 3 5 ∷ zero_record ∷ []; count = 2; area = text "a/ba/b/c?" };
      summary = sums 1 0 1 0 ∷ no ∷ odd ∷ [];
    }) "x SUBSCRIBE a" true (sums 1 1 1 1 ∷ sums 1 0 1 0 ∷ no ∷ [])
    ∷ leaves 64
    (record {
      store = record { records = at 0x0001 0 1 ∷ at 0x0002 1 3 ∷ []; count = 2; area = text "aa/b" };
      summary = sums 1 0 0 0 ∷ no ∷ [];
    }) "x UNSUBSCRIBE a/b" true (no ∷ no ∷ [])
    ∷ []

-- a first summary looks at no number that it is lent, and leaves those of spare records; a table that does not pass is 1, and all stay
abbrev pub first_summaries : List SummaryCase
first_summaries =
    firsts tree (odd ∷ odd ∷ odd ∷ odd ∷ odd ∷ odd ∷ odd ∷ odd ∷ []) 0 (sums 2 0 1 1 ∷ no ∷ no ∷ sums 1 0 0 0 ∷ no ∷ no ∷ odd ∷ odd ∷ [])
    ∷ firsts (record { records = tree.records; count = 7; area = tree.area }) (odd ∷ odd ∷ odd ∷ odd ∷ odd ∷ odd ∷ odd ∷ []) 1
    (odd ∷ odd ∷ odd ∷ odd ∷ odd ∷ odd ∷ odd ∷ [])
    ∷ firsts (record { records = []; count = 0; area = [] }) (odd ∷ []) 0 (odd ∷ [])
    ∷ []
