-- Cases of W10, W11 and W12 over small tables, each sentence with what it says and with what is so where a premise is left out (`evidence-holds` of
-- proofs/EvidenceTables).
use Rattle.std.specs.Prelude.{List, [], ◌∷◌, ◌++◌, map, Bool, cond, ◌&&◌, not, eqb, ℕ, suc}
use Prim.Native.String.{String}
use Rattle.listing_rules.specs.Bytes.{text}
use Rattle.listing_rules.specs.Lists.{keep, joined}
use Rattle.listing_rules.specs.Readers.{packed_seen}
use Rattle.listing_rules.specs.Server.{Reply, refusal, answered, served_to, commanded}
use Rattle.listing_rules.specs.Series.{commanded_all}
use Rattle.listing_rules.specs.Walk.{Step, stop, go, replied}
use Rattle.listing_rules.specs.Sending.{commands_sent}
use Rattle.listing_rules.specs.Evidence.{list_lines, line_name, child_info_in}
use Rattle.listing_rules.specs.Joining.{merged_lines}
use Rattle.listing_rules.specs.Cases.{mailbox, mailbox_for, times, sends, Lent, lent_store, sent_line, same_names}
use Rattle.listing_rules.specs.ExpertSheet.{table_e}

-- Which names an answer lists, in the order of its lines, and which of them with CHILDINFO, as the line reader reads them off its bytes.
pub data EvidenceCase : Type 0 where
  -- the answer to a reader's command over a packed table
  lists : ℕ → List ℕ → String → List String → List String → EvidenceCase
  -- the answer to a reader's command over records, after these lines of reader 0
  lists_after : Lent → List String → ℕ → String → List String → List String → EvidenceCase
  -- of reader 0: the LIST lines of the third command's answer are those of the two others merged
  merges : List ℕ → String → String → String → EvidenceCase
  -- they are not
  merges_not : List ℕ → String → String → String → EvidenceCase
  -- of reader 0: the two commands have the same LIST lines
  lists_alike : List ℕ → String → String → EvidenceCase
  -- the lines of the first two lists, merged, are the third
  merges_lines : List String → List String → List String → EvidenceCase
  -- a walk over a packed table with an option byte and this much scratch, and 64 bytes of found and of pending, sends these commands
  sends_these : List ℕ → ℕ → ℕ → List String → EvidenceCase
  -- a command of the walk that were refused with the first number would stop it with the second
  stops_with : ℕ → ℕ → EvidenceCase

-- the bytes of an answer; none for a refusal
abbrev pub bytes_in : Reply → List ℕ
bytes_in (refusal k) = []
bytes_in (answered a) = a

abbrev reads_so : List ℕ → List String → List String → Bool
reads_so a ns cs = same_names (map line_name (list_lines a)) (map text ns) && same_names (keep (child_info_in a) (map text ns)) (map text cs)

-- the LIST lines that reader 0 is answered over a packed table
abbrev lines_over : List ℕ → String → List (List ℕ)
lines_over t l = list_lines (bytes_in (served_to 0 (packed_seen 0 t) [] (sends l) (times 4096 0)))

abbrev merged : List ℕ → String → String → String → Bool
merged t l m k = same_names (lines_over t k) (merged_lines (lines_over t l) (lines_over t m))

abbrev stop_number : {A : Type 0} → Step A → ℕ
stop_number (stop k) = k
stop_number (go x) = 0

abbrev pub holds_evidence : EvidenceCase → Bool
holds_evidence (lists reader t l ns cs) = reads_so (bytes_in (served_to reader (packed_seen reader t) [] (sends l) (times 4096 0))) ns cs
holds_evidence (merges t l m k) = merged t l m k
holds_evidence (merges_not t l m k) = not (merged t l m k)
holds_evidence (lists_alike t l m) = same_names (lines_over t l) (lines_over t m)
holds_evidence (merges_lines ks ls ms) = same_names (merged_lines (map sends ks) (map sends ls)) (map sends ms)
holds_evidence (sends_these t o scratch ls) = same_names (commands_sent (packed_seen 0 t) o scratch 64 64) (map sends ls)
holds_evidence (stops_with k n) = eqb (stop_number (replied (refusal k))) n
holds_evidence (lists_after s ls reader l ns cs) =
    reads_so (bytes_in (commanded reader (commanded_all (lent_store s) (map (λ x. sent_line (sends x)) ls)) [] (sends l) (times 4096 0)).reply) ns cs

-- the places of the cases that fail, counted from k
abbrev pub failures_of : ℕ → List EvidenceCase → List ℕ
failures_of k [] = []
failures_of k (c ∷ cs) = let r = failures_of (suc k) cs in cond (holds_evidence c) r (k ∷ r)

-- "without RECURSIVEMATCH, every name listed before is listed after": a pattern more at the front, in the middle, at the end; an empty one; W1's level
-- Foo stays where the new pattern does not end in "%"; criteria selected; a row that reader 1 does not see
abbrev pub patterns_added : List EvidenceCase
patterns_added =
    lists 0 table_e "a LIST () \"\" (Foo% Moo)" ("Foo" ∷ "Foo-x" ∷ "Moo" ∷ []) []
    ∷ lists 0 table_e "a LIST () \"\" (in% Foo% Moo)" ("Foo" ∷ "Foo-x" ∷ "INBOX" ∷ "Moo" ∷ []) []
    ∷ lists 0 table_e "a LIST () \"\" (Foo% F*z Moo)" ("Foo" ∷ "Foo-x" ∷ "Foo/Baz" ∷ "Moo" ∷ []) []
    ∷ lists 0 table_e "a LIST () \"\" (Foo% Moo \"\")" ("Foo" ∷ "Foo-x" ∷ "Moo" ∷ []) []
    ∷ lists 0 table_e "a LIST (SUBSCRIBED) \"F\" (*z)" ("Foo/Baz" ∷ []) []
    ∷ lists 0 table_e "a LIST (SUBSCRIBED) \"F\" (*z *)" ("Foo/Baz" ∷ []) []
    ∷ lists 1 (mailbox 0x0001 "A/B" ++ mailbox_for 0x01 0x0001 "C") "a LIST \"\" (%)" ("A" ∷ []) []
    ∷ lists 1 (mailbox 0x0001 "A/B" ++ mailbox_for 0x01 0x0001 "C") "a LIST \"\" (% *)" ("A" ∷ "A/B" ∷ []) []
    ∷ []

-- A, which meets the criteria, above A/B/C, which does; D above D/E and D/F
abbrev tree : List ℕ
tree = joined (mailbox 0x0003 "A" ∷ mailbox 0x0003 "A/B/C" ∷ mailbox 0x0003 "D/E" ∷ mailbox 0x0007 "D/F" ∷ [])

-- "With RECURSIVEMATCH the same holds, except for a name that did not meet the criteria; that one goes exactly if each of its meeting descendants now
-- matches a pattern": Foo goes with Foo/Baz and stays with Foo/Bar, which does not meet them. A stays, and keeps CHILDINFO. D goes when D/E matches,
-- as D/F is remote; it stays under REMOTE, until D/F matches too.
abbrev pub recursive_patterns_added : List EvidenceCase
recursive_patterns_added =
    lists 0 table_e "a LIST (SUBSCRIBED RECURSIVEMATCH) \"\" (%)" ("Foo" ∷ []) ("Foo" ∷ [])
    ∷ lists 0 table_e "a LIST (SUBSCRIBED RECURSIVEMATCH) \"\" (% Foo/Bar)" ("Foo" ∷ []) ("Foo" ∷ [])
    ∷ lists 0 table_e "a LIST (SUBSCRIBED RECURSIVEMATCH) \"\" (% Foo/Baz)" ("Foo/Baz" ∷ []) []
    ∷ lists 0 tree "a LIST (SUBSCRIBED RECURSIVEMATCH) \"\" (%)" ("A" ∷ "D" ∷ []) ("A" ∷ "D" ∷ [])
    ∷ lists 0 tree "a LIST (SUBSCRIBED RECURSIVEMATCH) \"\" (D/E %)" ("A" ∷ "D/E" ∷ []) ("A" ∷ [])
    ∷ lists 0 tree "a LIST (SUBSCRIBED RECURSIVEMATCH) \"\" (% A/*)" ("A" ∷ "A/B/C" ∷ "D" ∷ []) ("A" ∷ "D" ∷ [])
    ∷ lists 0 tree "a LIST (SUBSCRIBED RECURSIVEMATCH REMOTE) \"\" (% D/E)" ("A" ∷ "D" ∷ "D/E" ∷ []) ("A" ∷ "D" ∷ [])
    ∷ lists 0 tree "a LIST (SUBSCRIBED RECURSIVEMATCH REMOTE) \"\" (% D/E *F)" ("A" ∷ "D/E" ∷ "D/F" ∷ []) ("A" ∷ [])
    ∷ []

-- where the first command is not extended its empty pattern asks for the root line, whose name is empty: it goes
abbrev pub not_extended : List EvidenceCase
not_extended =
    lists 0 table_e "a LIST \"\" \"\"" ("" ∷ []) []
    ∷ lists 0 table_e "a LIST \"\" (\"\" Moo)" ("Moo" ∷ []) []
    ∷ []

-- an existing row Foo/Baz without its subscription and with it, and a use beside it; room for a row more
abbrev baz : ℕ → Lent
baz f =
    record {
      area = text "Foo/Baz?????";
      records = record { flags = f; start = 0; len = 7; readers = 0xFF } ∷ record { flags = 0; start = 0; len = 0; readers = 0 } ∷ [];
      count = 1;
    }

-- "If rows gain subscriptions instead, no listed name and no CHILDINFO is lost": a flag set in a row, by hand and by SUBSCRIBE, and a row 0002 that
-- SUBSCRIBE inserts; for criteria that do not ask for it, too
abbrev pub subscriptions_gained : List EvidenceCase
subscriptions_gained =
    lists_after (baz 0x0201) [] 0 "a LIST (SPECIAL-USE RECURSIVEMATCH) \"\" (%)" ("Foo" ∷ []) ("Foo" ∷ [])
    ∷ lists_after (baz 0x0203) [] 0 "a LIST (SPECIAL-USE RECURSIVEMATCH) \"\" (%)" ("Foo" ∷ []) ("Foo" ∷ [])
    ∷ lists_after (baz 0x0201) ("b SUBSCRIBE Foo/Baz" ∷ []) 0 "a LIST (SPECIAL-USE RECURSIVEMATCH) \"\" (%)" ("Foo" ∷ []) ("Foo" ∷ [])
    ∷ lists_after (baz 0x0001) [] 0 "a LIST () \"\" (%)" ("Foo" ∷ []) []
    ∷ lists_after (baz 0x0001) ("b SUBSCRIBE Foo" ∷ "c LIST \"\" *" ∷ "d SUBSCRIBE \"F%\"" ∷ []) 7 "a LIST () \"\" (%)" ("Foo" ∷ []) []
    ∷ lists_after (baz 0x0003) [] 0 "a LIST (SUBSCRIBED RECURSIVEMATCH) \"\" (%)" ("Foo" ∷ []) ("Foo" ∷ [])
    ∷ lists_after (baz 0x0003) ("b SUBSCRIBE Foo" ∷ []) 0 "a LIST (SUBSCRIBED RECURSIVEMATCH) \"\" (%)" ("Foo" ∷ []) ("Foo" ∷ [])
    ∷ []

-- UNSUBSCRIBE takes names and CHILDINFO away: a flag that is cleared, and a row 0002 that is removed
abbrev pub subscriptions_taken : List EvidenceCase
subscriptions_taken =
    lists_after (baz 0x0003) ("b UNSUBSCRIBE Foo/Baz" ∷ []) 0 "a LIST (SUBSCRIBED RECURSIVEMATCH) \"\" (%)" [] []
    ∷ lists_after (baz 0x0003) ("b SUBSCRIBE Moo" ∷ []) 0 "a LIST (SUBSCRIBED) \"\" (*)" ("Foo/Baz" ∷ "Moo" ∷ []) []
    ∷ lists_after (baz 0x0003) ("b SUBSCRIBE Moo" ∷ "c UNSUBSCRIBE Moo" ∷ []) 0 "a LIST (SUBSCRIBED) \"\" (*)" ("Foo/Baz" ∷ []) []
    ∷ []

-- W11: "the LIST lines of the joined command are those of the two merged in name order with equal lines once": patterns with names in common, W1's
-- level Foo in one of them alone, INBOX in another spelling, criteria selected, attributes returned; Foo before Foo-x before Foo/Bar
abbrev pub commands_joined : List EvidenceCase
commands_joined =
    merges table_e "a LIST () \"\" (Foo% Moo)" "b LIST () \"\" (*o F*)" "c LIST () \"\" (Foo% Moo *o F*)"
    ∷ merges table_e "a LIST () \"\" (Foo/*)" "b LIST \"\" (%)" "c LIST () \"\" (Foo/* %)"
    ∷ merges table_e "a LIST \"\" (in%)" "b LIST \"\" (INBOX Moo)" "c LIST \"\" (in% INBOX Moo)"
    ∷ merges tree "a LIST (SUBSCRIBED REMOTE) \"\" (D/*)" "b LIST (SUBSCRIBED REMOTE) \"\" (*/F A)" "c LIST (SUBSCRIBED REMOTE) \"\" (D/* */F A)"
    ∷ merges tree "a LIST \"\" (A) RETURN (CHILDREN)" "b LIST \"\" (*B*) RETURN (CHILDREN)" "c LIST \"\" (A *B*) RETURN (CHILDREN)"
    ∷ []

-- Each premise is needed. RECURSIVEMATCH: Foo stands there for Foo/Baz alone, which the second command's pattern matches. Extended: an empty pattern
-- asks for the root line. One set of options, one reference: other attributes, other names.
abbrev pub commands_not_joined : List EvidenceCase
commands_not_joined =
    merges_not table_e "a LIST (SUBSCRIBED RECURSIVEMATCH) \"\" (%)" "b LIST (SUBSCRIBED RECURSIVEMATCH) \"\" (Foo/*)"
    "c LIST (SUBSCRIBED RECURSIVEMATCH) \"\" (% Foo/*)"
    ∷ merges_not table_e "a LIST \"\" \"\"" "b LIST \"\" Moo" "c LIST \"\" (\"\" Moo)"
    ∷ merges_not table_e "a LIST \"\" (Moo)" "b LIST \"\" (INBOX)" "c LIST \"\" (Moo INBOX) RETURN (CHILDREN)"
    ∷ merges_not table_e "a LIST \"\" (Moo)" "b LIST \"Foo/\" (*)" "c LIST \"\" (Moo *)"
    ∷ []

-- "indifferent to order, to grouping, and to joining a list with itself", with RECURSIVEMATCH too
abbrev pub joins_alike : List EvidenceCase
joins_alike =
    lists_alike table_e "a LIST () \"\" (Foo% Moo *z)" "b LIST () \"\" (*z Foo% Moo)"
    ∷ lists_alike table_e "a LIST (SUBSCRIBED RECURSIVEMATCH) \"\" (% Foo/*)" "b LIST (SUBSCRIBED RECURSIVEMATCH) \"\" (Foo/* %)"
    ∷ lists_alike table_e "a LIST (SUBSCRIBED RECURSIVEMATCH) \"\" (%)" "b LIST (SUBSCRIBED RECURSIVEMATCH) \"\" (% %)"
    ∷ lists_alike table_e "a LIST \"\" (F* in%)" "b LIST \"\" (F* in% F* in%)"
    ∷ []

-- lines as such: by name, equal ones once, two different ones of one name both kept
abbrev pub lines_merged : List EvidenceCase
lines_merged =
    merges_lines ("* LIST () \"/\" \"b\"" ∷ "* LIST () \"/\" \"a-\"" ∷ []) ("* LIST () \"/\" \"a/x\"" ∷ "* LIST () \"/\" \"b\"" ∷ [])
    ("* LIST () \"/\" \"a-\"" ∷ "* LIST () \"/\" \"a/x\"" ∷ "* LIST () \"/\" \"b\"" ∷ [])
    ∷ merges_lines ("* LIST (\\Remote) \"/\" \"a\"" ∷ []) ("* LIST (\\Marked) \"/\" \"a\"" ∷ "* LIST () \"/\" \"a\"" ∷ [])
    ("* LIST () \"/\" \"a\"" ∷ "* LIST (\\Marked) \"/\" \"a\"" ∷ "* LIST (\\Remote) \"/\" \"a\"" ∷ [])
    ∷ merges_lines [] [] []
    ∷ []

-- W12: the commands of a walk: the first and one below each pending name, a quote in it escaped; several option bytes; the first alone where its
-- answer does not fit, or where nothing lies below. No number is passed on.
abbrev pub walk_commands : List EvidenceCase
walk_commands =
    sends_these table_e 0 16384 ("w LIST (SUBSCRIBED RECURSIVEMATCH) \"\" \"%\"" ∷ "w LIST (SUBSCRIBED RECURSIVEMATCH) \"Foo/\" \"%\"" ∷ [])
    ∷ sends_these table_e 0 16 ("w LIST (SUBSCRIBED RECURSIVEMATCH) \"\" \"%\"" ∷ [])
    ∷ sends_these table_e 3 16384 ("w LIST (SUBSCRIBED RECURSIVEMATCH SPECIAL-USE REMOTE) \"\" \"%\"" ∷ [])
    ∷ sends_these (mailbox 0x0201 "a\"/b/c") 6 16384 ("w LIST (RECURSIVEMATCH SPECIAL-USE) \"\" \"%\"" ∷ "w LIST (RECURSIVEMATCH SPECIAL-USE) \"a\\\"/\" \"%\""
    ∷ "w LIST (RECURSIVEMATCH SPECIAL-USE) \"a\\\"/b/\" \"%\"" ∷ [])
    ∷ sends_these [] 1 16384 ("w LIST (SUBSCRIBED RECURSIVEMATCH REMOTE) \"\" \"%\"" ∷ [])
    ∷ stops_with 9 9
    ∷ stops_with 3 9
    ∷ stops_with 8 9
    ∷ []
