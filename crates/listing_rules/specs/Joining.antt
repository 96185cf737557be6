-- Document 02, W11: two requests made one. Lines merged, commands joined, the claims about them, and the line of a joined command.
use Rattle.std.specs.Prelude.{◌≡◌, List, [], ◌∷◌, ◌++◌, map, Bool, true, false, cond, ◌&&◌, ◌||◌, not, eqb, leb, length, take}
use Rattle.std.proofs.Math.Option.{some}
use Prim.Native.Nat.{ℕ, zero, suc, Ordering, ◌+◌, ◌/◌, ◌%◌}
use Rattle.listing_rules.specs.Bytes.{text, crlf, bit, all, is_empty, digit0}
use Rattle.listing_rules.specs.Lists.{every}
use Rattle.listing_rules.specs.Orders.{then_by, byte_order, sorted}
use Rattle.listing_rules.specs.Table.{Table}
use Rattle.listing_rules.specs.Tokens.{tag_byte, line_byte}
use Rattle.listing_rules.specs.Options.{Options, lawful_options}
use Rattle.listing_rules.specs.Command.{listing, extended, canonical, parsed}
use Rattle.listing_rules.specs.Lines.{chosen, spaced, quoted}
use Rattle.listing_rules.specs.Subscriptions.{Store}
use Rattle.listing_rules.specs.Server.{Reply, refusal, answered, limited}
use Rattle.listing_rules.specs.Walk.{when}
use Rattle.listing_rules.specs.Evidence.{ListCommand, list_command, options_in, reference_in, written_in, list_lines, line_name, Accepted, AcceptedOver}

-- "in name order": by the name that the line reader reads; two lines of one name that are not equal, by their bytes
unfoldable pub line_order : List ℕ → List ℕ → Ordering
line_order k l = then_by (byte_order (line_name k) (line_name l)) (byte_order k l)

-- "merged in name order with equal lines once". Equal lines alone are dropped: two different lines of one name both stay.
unfoldable pub merged_lines : List (List ℕ) → List (List ℕ) → List (List ℕ)
merged_lines ks ls = sorted line_order (ks ++ ls)

-- "two commands .. with the same options, the same reference and different patterns", and "the joined command": the patterns of the first, then
-- those of the second
pub record Joins (c d j : ListCommand) : Type 0 where
  pub reference_first : reference_in j ≡ reference_in c
  pub reference_second : reference_in j ≡ reference_in d
  pub options_first : options_in j ≡ options_in c
  pub options_second : options_in j ≡ options_in d
  pub joined_patterns : written_in j ≡ written_in c ++ written_in d

-- W11: "A collector sends two commands over one table, from one reader .. Without RECURSIVEMATCH, and if all three commands are extended and
-- accepted, the LIST lines of the joined command are those of the two merged in name order with equal lines once."
abbrev pub JoiningTwo : Type 0
JoiningTwo =
    (reader : ℕ) (t : Table) (spaces l buffer spaces' m buffer' spaces'' k buffer'' : List ℕ) (c d j : ListCommand) (a b e : List ℕ)
    → Accepted reader t spaces l buffer c a → Accepted reader t spaces' m buffer' d b → Accepted reader t spaces'' k buffer'' j e
    → Joins c d j → (options_in j).sel_recursive ≡ false → list_lines e ≡ merged_lines (list_lines a) (list_lines b)

abbrev pub JoiningTwoOver : Type 0
JoiningTwoOver =
    (reader : ℕ) (s : Store) (spaces l buffer spaces' m buffer' spaces'' k buffer'' : List ℕ) (c d j : ListCommand) (a b e : List ℕ)
    → AcceptedOver reader s spaces l buffer c a → AcceptedOver reader s spaces' m buffer' d b → AcceptedOver reader s spaces'' k buffer'' j e
    → Joins c d j → (options_in j).sel_recursive ≡ false → list_lines e ≡ merged_lines (list_lines a) (list_lines b)

-- two accepted commands of one reader, and their answers: over one table, ..
pub record BothAccepted (c d : ListCommand) (a b : List ℕ) : Type 0 where
  pub reader : ℕ
  pub table : Table
  pub spaces_first : List ℕ
  pub line_first : List ℕ
  pub buffer_first : List ℕ
  pub spaces_second : List ℕ
  pub line_second : List ℕ
  pub buffer_second : List ℕ
  pub first : Accepted reader table spaces_first line_first buffer_first c a
  pub second : Accepted reader table spaces_second line_second buffer_second d b

-- .. and over the same records
pub record BothAcceptedOver (c d : ListCommand) (a b : List ℕ) : Type 0 where
  pub reader : ℕ
  pub store : Store
  pub spaces_first : List ℕ
  pub line_first : List ℕ
  pub buffer_first : List ℕ
  pub spaces_second : List ℕ
  pub line_second : List ℕ
  pub buffer_second : List ℕ
  pub first : AcceptedOver reader store spaces_first line_first buffer_first c a
  pub second : AcceptedOver reader store spaces_second line_second buffer_second d b

-- "Joining is indifferent to order, to grouping, and to joining a list with itself, where that is accepted." So it is for commands, with
-- RECURSIVEMATCH and without, whichever of the two ways both were accepted: ..
pub record JoiningIndifferent (Both : ListCommand → ListCommand → List ℕ → List ℕ → Type 0) : Type 0 where
  pub of_order : (c d j k : ListCommand) (a b : List ℕ) → Both j k a b → Joins c d j → Joins d c k → list_lines a ≡ list_lines b
  -- c and d joined, then that and f; d and f joined, then c and that
  pub of_grouping : (c d f j k l m : ListCommand) (a b : List ℕ) → Both l m a b → Joins c d j → Joins j f l → Joins d f k → Joins c k m
      → list_lines a ≡ list_lines b
  pub of_itself : (c j : ListCommand) (a b : List ℕ) → Both c j a b → Joins c c j → list_lines a ≡ list_lines b

-- .. and for lines: what is merged already, as the lines of an answer are, is merged with itself without a change
pub record MergingIndifferent : Type 0 where
  pub of_order : (ks ls : List (List ℕ)) → merged_lines ks ls ≡ merged_lines ls ks
  pub of_grouping : (ks ls ms : List (List ℕ)) → merged_lines (merged_lines ks ls) ms ≡ merged_lines ks (merged_lines ls ms)
  pub of_itself : (ks ls : List (List ℕ)) → merged_lines (merged_lines ks ls) (merged_lines ks ls) ≡ merged_lines ks ls
  pub of_an_answer : (reader : ℕ) (t : Table) (spaces l buffer : List ℕ) (c : ListCommand) (a : List ℕ) → Accepted reader t spaces l buffer c a
      → merged_lines (list_lines a) (list_lines a) ≡ list_lines a

-- The line of a joined command, from its parts, so that a collector can send one request for two.

-- The set of options by its number: of the selection SUBSCRIBED counts 1, REMOTE 2, RECURSIVEMATCH 4, SPECIAL-USE 8; of the return options
-- SUBSCRIBED 16, CHILDREN 32, SPECIAL-USE 64. A number with another bit is no such set.
unfoldable pub lawful_set : ℕ → Bool
lawful_set k = leb k 127

unfoldable pub options_from : ℕ → Options
options_from k =
    record {
      sel_subscribed = bit 0 k;
      sel_remote = bit 1 k;
      sel_recursive = bit 2 k;
      sel_special = bit 3 k;
      ret_subscribed = bit 4 k;
      ret_children = bit 5 k;
      ret_special = bit 6 k;
    }

-- the patterns of a lent list, each as a length byte and its bytes, of which the first `skip` bytes still belong to the one before; the last ends
-- with the list at the latest
unfoldable pub patterns_after : ℕ → List ℕ → List (List ℕ)
patterns_after skip [] = []
patterns_after zero (n ∷ t) = take n t ∷ patterns_after n t
patterns_after (suc k) (n ∷ t) = patterns_after k t

unfoldable pub packed_patterns : List ℕ → List (List ℕ)
packed_patterns t = patterns_after 0 t

-- they fill it exactly: none runs past the end
unfoldable pub patterns_fill : ℕ → List ℕ → Bool
patterns_fill zero [] = true
patterns_fill (suc k) [] = false
patterns_fill zero (n ∷ t) = patterns_fill n t
patterns_fill (suc k) (n ∷ t) = patterns_fill k t

-- a number below 10,000 in decimal digits, as few as it has
unfoldable pub digit_of : ℕ → List ℕ
digit_of d = (digit0 + d % 10) ∷ []

unfoldable pub decimal_text : ℕ → List ℕ
decimal_text n =
    when (leb 1000 n) (digit_of (n / 1000)) ++ (when (leb 100 n) (digit_of (n / 100)) ++ (when (leb 10 n) (digit_of (n / 10)) ++ digit_of n))

-- a string as it is written: in quotes, or as a literal (W2) where its bytes cannot stand in quotes
unfoldable pub string_text : List ℕ → List ℕ
string_text x = cond (all line_byte x) (quoted x) (text "{" ++ (decimal_text (length x) ++ (text "}" ++ (crlf ++ x))))

-- whether a line can hold it: a literal has at most 1,024 bytes, and no byte is 00
unfoldable pub can_stand : List ℕ → Bool
can_stand x = all line_byte x || (leb (length x) 1024 && all (λ b. not (eqb b 0)) x)

-- the options, selected in the order in which the collector's walk writes them
unfoldable pub selection_text : Options → List ℕ
selection_text o =
    spaced (chosen (o.sel_subscribed ∷ o.sel_recursive ∷ o.sel_special ∷ o.sel_remote ∷ [])
    (text "SUBSCRIBED" ∷ text "RECURSIVEMATCH" ∷ text "SPECIAL-USE" ∷ text "REMOTE" ∷ []))

unfoldable pub returns_any : Options → Bool
returns_any o = o.ret_subscribed || o.ret_children || o.ret_special

unfoldable pub return_text : Options → List ℕ
return_text o =
    when (returns_any o) (text " RETURN (" ++
    (spaced (chosen (o.ret_subscribed ∷ o.ret_children ∷ o.ret_special ∷ []) (text "SUBSCRIBED" ∷ text "CHILDREN" ∷ text "SPECIAL-USE" ∷ []))
    ++ text ")"))

unfoldable pub joined_text : List ℕ → Options → List ℕ → List (List ℕ) → List ℕ
joined_text tag o r ps =
    tag ++
    (text " LIST (" ++
    (selection_text o ++ (text ") " ++ (string_text r ++ (text " (" ++ (spaced (map string_text ps) ++ (text ")" ++ (return_text o ++ crlf))))))))

-- The joined command of a tag, a set of options, a reference and the patterns of a lent list; or its refusal, in the server's order: 3 where no
-- line of 2,048 bytes holds it, 4 for what is no tag, no pattern or no such list, 6 for what is no set of options, then 7, then 8.
unfoldable pub joined_line : List ℕ → ℕ → List ℕ → List ℕ → Reply
joined_line tag k r list =
    let ps = packed_patterns list in
    let l = joined_text tag (options_from k) r ps in
    let e8 = cond (leb (length ps) 8 && every (λ p. leb (length p) 255) (canonical r ps)) (answered l) (refusal 8) in
    let e7 = cond (lawful_options (options_from k)) e8 (refusal 7) in
    let e6 = cond (lawful_set k) e7 (refusal 6) in
    let e4 = cond (not (is_empty tag) && all tag_byte tag && not (is_empty list) && patterns_fill 0 list) e6 (refusal 4) in
    cond (leb (length l) 2048 && can_stand r && every can_stand ps) e4 (refusal 3)

-- into a lent buffer: a short one is 9, last; bytes after the line stay, and a refusal changes no byte (`bufferAfter`)
unfoldable pub joined_into : List ℕ → ℕ → List ℕ → List ℕ → List ℕ → Reply
joined_into tag k r list buffer = limited (length buffer) (joined_line tag k r list)

-- What is written is read as the join: the grammar reads a command of these parts, which is extended and not refused with 3 to 8.
pub record ReadsAs (l tag : List ℕ) (o : Options) (r : List ℕ) (ps : List (List ℕ)) : Type 0 where
  pub command : ListCommand
  pub reads : list_command l ≡ some command
  pub same_tag : command.tag ≡ tag
  pub same_set : options_in command ≡ o
  pub same_reference : reference_in command ≡ r
  pub same_patterns : written_in command ≡ ps
  pub is_extended : extended command.args ≡ true
  pub is_lawful : parsed l ≡ listing tag o (canonical r ps)

abbrev pub JoinedLineReads : Type 0
JoinedLineReads =
    (tag : List ℕ) (k : ℕ) (r list l : List ℕ) → joined_line tag k r list ≡ answered l → ReadsAs l tag (options_from k) r (packed_patterns list)

-- so the line with the patterns of two lists joins the lines of the two
abbrev pub JoinedLineJoins : Type 0
JoinedLineJoins =
    (tag tag' tag'' : List ℕ) (k : ℕ) (r list list' l m n : List ℕ) → joined_line tag k r list ≡ answered l → joined_line tag' k r list' ≡ answered m
    → joined_line tag'' k r (list ++ list') ≡ answered n
    → (c : ListCommand) × (d : ListCommand) × (j : ListCommand) × (list_command l ≡ some c) × (list_command m ≡ some d) × (list_command n ≡ some j) × Joins c d j
