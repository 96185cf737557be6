-- The reader of one LIST line, and the line writer.
use Rattle.std.specs.Prelude.{List, [], ◌∷◌, ◌++◌, Bool, true, false, cond, ◌&&◌, length, replicate, ℕ, ◌-◌}
use Rattle.std.proofs.Math.Option.{Option, none, some}
use Rattle.listing_rules.specs.Bytes.{text, space, crlf, same, is_empty}
use Rattle.listing_rules.specs.Names.{lawful_name}
use Rattle.listing_rules.specs.Tokens.{Got, got, after, with_first, unquoted, ◌>>=◌}
use Rattle.listing_rules.specs.Options.{Criteria, no_criteria, is_none, lawful_criteria, criteria_of}
use Rattle.listing_rules.specs.Lines.{attribute_names, child_info_text, list_line, root_line}
use Rattle.listing_rules.specs.Server.{Reply, refusal, answered, limited}

-- what the reader finds: a line's attributes, name and CHILDINFO; the root line; or neither
pub data Read : Type 0 where
  line : List Bool → List ℕ → Criteria → Read
  root : Read
  bad : Read

-- a name that follows another has a space before it
unfoldable pub separated : Bool → List ℕ → List ℕ
separated true n = n
separated false n = space ∷ n

-- "any subset of the sixteen in order": which of the names stand next; the flag says that none stood yet
unfoldable pub read_chosen : Bool → List (List ℕ) → List ℕ → Got (List Bool)
read_chosen first [] t = got [] t
read_chosen first (n ∷ ns) t =
    elim (after (separated first n) t) [ none ↦ with_first false (read_chosen first ns t) | some u ↦ with_first true (read_chosen false ns u) ]

-- "with or without CHILDINFO"; W3: "one, the other, or both in that order"
unfoldable pub criteria_sets : List Criteria
criteria_sets =
    no_criteria
    ∷ record { subscribed = true; special = false }
    ∷ record { subscribed = false; special = true }
    ∷ record { subscribed = true; special = true }
    ∷ []

-- what stands behind the name
unfoldable pub read_among : List Criteria → List ℕ → Option Criteria
read_among [] t = none
read_among (c ∷ cs) t = let later = read_among cs t in cond (same t (child_info_text c ++ crlf)) (some c) later

unfoldable pub child_info_read : List ℕ → Option Criteria
child_info_read t = read_among criteria_sets t

-- a line with "a name of the table's shape (bytes, levels, INBOX rule, 1 to 200 bytes)"
unfoldable pub read_parts : List ℕ → Option Read
read_parts l = do
  t ← after (text "* LIST (") l
  let a = read_chosen true attribute_names t
  u ← after (text ") \"/\" \"") a.rest
  n ← unquoted false u
  c ← child_info_read n.rest
  cond (lawful_name n.val) (some (line a.val n.val c)) none

unfoldable pub or_bad : Option Read → Read
or_bad none = bad
or_bad (some r) = r

-- "The reader takes the root line, or any subset of the sixteen in order with a name of the table's shape .., with or without
--  CHILDINFO. All else is 12."
unfoldable pub read_line : List ℕ → Read
read_line l = cond (same l root_line) root (or_bad (read_parts l))

-- The root line is read as `\Noselect`, the empty name and no CHILDINFO: of the sixteen, that one alone (law `root-named`).
unfoldable pub root_attributes : List Bool
root_attributes = false ∷ false ∷ true ∷ replicate 13 false

-- "The reader's refusal gives no attributes and an empty name."
unfoldable pub attributes_read : Read → List Bool
attributes_read (line bs n c) = bs
attributes_read root = root_attributes
attributes_read bad = replicate 16 false

unfoldable pub name_read : Read → List ℕ
name_read (line bs n c) = n
name_read root = []
name_read bad = []

unfoldable pub child_info_of : Read → Criteria
child_info_of (line bs n c) = c
child_info_of root = no_criteria
child_info_of bad = no_criteria

-- "12: reader: not such a line"; 0 where it is one
unfoldable pub read_number : Read → ℕ
read_number (line bs n c) = 0
read_number root = 0
read_number bad = 12

-- "The reader's name comes in 200 bytes, zero behind it"
unfoldable pub name_bytes : Read → List ℕ
name_bytes r = name_read r ++ replicate (200 - length (name_read r)) 0

unfoldable pub same_bools : List Bool → List Bool → Bool
same_bools [] [] = true
same_bools [] (y ∷ ys) = false
same_bools (x ∷ xs) [] = false
same_bools (x ∷ xs) (y ∷ ys) = cond x y (cond y false true) && same_bools xs ys

-- the parts of the root line
unfoldable pub root_parts : List Bool → List ℕ → Criteria → Bool
root_parts bs n c = same_bools bs root_attributes && is_empty n && is_none c

-- "The line writer .. writes any of these lines from its parts, marked with unmarked too; other parts are 12". The parts are the
-- attributes, the name, and the number k of the set of criteria that CHILDINFO names; a number that is no such set is a part of no line.
unfoldable pub line_from : List Bool → List ℕ → ℕ → Reply
line_from bs n k =
    let named = answered (list_line bs n (criteria_of k)) in
    let other = cond (root_parts bs n (criteria_of k)) (answered root_line) (refusal 12) in
    cond (lawful_criteria k) (cond (lawful_name n) named other) (refusal 12)

-- "a short buffer 9, in that order"; bytes behind the line stay, and a refusal changes no byte: `bufferAfter`
unfoldable pub written : List Bool → List ℕ → ℕ → List ℕ → Reply
written bs n k buffer = limited (length buffer) (line_from bs n k)
