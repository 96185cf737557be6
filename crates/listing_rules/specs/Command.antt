-- The command line: its shape, its grammar from left to right, and the refusals 3 to 8 in the server's order.
use Rattle.std.specs.Prelude.{List, [], ◌∷◌, ◌++◌, Bool, true, false, cond, ◌&&◌, ◌||◌, not, leb, length, take, ℕ, zero, suc, ◌-◌}
use Rattle.std.proofs.Math.Option.{Option, none, some}
use Rattle.listing_rules.specs.Bytes.{text, spells, is_empty, opening, space}
use Rattle.listing_rules.specs.Lists.{every, any_of}
use Rattle.listing_rules.specs.Tokens.{Got, got, at, after, with_first, ◌>>=◌, tag_byte, atom_byte, run, run₁, atom, astring, pattern}
use Rattle.listing_rules.specs.Feeder.{first, one_command}
use Rattle.listing_rules.specs.Options.{Options, lawful_options}

-- The shape of the line: "At most 2,048 bytes. It ends with CR LF, and before that holds only bytes 01 to 7F other than CR and LF",
-- with W2 over the text outside literals; what stands before the last CR LF.
unfoldable pub line_text : List ℕ → Option (List ℕ)
line_text l = cond (one_command first l) (some (take (length l - 2) l)) none

-- "A value is one or more items parted by single spaces, each an astring or a value in parentheses; values nest as deep as the
-- line allows." t stands behind the opening parenthesis; the result is what is left behind the closing one. Each step takes a
-- byte, so the bytes of t are steps enough (law `value-fuel`).
unfoldable pub value_rest : ℕ → List ℕ → Option (List ℕ)
value_rest zero t = none
value_rest (suc k) t =
    let inner = after (text "(") t >>= λ v. value_rest k v in
    let word = astring t >>= λ g. some g.rest in
    cond (at opening t) inner word >>= λ u.
    let more = after (text " ") u >>= λ v. value_rest k v in
    cond (at space u) more (after (text ")") u)

-- an option as it is written: its word, and whether a value stands behind it
pub record Opt : Type 0 where
  pub word : List ℕ
  pub valued : Bool

-- "An option is an atom, perhaps followed by a space and a value in parentheses."
unfoldable pub option : List ℕ → Option (Got Opt)
option t =
    atom t >>= λ g.
    elim (after (text " (") g.rest) [
      | none ↦ some (got (record { word = g.val; valued = false }) g.rest)
      | some u ↦ value_rest (length u) u >>= λ v. some (got (record { word = g.val; valued = true }) v)
    ]

-- one or more items "parted by single spaces", and the closing parenthesis. Each item takes a byte, so the bytes of t are steps
-- enough (laws `options-fuel`, `patterns-fuel`).
unfoldable pub parted : {A : Type 0} → (List ℕ → Option (Got A)) → ℕ → List ℕ → Option (Got (List A))
parted item zero t = none
parted item (suc k) t = do
  g ← item t
  elim (at space g.rest) [
    | true ↦ after (text " ") g.rest >>= λ u. parted item k u >>= λ r. some (with_first g.val r)
    | false ↦ after (text ")") g.rest >>= λ u. some (got (g.val ∷ []) u)
  ]

-- "Options are parted by single spaces; the list may be empty." t stands behind the opening parenthesis.
unfoldable pub options : List ℕ → Option (Got (List Opt))
options t = elim (after (text ")") t) [ some u ↦ some (got [] u) | none ↦ parted option (length t) t ]

-- "either one pattern or one or more in parentheses parted by single spaces"
unfoldable pub patterns : List ℕ → Option (Got (List (List ℕ)))
patterns t = elim (after (text "(") t) [ some u ↦ parted pattern (length u) u | none ↦ pattern t >>= λ g. some (got (g.val ∷ []) g.rest) ]

-- "optionally a space and selection options in parentheses"
unfoldable pub selection_part : List ℕ → Option (Got (List Opt))
selection_part t = elim (after (text " (") t) [ some u ↦ options u | none ↦ some (got [] t) ]

-- "optionally a space, RETURN in any case, a space and return options in parentheses"; then the line ends
unfoldable pub return_part : List ℕ → Option (List Opt)
return_part [] = some []
return_part (b ∷ t) = do
  u ← after (text " ") (b ∷ t)
  w ← atom u
  v ← cond (spells w.val (text "RETURN")) (after (text " (") w.rest) none
  r ← options v
  cond (is_empty r.rest) (some r.val) none

-- what is written behind the word LIST
pub record ListArgs : Type 0 where
  pub selection : List Opt
  pub has_selection : Bool
  pub reference : List ℕ
  pub pats : List (List ℕ)
  pub in_parens : Bool
  pub returns : List Opt
  pub has_return : Bool

unfoldable pub is_some : {A : Type 0} → Option A → Bool
is_some none = false
is_some (some x) = true

-- "LIST goes on: optionally a space and selection options in parentheses; a space and the reference (astring); a space and either
-- one pattern or one or more in parentheses ..; optionally a space, RETURN .., a space and return options in parentheses."
unfoldable pub list_args : List ℕ → Option ListArgs
list_args t = do
  s ← selection_part t
  u ← after (text " ") s.rest
  r ← astring u
  v ← after (text " ") r.rest
  p ← patterns v
  e ← return_part p.rest
  some
      (record {
        selection = s.val;
        has_selection = is_some (after (text " (") t);
        reference = r.val;
        pats = p.val;
        in_parens = at opening v;
        returns = e;
        has_return = not (is_empty p.rest);
      })

-- "A command is extended if it has a selection list, parenthesised patterns or RETURN."
unfoldable pub extended : ListArgs → Bool
extended a = a.has_selection || a.in_parens || a.has_return

-- "Known, in any case of letters and without a value: selection SUBSCRIBED, REMOTE, RECURSIVEMATCH, SPECIAL-USE;
--  return SUBSCRIBED, CHILDREN, SPECIAL-USE."
unfoldable pub selection_words : List (List ℕ)
selection_words = text "SUBSCRIBED" ∷ text "REMOTE" ∷ text "RECURSIVEMATCH" ∷ text "SPECIAL-USE" ∷ []

unfoldable pub return_words : List (List ℕ)
return_words = text "SUBSCRIBED" ∷ text "CHILDREN" ∷ text "SPECIAL-USE" ∷ []

unfoldable pub known_in : List (List ℕ) → Opt → Bool
known_in ws o = not o.valued && any_of (λ w. spells o.word w) ws

-- "A repeat counts once": an option is in the set if it is written at all
unfoldable pub named : List ℕ → List Opt → Bool
named w os = any_of (λ o. spells o.word w) os

unfoldable pub options_of : ListArgs → Options
options_of a =
    record {
      sel_subscribed = named (text "SUBSCRIBED") a.selection;
      sel_remote = named (text "REMOTE") a.selection;
      sel_recursive = named (text "RECURSIVEMATCH") a.selection;
      sel_special = named (text "SPECIAL-USE") a.selection;
      ret_subscribed = named (text "SUBSCRIBED") a.returns;
      ret_children = named (text "CHILDREN") a.returns;
      ret_special = named (text "SPECIAL-USE") a.returns;
    }

-- "The canonical pattern is the reference followed by the pattern"; an empty pattern "has no canonical form"
unfoldable pub canonical : List ℕ → List (List ℕ) → List (List ℕ)
canonical r [] = []
canonical r (p ∷ ps) = let t = canonical r ps in cond (is_empty p) t ((r ++ p) ∷ t)

-- "At most 8 patterns, empty ones counted." "The canonical pattern is .. at most 255 bytes after unquoting"
unfoldable pub few_patterns : ListArgs → Bool
few_patterns a = leb (length a.pats) 8 && every (λ p. leb (length p) 255) (canonical a.reference a.pats)

-- document 02, W6: "SUBSCRIBE and UNSUBSCRIBE with one mailbox name"
pub data Edit : Type 0 where
  subscribe : List ℕ → Edit
  unsubscribe : List ℕ → Edit

-- a command that is read and lawful, or the number of its refusal
pub data Parsed : Type 0 where
  refused : ℕ → Parsed
  namespace : List ℕ → Parsed
  listing : List ℕ → Options → List (List ℕ) → Parsed
  root_of : List ℕ → Parsed
  subscriptions : List ℕ → List (List ℕ) → Parsed
  editing : List ℕ → Edit → Parsed

-- whether it is SUBSCRIBE or UNSUBSCRIBE
unfoldable pub is_edit : Parsed → Bool
is_edit (editing tag e) = true
is_edit (refused k) = false
is_edit (namespace tag) = false
is_edit (listing tag o ps) = false
is_edit (root_of tag) = false
is_edit (subscriptions tag ps) = false

-- "In an extended command an empty pattern matches nothing .. In the other kind it asks for the root line": that command has one pattern
unfoldable pub asks_root : ListArgs → Bool
asks_root a = not (extended a) && every is_empty a.pats

-- a LIST command on the grammar: 6, then 7, then 8
unfoldable pub judged : List ℕ → ListArgs → Parsed
judged tag a =
    let fine = cond (asks_root a) (root_of tag) (listing tag (options_of a) (canonical a.reference a.pats)) in
    let e8 = cond (few_patterns a) fine (refused 8) in
    let e7 = cond (lawful_options (options_of a)) e8 (refused 7) in
    cond (every (known_in selection_words) a.selection && every (known_in return_words) a.returns) e7 (refused 6)

-- what is written after the word LSUB: document 02, W5, "LSUB with reference and a single pattern"
pub record LsubArgs : Type 0 where
  pub reference : List ℕ
  pub pat : List ℕ

unfoldable pub lsub_args : List ℕ → Option LsubArgs
lsub_args t = do
  u ← after (text " ") t
  r ← astring u
  v ← after (text " ") r.rest
  p ← pattern v
  cond (is_empty p.rest) (some (record { reference = r.val; pat = p.val })) none

-- an LSUB command on the grammar: 8; "An empty pattern is as in an extended command", so it has no canonical form
unfoldable pub judged_lsub : List ℕ → LsubArgs → Parsed
judged_lsub tag a =
    let ps = canonical a.reference (a.pat ∷ []) in
    cond (every (λ p. leb (length p) 255) ps) (subscriptions tag ps) (refused 8)

-- what is written after the word SUBSCRIBE or UNSUBSCRIBE: "one mailbox name (an astring)"
unfoldable pub name_arg : List ℕ → Option (List ℕ)
name_arg t = do
  u ← after (text " ") t
  n ← astring u
  cond (is_empty n.rest) (some n.val) none

-- go on with what was read, or refuse with the number
unfoldable pub or_refuse : {A : Type 0} → ℕ → Option A → (A → Parsed) → Parsed
or_refuse k none go = refused k
or_refuse k (some a) go = go a

-- "a word, the longest run of atom bytes: LIST or NAMESPACE in any case"; another word is 5, a rest off the grammar 4.
-- "NAMESPACE ends there." W6: "Check 5 now knows five words."
unfoldable pub worded : List ℕ → Got (List ℕ) → Parsed
worded tag w =
    let list = or_refuse 4 (list_args w.rest) (judged tag) in
    let spaces = cond (is_empty w.rest) (namespace tag) (refused 4) in
    let subscribed = or_refuse 4 (lsub_args w.rest) (judged_lsub tag) in
    let adding = or_refuse 4 (name_arg w.rest) (λ n. editing tag (subscribe n)) in
    let taking = or_refuse 4 (name_arg w.rest) (λ n. editing tag (unsubscribe n)) in
    cond (spells w.val (text "LIST")) list
    (cond (spells w.val (text "NAMESPACE")) spaces
    (cond (spells w.val (text "LSUB")) subscribed
    (cond (spells w.val (text "SUBSCRIBE")) adding
    (cond (spells w.val (text "UNSUBSCRIBE")) taking (refused 5)))))

-- "Tag, one space, then a word": "An empty tag or a missing space is 4"
unfoldable pub tagged : List ℕ → Parsed
tagged t =
    or_refuse 4 (run₁ tag_byte t) (λ tag.
    or_refuse 4 (after (text " ") tag.rest) (λ u.
    worded tag.val (run atom_byte u)))

-- the line shape is 3; then tag 4, 5, rest 4, 6, 7, 8
unfoldable pub parsed : List ℕ → Parsed
parsed l = or_refuse 3 (line_text l) tagged
