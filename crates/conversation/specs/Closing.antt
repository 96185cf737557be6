-- What a reply is: untagged lines that begin with the word of the command, and one line with the command's tag at the end.
use Rattle.std.specs.Prelude.{◌≡◌, List, [], ◌∷◌, ◌++◌, map, Bool, true, false, cond, ◌||◌, not, eqb, ℕ}
use Rattle.std.proofs.Math.Option.{Option, none, some}
use Rattle.listing_rules.specs.Bytes.{text, within, all, same, spells, space}
use Rattle.listing_rules.specs.Lists.{every, joined}
use Rattle.listing_rules.specs.Tokens.{run, after}
use Rattle.listing_rules.specs.Command.{Parsed, refused, namespace, listing, root_of, subscriptions, editing, parsed}
use Rattle.listing_rules.specs.Feeder.{Event, quiet, handed, go_on, denied, go_on_line}
use Rattle.conversation.specs.Conversation.{tag_of, Started, started}
use Rattle.conversation.specs.Happenings.{Happening}
use Rattle.conversation.specs.Texts.{ok_word, no_word, bad_word, closing, untagged}

-- 20 to 7E: no CR, no LF, no byte that RFC 3501 has no text for
unfoldable pub printable : ℕ → Bool
printable b = within 0x20 0x7E b

unfoldable pub is_status : List ℕ → Bool
is_status w = same w ok_word || same w no_word || same w bad_word

-- the first word of a body: its bytes before the first space
unfoldable pub first_word : List ℕ → List ℕ
first_word body = (run (λ b. not (eqb b space)) body).val

-- the word of the untagged lines of an answer that is the server's own; empty for an answer without them
unfoldable pub own_word : Option Started → List ℕ
own_word none = []
own_word (some w) =
    cond (spells w.word (text "CAPABILITY")) (text "CAPABILITY")
    (cond (spells w.word (text "LOGOUT")) (text "BYE")
    (cond (spells w.word (text "ID")) (text "ID") []))

-- and of any answer: LIST lines answer LIST alone, LSUB lines LSUB, a NAMESPACE line NAMESPACE
unfoldable pub word_for : Option Started → Parsed → List ℕ
word_for o (listing tag options ps) = text "LIST"
word_for o (root_of tag) = text "LIST"
word_for o (subscriptions tag ps) = text "LSUB"
word_for o (namespace tag) = text "NAMESPACE"
word_for o (editing tag e) = []
word_for o (refused k) = own_word o

unfoldable pub untagged_word : List ℕ → List ℕ
untagged_word l = word_for (started l) (parsed l)

-- The bytes `a` are untagged lines, perhaps none, each of which begins with the word, then one line of the tag with OK, NO or BAD; each is one line
-- (law `closes-lines`).
pub record Closes (tag word a : List ℕ) : Type 0 where
  pub bodies : List (List ℕ)
  pub status : List ℕ
  pub remark : List ℕ
  pub is : a ≡ joined (map untagged bodies) ++ closing tag status remark
  pub begin : every (λ b. same (first_word b) word) bodies ≡ true
  pub bodies_plain : every (all printable) bodies ≡ true
  pub remark_plain : all printable remark ≡ true
  pub status_known : is_status status ≡ true

-- an untagged line whose first word is LIST
unfoldable pub list_body : Option (List ℕ) → Bool
list_body none = false
list_body (some body) = same (first_word body) (text "LIST")

unfoldable pub is_list_line : List ℕ → Bool
is_list_line line = list_body (after (text "* ") line)

-- a command that asks for LIST lines
unfoldable pub is_listing : Parsed → Bool
is_listing (listing tag options ps) = true
is_listing (root_of tag) = true
is_listing (subscriptions tag ps) = false
is_listing (namespace tag) = false
is_listing (editing tag e) = false
is_listing (refused k) = false

unfoldable pub asks_list : Event → Bool
asks_list (handed l) = is_listing (parsed l)
asks_list quiet = false
asks_list go_on = false
asks_list (denied k) = false

-- What each event is answered with: a command by its untagged lines and one closing line with its tag; a continuation by `+ go`; a line that is
-- refused before its end by one line with the tag that it has so far.
unfoldable pub Answers : List ℕ → Event → List ℕ → Type 0
Answers kept quiet a = a ≡ []
Answers kept (handed l) a = Closes (tag_of l) (untagged_word l) a
Answers kept go_on a = a ≡ go_on_line
Answers kept (denied k) a = (c : Closes (tag_of kept) [] a) × (c.bodies ≡ [])

-- the answers are those to the first happenings, each to its own, in their order
unfoldable pub InOrder : List Happening → List (List ℕ) → Type 0
InOrder hs [] = Unit
InOrder [] (a ∷ more) = ⊥
InOrder (h ∷ hs) (a ∷ more) = Answers h.kept h.event a × InOrder hs more
