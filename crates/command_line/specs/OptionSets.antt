-- Options as a set of bits, and what a list of options as it is written adds to the set.
use Rattle.std.specs.Prelude.{Option as Maybe, Some, None}
use Rattle.std.specs.Prelude.{◌≡◌, Bool, true, false, cond, ◌&&◌, List, [], ◌∷◌, ℕ, ◌≤◌, ◌<◌, length, drop}
use Rattle.std.proofs.Math.Option.{Option, none, some}
use Rattle.listing_rules.specs.Bytes.{text, bit, spells}
use Rattle.listing_rules.specs.Tokens.{Got, got, ◌>>=◌}
use Rattle.listing_rules.specs.Options.{Options as Named}
use Rattle.listing_rules.specs.Command.{Opt, selection_words, return_words, known_in}
use Rattle.octets.specs.Sets.{union}
use Rattle.command_line.specs.declared.Options.{Options}
use Rattle.command_line.specs.declared.option_list.Place.{Place}
use Rattle.command_line.specs.declared.option_list.Place.TheVariants.{Selection, Return}
use Rattle.command_line.specs.declared.option_list.Written.{Written}
use Rattle.command_line.specs.declared.option_list.Listed.{Listed}
use Rattle.command_tokens.specs.declared.Cursor.{Cursor}
use Rattle.command_tokens.specs.Spans.{span_bytes}

-- the set's members by their names in document 01
unfoldable pub options_is : Options → Named
options_is o =
    record {
      sel_subscribed = bit 0 o.bits;
      sel_remote = bit 1 o.bits;
      sel_recursive = bit 2 o.bits;
      sel_special = bit 3 o.bits;
      ret_subscribed = bit 4 o.bits;
      ret_children = bit 5 o.bits;
      ret_special = bit 6 o.bits;
    }

-- the member that a word of the selection list names, 0 where it names none
unfoldable pub selected : List ℕ → ℕ
selected w =
    cond (spells w (text "SUBSCRIBED")) 1
    (cond (spells w (text "REMOTE")) 2 (cond (spells w (text "RECURSIVEMATCH")) 4 (cond (spells w (text "SPECIAL-USE")) 8 0)))

-- the member that a word of the return list names, 0 where it names none
unfoldable pub returned : List ℕ → ℕ
returned w = cond (spells w (text "SUBSCRIBED")) 16 (cond (spells w (text "CHILDREN")) 32 (cond (spells w (text "SPECIAL-USE")) 64 0))

abbrev pub member_of : Place → List ℕ → ℕ
member_of Selection = selected
member_of Return = returned

abbrev pub words_of : Place → List (List ℕ)
words_of Selection = selection_words
words_of Return = return_words

-- an option as the paper reads it
unfoldable pub written_is : List ℕ → Maybe Written → Option (Got Opt)
written_is s (Some w) = some (got (record { word = span_bytes s w.word; valued = w.valued }) (drop w.behind.at s))
written_is s None = none

-- an option read at `at`: its word is not quoted, and it ends further on inside the line
unfoldable pub WrittenIn : List ℕ → ℕ → Maybe Written → Type 0
WrittenIn s at (Some w) = (w.word.quoted ≡ false) × (at < w.behind.at) × (w.behind.at ≤ length s)
WrittenIn s at None = Unit {0}

-- what is kept of a list of options: the set of those it names, and whether each is known and has no value
pub record Marks : Type 0 where
  pub set : ℕ
  pub known : Bool

abbrev pub no_marks : Marks
no_marks = record { set = 0; known = true }

-- one option more
abbrev pub marking : Place → Marks → Opt → Marks
marking p m o = record { set = union m.set (member_of p o.word); known = m.known && known_in (words_of p) o }

unfoldable pub marked : Place → Marks → List Opt → Marks
marked p m [] = m
marked p m (o ∷ os) = marked p (marking p m o) os

-- a list of options that was read, as what is kept of it
unfoldable pub summed : Place → Marks → Got (List Opt) → Option (Got Marks)
summed p m g = some (got (marked p m g.val) g.rest)

unfoldable pub marks_of : Place → Option (Got (List Opt)) → Option (Got Marks)
marks_of p x = x >>= summed p no_marks

abbrev pub marks_read : Listed → Marks
marks_read l = record { set = l.set.bits; known = l.known }

unfoldable pub listed_is : List ℕ → Maybe Listed → Option (Got Marks)
listed_is s (Some l) = some (got (marks_read l) (drop l.behind.at s))
listed_is s None = none

-- no list of options
abbrev pub no_list : Cursor → Listed
no_list c = record { set = record { bits = 0 }; known = true; behind = c }

-- a list of options after which the line ends
unfoldable pub ended : Option (List Opt) → Option (Got (List Opt))
ended x = x >>= λ os. some (got os [])
