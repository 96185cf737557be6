-- The text of a class, and of the whole answer. Rests on Entries.
use Rattle.listing_rules.proofs.Prelude.{◌≡◌, refl, List, [], ◌++◌, ◌∷◌, append_assoc, ◌<◌, ◌≤◌, ℕ, arith, drop, length}
use Rattle.listing_rules.specs.Bytes.{text}
use Rattle.listing_rules.specs.Lists.{joined}
use Rattle.listing_rules.specs.Lines.{ok_line}
use Rattle.listing_rules.specs.Namespaces.{Entry, entries, of_class}
use Rattle.listing_rules.specs.Server.{entry_text, class_text, namespace_answer}
use Rattle.namespace_list.specs.declared.Entry.{Entry as Placed}
use Rattle.namespace_list.specs.Entries.{meaning, EntryAt}
use Rattle.namespace_list.specs.Line.{entries_text, namespace_line}
use Rattle.namespace_list.proofs.Entries.{class_here, class_end}

-- a class without entries is NIL, one with entries shows them in parentheses
pub class_none : (es : List Entry) → length es < 1 → class_text es ≡ text " NIL"
unfolding class_text
class_none [] h = refl
class_none (e ∷ es) h = absurd (omega arith)

pub class_some : (es : List Entry) → 1 ≤ length es → class_text es ≡ text " (" ++ (entries_text es ++ text ")")
unfolding class_text
class_some [] h = absurd (omega arith)
class_some (e ∷ es) h = refl

-- the text of the entries of a class, at a place of the list
pub text_here : {l : List ℕ} {at : ℕ} {e : Placed} → EntryAt l at e → (c : ℕ) → e.class ≡ c
    → entries_text (of_class c (entries (drop at l))) ≡ entry_text (meaning l e) ++ entries_text (of_class c (entries (drop e.next l)))
unfolding joined
text_here f c g = rw (class_here f c g)

pub text_end : (l : List ℕ) (at c : ℕ) → length l ≤ at → entries_text (of_class c (entries (drop at l))) ≡ []
unfolding joined
text_end l at c h = rw (class_end l at c h)

-- the answer to NAMESPACE is this line and the tagged one
pub answer_line_lem : (es : List Entry) (tag : List ℕ) → namespace_answer es tag ≡ namespace_line es ++ ok_line tag
unfolding namespace_answer namespace_line
answer_line_lem es tag = simp append_assoc
