-- Options as they are written: one option, and a list of them in parentheses. Rests on Members, and on Bytes of command_tokens.
use Rattle.std.specs.Prelude.{Option as Maybe, Some, None}
use Rattle.listing_rules.proofs.Prelude.{◌∙◌, ◌≡◌, ap, refl, subst, sym, Bool, ◌&&◌, and_assoc, false, not, true, Option, none, some, List, [], ◌+◌}
use Rattle.listing_rules.proofs.Prelude.{◌<◌, ◌≤◌, ℕ, arith, eqb, drop, get_or, length}
use Rattle.listing_rules.specs.Bytes.{text}
use Rattle.listing_rules.specs.Tokens.{Got, got, ◌>>=◌, after, atom, with_first}
use Rattle.octets.specs.Sets.{union}
use Rattle.listing_rules.specs.Command.{Opt, option, options, parted, known_in}
use Rattle.command_line.specs.declared.option_list.Place.{Place}
use Rattle.command_line.specs.declared.option_list.Written.{Written}
use Rattle.command_line.specs.declared.option_list.Listed.{Listed}
use Rattle.command_tokens.specs.Spans.{span_bytes}
use Rattle.command_tokens.specs.Values.{value_of}
use Rattle.command_line.specs.OptionSets.{member_of, words_of, written_is, WrittenIn, Marks, marking, marked, summed, marks_read, listed_is}
use Rattle.command_tokens.proofs.Binds.{bind_none, bind_go}
use Rattle.command_tokens.proofs.Bytes.{after_here, after_other}
use Rattle.command_line.proofs.Members.{member_known}

-- behind the atom: a value, or nothing more
behind_word : Got (List ℕ) → Option (Got Opt)
behind_word g =
    elim (after (text " (") g.rest) [
      | none ↦ some (got (record { word = g.val; valued = false }) g.rest)
      | some u ↦ value_of u >>= λ v. some
          (got (record { word = g.val; valued = true }) v)
    ]

option_is : (t : List ℕ) → option t ≡ (atom t >>= behind_word)
unfolding option behind_word value_of
option_is t = refl

module _ (t : List ℕ) where
  pub option_off : atom t ≡ none → option t ≡ none
  option_off e = option_is t ∙ bind_none behind_word e

  module _ (w u : List ℕ) (e : atom t ≡ some (got w u)) where
    pub option_bare : after (text " (") u ≡ none → option t ≡ some (got (record { word = w; valued = false }) u)
    unfolding behind_word got
    option_bare q = option_is t ∙ bind_go behind_word e ∙ rw (q, behind_word)

    module _ (v : List ℕ) (q : after (text " (") u ≡ some v) where
      valued : option t ≡ (value_of v >>= λ x. some (got (record { word = w; valued = true }) x))
      unfolding behind_word got
      valued = option_is t ∙ bind_go behind_word e ∙ rw (q, behind_word)

      pub option_broken : value_of v ≡ none → option t ≡ none
      option_broken o = valued ∙ bind_none _ o

      pub option_valued : (x : List ℕ) → value_of v ≡ some x → option t ≡ some (got (record { word = w; valued = true }) x)
      option_valued x o = valued ∙ bind_go _ o

-- a list of options, behind its opening parenthesis
module _ (s : List ℕ) (i : ℕ) where
  pub options_none : get_or s i 0 ≡ 41 → options (drop i s) ≡ some (got [] (drop (i + 1) s))
  unfolding options text
  options_none h = rw (after_here s i 41 (omega arith) h, options)

  pub options_some : (get_or s i 0 ≡ 41 → ⊥) → options (drop i s) ≡ parted option (length (drop i s)) (drop i s)
  unfolding options text
  options_some h = rw (after_other s i 41 h, options)

-- an option that was read, or was not
module _ (s : List ℕ) {r : Maybe Written} {x : Option (Got Opt)} (e : written_is s r ≡ x) where
  pub written_word : {w : Written} → r ≡ Some w → x ≡ some (got (record { word = span_bytes s w.word; valued = w.valued }) (drop w.behind.at s))
  unfolding written_is
  written_word q = sym e ∙ ap (written_is s) q

  pub written_absent : r ≡ None → x ≡ none
  unfolding written_is
  written_absent q = sym e ∙ ap (written_is s) q

pub written_ahead : (s : List ℕ) (i : ℕ) {r : Maybe Written} {w : Written} → WrittenIn s i r → r ≡ Some w → (w.word.quoted ≡ false) × (i < w.behind.at) × (w.behind.at ≤ length s)
unfolding WrittenIn
written_ahead s i h q = subst (WrittenIn s i) q h

-- a list that was read, or was not
module _ (s : List ℕ) {r : Maybe Listed} {x : Option (Got Marks)} (e : listed_is s r ≡ x) where
  pub listed_read : {l : Listed} → r ≡ Some l → x ≡ some (got (marks_read l) (drop l.behind.at s))
  unfolding listed_is
  listed_read q = sym e ∙ ap (listed_is s) q

  pub listed_broken : r ≡ None → x ≡ none
  unfolding listed_is
  listed_broken q = sym e ∙ ap (listed_is s) q

-- an option is known if its word names a member and it has no value
known_is : (p : Place) (k v : Bool) (w : List ℕ) → (k && not v && not (eqb (member_of p w) 0)) ≡ (k && known_in (words_of p) (record { word = w; valued = v }))
unfolding known_in
known_is p k v w = rw (member_known p w) (and_assoc k (not v) (not (eqb (member_of p w) 0)))

-- what the code keeps with one option more
pub marking_is : (p : Place) (m : Marks) (v : Bool) (w : List ℕ) (member set : ℕ) → member ≡ member_of p w → set ≡ union m.set member →
    record { set = set; known = m.known && not v && not (eqb member 0) } ≡ marking p m (record { word = w; valued = v })
marking_is p m v w member set e f = λ i. record { set = (f ∙ ap (union m.set) e) i; known = (ap (λ (x : ℕ). m.known && not v && not (eqb x 0)) e ∙ known_is p m.known v w) i }

-- one option goes from the list to what is kept
pub summed_more : (p : Place) (m : Marks) (o : Opt) (r : Got (List Opt)) → summed p m (with_first o r) ≡ summed p (marking p m o) r
unfolding summed marked with_first got
summed_more p m o r = refl
