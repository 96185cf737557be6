-- The attributes' names one by one, what is written and what is left to write; the line writer's cases.
use Rattle.std.specs.Prelude.{Err}
use Rattle.listing_rules.proofs.Prelude.{◌∙◌, ◌≡◌, ap, refl, sym, Bool, false, true, List, [], ◌++◌, ◌∷◌, append_assoc, append-nil, ◌%◌, ◌+◌}
use Rattle.listing_rules.proofs.Prelude.{◌/◌, ◌<◌, ◌^◌, ◌≤◌, ℕ, add-one, arith, drop, drop_of_length-le, length, drop-cons, eq-eqb, ne_eqb}
use Rattle.listing_rules.specs.Bytes.{bit}
use Rattle.listing_rules.proofs.Keys.{open_bytes}
use Rattle.listing_rules.specs.Options.{lawful_criteria, criteria_of}
use Rattle.listing_rules.specs.Lines.{attribute_names, chosen, spaced, spaced_tail, list_line, root_line}
use Rattle.listing_rules.specs.Names.{lawful_name}
use Rattle.listing_rules.specs.LineReader.{separated, root_parts, line_from}
use Rattle.listing_rules.specs.Server.{refusal, answered, limited, buffer_after}
use Rattle.octets.specs.Put.{Put}
use Rattle.octets.specs.declared.refusals.Refusal.{Refusal}
use Rattle.octets.specs.Refusals.{number_of}
use Rattle.octets.specs.Written.{written_is, Gives}
use Rattle.octets.proofs.Puts.{put_none, put_then}
use Rattle.list_line.specs.Members.{members}
use Rattle.list_line.specs.Names.{name_of}
use Rattle.list_line.proofs.Members.{get_or_members, length_members}

-- the names from name k on
abbrev pub from : ℕ → List (List ℕ)
from k = drop k attribute_names

pub from_name_lem : (k : ℕ) → k < 16 → from k ≡ name_of k ∷ from (k + 1)
unfolding attribute_names name_of
from_name_lem k h = rw add-one (drop-cons attribute_names k [] h)

-- the text of the names that are shown, at the begin or behind another
unfoldable pub tail_text : Bool → List (List ℕ) → List ℕ
tail_text true ns = spaced ns
tail_text false ns = spaced_tail ns

tail_first : (first : Bool) (n : List ℕ) (ns : List (List ℕ)) → tail_text first (n ∷ ns) ≡ separated first n ++ tail_text false ns
unfolding tail_text spaced spaced_tail separated
tail_first true n ns = refl
tail_first false n ns = refl

tail_none : (first : Bool) → tail_text first [] ≡ []
unfolding tail_text spaced spaced_tail
tail_none true = refl
tail_none false = refl

-- the next name, which is shown or not
module _ (bits k : ℕ) (first : Bool) (h : k < 16) where
  next_member : {o : Bool} → bit k bits ≡ o → drop k (members bits) ≡ o ∷ drop (k + 1) (members bits)
  next_member e = rw (add-one k, drop-cons (members bits) k false (omega (arith, length_members bits)), get_or_members k bits h, e)

  name_in_lem : bits / 2 ^ k % 2 ≡ 1 → tail_text first (chosen (drop k (members bits)) (from k)) ≡ separated first (name_of k) ++ tail_text false (chosen (drop (k + 1) (members bits)) (from (k + 1)))
  unfolding bit chosen
  name_in_lem t =
      let e : bit k bits ≡ true = eq-eqb (bits / 2 ^ k % 2) 1 t in
      rw (from_name_lem k h, next_member e) (tail_first first (name_of k) (chosen (drop (k + 1) (members bits)) (from (k + 1))))

  name_out : (bits / 2 ^ k % 2 ≡ 1 → ⊥) → tail_text first (chosen (drop k (members bits)) (from k)) ≡ tail_text first (chosen (drop (k + 1) (members bits)) (from (k + 1)))
  unfolding bit chosen
  name_out t = let e : bit k bits ≡ false = ne_eqb (bits / 2 ^ k % 2) 1 t in rw (from_name_lem k h, next_member e)

-- the names before name k are written
pub record Spelled (d e : List ℕ) (at to bits : ℕ) (first : Bool) (k : ℕ) : Type 0 where
  pub acc : List ℕ
  pub put : Put d e at acc to
  pub rest : acc ++ tail_text first (chosen (drop k (members bits)) (from k)) ≡ spaced (chosen (members bits) attribute_names)

pub spelled_none : (d : List ℕ) (at bits : ℕ) → length d + 1 < 2 ^ 64 → at < 2 ^ 64 → Spelled d d at at bits true 0
unfolding tail_text
spelled_none d at bits h g = record { acc = []; put = put_none d at h g; rest = refl }

module _ {d e : List ℕ} {at to bits : ℕ} {first : Bool} {k : ℕ} (s : Spelled d e at to bits first k) where
  pub spelled_in : {f : List ℕ} {r : ℕ} → k < 16 → bits / 2 ^ k % 2 ≡ 1 → Put e f to (separated first (name_of k)) r → Spelled d f at r bits false (k + 1)
  spelled_in h t p =
      record {
        acc = s.acc ++ separated first (name_of k);
        put = put_then s.put p;
        rest = append_assoc s.acc _ _ ∙ ap (◌++◌ s.acc) (sym (name_in_lem bits k first h t)) ∙ s.rest;
      }

  pub spelled_out : k < 16 → (bits / 2 ^ k % 2 ≡ 1 → ⊥) → Spelled d e at to bits first (k + 1)
  spelled_out h t =
      record {
        acc = s.acc;
        put = s.put;
        rest = ap (◌++◌ s.acc) (sym (name_out bits k first h t)) ∙ s.rest;
      }

  pub spelled_all : 16 ≤ k → Put d e at (spaced (chosen (members bits) attribute_names)) to
  unfolding chosen
  spelled_all h = let none_left : length (members bits) ≤ k = omega (arith, length_members bits) in rw (← s.rest, drop_of_length-le (members bits) none_left, tail_none first, append-nil) s.put

pub root_length : length root_line ≡ 27
unfolding open_bytes root_line
root_length = refl

-- what the line writer does with its parts
module _ (bs : List Bool) (n : List ℕ) (k : ℕ) where
  pub line_unlawful : lawful_criteria k ≡ false → line_from bs n k ≡ refusal 12
  unfolding line_from
  line_unlawful g = rw g

  pub line_named : lawful_criteria k ≡ true → lawful_name n ≡ true → line_from bs n k ≡ answered (list_line bs n (criteria_of k))
  unfolding line_from
  line_named g h = rw (g, h)

  pub line_root : lawful_criteria k ≡ true → lawful_name n ≡ false → root_parts bs n (criteria_of k) ≡ true → line_from bs n k ≡ answered root_line
  unfolding line_from
  line_root g h p = rw (g, h, p)

  pub line_other : lawful_criteria k ≡ true → lawful_name n ≡ false → root_parts bs n (criteria_of k) ≡ false → line_from bs n k ≡ refusal 12
  unfolding line_from
  line_other g h p = rw (g, h, p)

-- a refusal has its number and changes no byte
pub gives_refusal : (d : List ℕ) (e : Refusal) → Gives (refusal (number_of e)) d d (Err e)
unfolding limited written_is buffer_after
gives_refusal d e = (refl, refl)
