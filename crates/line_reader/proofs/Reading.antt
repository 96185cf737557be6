-- The parts of a line in order: where one is missing the line is refused.
use Rattle.std.specs.Prelude.{Option as Maybe, Some, None, Ok, ok_or}
use Rattle.listing_rules.proofs.Prelude.{◌∙◌, ◌≡◌, ap, refl, subst, sym, Bool, ◌&&◌, cond, false, true, Option, none, some, List, [], ◌++◌, ◌∷◌}
use Rattle.listing_rules.proofs.Prelude.{◌-◌, ◌<◌, ◌≤◌, ℕ, arith, leb, drop, length, length-replicate, replicate, take, sets}
use Rattle.listing_rules.proofs.Prelude.{take_at, lt-leb}
use Rattle.listing_rules.specs.Bytes.{text, same, within, all}
use Rattle.listing_rules.specs.Names.{lawful_name, name_byte, levels, is_full, inbox_spelled}
use Rattle.listing_rules.specs.Lists.{every}
use Rattle.listing_rules.specs.Tokens.{Got, got, after, unquoted, ◌>>=◌}
use Rattle.listing_rules.specs.Options.{Criteria, criteria_of, criteria_number}
use Rattle.listing_rules.specs.Lines.{attribute_names, root_line}
use Rattle.listing_rules.specs.LineReader.{Read, line, read_chosen, child_info_read, read_parts, or_bad, read_line, name_bytes, name_read}
use Rattle.listing_rules.proofs.Keys.{open_bytes, open_options, open_lines, open_reader}
use Rattle.octets.specs.declared.refusals.Refusal.TheVariants.{NotSuchLine}
use Rattle.octets.specs.Refusals.{numbered}
use Rattle.octets.proofs.Clearing.{drop_zeros}
use Rattle.octets.proofs.Puts.{front}
use Rattle.list_line.specs.Members.{set_of}
use Rattle.list_line.specs.declared.criteria.Criteria.{Criteria as CriteriaBits}
use Rattle.line_reader.specs.Lines.{parts_of, line_is}
use Rattle.line_reader.proofs.Skipping.{rest_from}
use Rattle.line_reader.specs.Parts.{Chooses, Names, tail_is}
use Rattle.line_reader.specs.declared.Chosen.{Chosen}
use Rattle.listing_rules.proofs.RoundTrip.{criteria_number_lem}

-- what stands behind the name, as the code compares it
module _ (t : List ℕ) where
  pub tail_plain : same t (13 ∷ 10 ∷ []) ≡ true → Some (record { bits = 0 }) ≡ tail_is (child_info_read t)
  unfolding open_bytes open_options open_lines open_reader tail_is criteria_number
  tail_plain e = rw e

  module _ (e : same t (13 ∷ 10 ∷ []) ≡ false) where
    pub tail_subscribed : same t (text " (\"CHILDINFO\" (\"SUBSCRIBED\"))\r\n") ≡ true → Some (record { bits = 1 }) ≡ tail_is (child_info_read t)
    unfolding open_bytes open_options open_lines open_reader tail_is criteria_number
    tail_subscribed f = rw (e, f)

    module _ (f : same t (text " (\"CHILDINFO\" (\"SUBSCRIBED\"))\r\n") ≡ false) where
      pub tail_special : same t (text " (\"CHILDINFO\" (\"SPECIAL-USE\"))\r\n") ≡ true → Some (record { bits = 2 }) ≡ tail_is (child_info_read t)
      unfolding open_bytes open_options open_lines open_reader tail_is criteria_number
      tail_special g = rw (e, f, g)

      module _ (g : same t (text " (\"CHILDINFO\" (\"SPECIAL-USE\"))\r\n") ≡ false) where
        pub tail_both : same t (text " (\"CHILDINFO\" (\"SUBSCRIBED\" \"SPECIAL-USE\"))\r\n") ≡ true → Some (record { bits = 3 }) ≡ tail_is (child_info_read t)
        unfolding open_bytes open_options open_lines open_reader tail_is criteria_number
        tail_both h = rw (e, f, g, h)

        pub tail_other : same t (text " (\"CHILDINFO\" (\"SUBSCRIBED\" \"SPECIAL-USE\"))\r\n") ≡ false → None ≡ tail_is (child_info_read t)
        unfolding open_bytes open_options open_lines open_reader tail_is criteria_number
        tail_other h = rw (e, f, g, h)

tail_none : (o : Option Criteria) → tail_is o ≡ None → o ≡ none
unfolding tail_is
tail_none none e = refl
tail_none (some c) e = cc

-- the criteria read are those of the code's set, which has no other bit
module _ (s : CriteriaBits) where
  tail_some : (o : Option Criteria) → tail_is o ≡ Some s → o ≡ some (criteria_of s.bits)
  unfolding tail_is
  tail_some none e = cc
  tail_some (some c) e = let w : record { bits = criteria_number c } ≡ s = cc in ap some (sym (criteria_number_lem c) ∙ ap (λ (x : CriteriaBits). criteria_of x.bits) w)

  pub tail_whole : (o : Option Criteria) → tail_is o ≡ Some s → criteria_number (criteria_of s.bits) ≡ s.bits
  unfolding tail_is
  tail_whole none e = cc
  tail_whole (some c) e =
      let w : record { bits = criteria_number c } ≡ s = cc in
      subst (λ (x : CriteriaBits). criteria_number (criteria_of x.bits) ≡ x.bits) w (ap criteria_number (criteria_number_lem c))

-- a name over 200 bytes is not lawful
long_unlawful : (n : List ℕ) → 200 < length n → lawful_name n ≡ false
unfolding lawful_name within
long_unlawful n h = rw (lt-leb (length n) 200 h) (all_false (leb 1 (length n)))
  where
    all_false : (o : Bool) → (o && false && all name_byte n && leb (length (levels n)) 16 && every is_full (levels n) && inbox_spelled (levels n)) ≡ false
    all_false true = refl
    all_false false = refl

-- a name at the front of 200 zeros, and its first bytes
module _ (d s : List ℕ) (z : d ≡ replicate 200 0) (h : length s ≤ 200) where
  named : sets d 0 s ≡ s ++ replicate (200 - length s) 0
  named = rw z (front (replicate 200 0) s (simp length-replicate h) ∙ ap (◌++◌ s) (drop_zeros 200 (length s)))

  pub name_front : (n : ℕ) (e : List ℕ) → n ≡ length s → e ≡ sets d 0 s → take n e ≡ s
  name_front n e m w = ap (take n) (w ∙ named) ∙ take_at s (replicate (200 - length s) 0) n (sym m)

-- what the reader makes of the rest of a line, from the attributes, the delimiter, the name and the end on
unfoldable pub from_end : List Bool → List ℕ → List ℕ → Option Read
from_end bs n t = child_info_read t >>= λ c. cond (lawful_name n) (some (line bs n c)) none

unfoldable pub from_name : List Bool → List ℕ → Option Read
from_name bs t = unquoted false t >>= λ n. from_end bs n.val n.rest

unfoldable pub from_delimiter : List Bool → List ℕ → Option Read
from_delimiter bs t = after (text ") \"/\" \"") t >>= λ u. from_name bs u

unfoldable pub from_attributes : List ℕ → Option Read
from_attributes t = let a = read_chosen true attribute_names t in from_delimiter a.val a.rest

parts_are : (l : List ℕ) → read_parts l ≡ (after (text "* LIST (") l >>= λ t. from_attributes t)
unfolding read_parts from_attributes from_delimiter from_name from_end
parts_are l = refl

pub start_read : (l t : List ℕ) → after (text "* LIST (") l ≡ some t → read_parts l ≡ from_attributes t
unfolding ◌>>=◌
start_read l t e = parts_are l ∙ rw e

pub start_missing : (l : List ℕ) → after (text "* LIST (") l ≡ none → read_parts l ≡ none
unfolding ◌>>=◌
start_missing l e = parts_are l ∙ rw e

-- the attributes from a place on
unfoldable pub chosen_at : List ℕ → ℕ → List Bool
chosen_at l a = (read_chosen true attribute_names (drop a l)).val

pub attributes_read_lem : (l : List ℕ) (a : ℕ) (r : Chosen) → Chooses l a r → from_attributes (drop a l) ≡ from_delimiter (chosen_at l a) (drop r.at l)
unfolding from_attributes chosen_at
attributes_read_lem l a r e = rw e.rest

module _ (bs : List Bool) where
  pub delimiter_read : (t u : List ℕ) → after (text ") \"/\" \"") t ≡ some u → from_delimiter bs t ≡ from_name bs u
  unfolding from_delimiter ◌>>=◌
  delimiter_read t u e = rw e

  pub delimiter_missing : (t : List ℕ) → after (text ") \"/\" \"") t ≡ none → from_delimiter bs t ≡ none
  unfolding from_delimiter ◌>>=◌
  delimiter_missing t e = rw e

  pub name_read_lem : (t n u : List ℕ) → unquoted false t ≡ some (got n u) → from_name bs t ≡ from_end bs n u
  unfolding from_name ◌>>=◌ got
  name_read_lem t n u e = rw e

  end_unlawful : (n t : List ℕ) → lawful_name n ≡ false → from_end bs n t ≡ none
  unfolding from_end ◌>>=◌
  end_unlawful n t e = go (child_info_read t)
    where
      go : (o : Option Criteria) → (o >>= λ c. cond (lawful_name n) (some (line bs n c)) none) ≡ none
      go none = refl
      go (some c) = rw e

  -- no name, or one over 200 bytes
  pub name_missing : (l : List ℕ) (b : ℕ) (d e : List ℕ) → d ≡ replicate 200 0 → Names l b d e None → from_name bs (drop b l) ≡ none
  unfolding from_name ◌>>=◌
  name_missing l b d e z n = go (unquoted false (drop b l)) n
    where
      go : (o : Option (Got (List ℕ))) → ((g : Got (List ℕ)) → o ≡ some g → length d < length g.val) → (o >>= λ g. from_end bs g.val g.rest) ≡ none
      go none m = refl
      go (some g) m = end_unlawful g.val g.rest (long_unlawful g.val (omega (arith, m g refl, ap length z, length-replicate {A = ℕ} 200 0)))

  module _ (n l : List ℕ) (j : ℕ) where
    pub end_read : (s : CriteriaBits) → tail_is (child_info_read (take (length l - j) (drop j l))) ≡ Some s →
        from_end bs n (drop j l) ≡ cond (lawful_name n) (some (line bs n (criteria_of s.bits))) none
    unfolding from_end ◌>>=◌
    end_read s e = rw (tail_some s (child_info_read (drop j l)) (rw (rest_from l j) at e))

    pub end_missing : tail_is (child_info_read (take (length l - j) (drop j l))) ≡ None → from_end bs n (drop j l) ≡ none
    unfolding from_end ◌>>=◌
    end_missing e = rw (tail_none (child_info_read (drop j l)) (rw (rest_from l j) at e))

-- the answer to a line that is refused, and to one that is taken
module _ (l : List ℕ) where
  pub parts_refused : read_parts l ≡ none → parts_of (or_bad (read_parts l)) ≡ None
  unfolding or_bad parts_of
  parts_refused e = rw e

  pub parts_taken : (bs : List Bool) (s : List ℕ) (c : CriteriaBits) (bits n : ℕ) (d e : List ℕ) →
      read_parts l ≡ some (line bs s (criteria_of c.bits)) → criteria_number (criteria_of c.bits) ≡ c.bits → bits ≡ set_of bs → n ≡ length s →
      n ≤ 200 → d ≡ replicate 200 0 → e ≡ sets d 0 s →
      Some (record { attributes = record { bits = bits }; name = e; len = n; criteria = c }) ≡ parts_of (or_bad (read_parts l))
  unfolding or_bad parts_of name_bytes name_read
  parts_taken bs s c bits n d e p k b m h z w =
      let bytes : e ≡ s ++ replicate (200 - length s) 0 = w ∙ named d s z (omega arith) in
      rw p (λ i. Some (record { attributes = record { bits = b i }; name = bytes i; len = m i; criteria = record { bits = sym k i } }))

-- a refusal's number is 12
pub numbered_ok_or : {A : Type 0} (o : Maybe A) → numbered (ok_or o NotSuchLine) ≡ ok_or {E = ℕ} o 12
numbered_ok_or None = refl
numbered_ok_or (Some a) = refl

-- the root line, and any other
module _ (l : List ℕ) where
  pub read_root : same l root_line ≡ true → Ok (record { attributes = record { bits = 4 }; name = replicate 200 0; len = 0; criteria = record { bits = 0 } }) ≡ line_is (read_line l)
  unfolding read_line line_is parts_of name_bytes name_read
  read_root e = rw e

  pub read_other : same l root_line ≡ false → read_line l ≡ or_bad (read_parts l)
  unfolding read_line
  read_other e = rw e
