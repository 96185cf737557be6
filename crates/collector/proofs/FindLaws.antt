-- The attributes that the collector tests, by their places, and that the root line is no find. Rests on OptionLaws and on the laws
-- of octets and list_line on a member of a set.
use Rattle.listing_rules.proofs.Prelude.{◌∙◌, ◌≡◌, refl, sym, [], ◌∷◌, or_assoc, or-false, false, ◌<◌, ◌^◌, ℕ, arith, get_or}
use Rattle.listing_rules.proofs.Keys.{open_bytes}
use Rattle.listing_rules.specs.Bytes.{bit}
use Rattle.listing_rules.specs.Lists.{any_of}
use Rattle.listing_rules.specs.Walk.{attr, use_attr, is_find, wants_remote, wants_special, drops_subscribed}
use Rattle.octets.specs.Sets.{contains, touches, set_with}
use Rattle.octets.proofs.Sets.{contains_bit, touches_bits}
use Rattle.list_line.specs.Members.{members}
use Rattle.list_line.proofs.Members.{get_or_members}
use Rattle.collector.specs.Options.{byte_of}
use Rattle.collector.specs.declared.options.WalkOptions.{WalkOptions}
use Rattle.collector.proofs.OptionLaws.{each}

pub has_attribute : (k a : ℕ) → k < 16 → contains a (2 ^ k) ≡ attr k (members a)
unfolding attr
has_attribute k a h = contains_bit k a ∙ sym (get_or_members k a h)

-- some of the seven uses, which have the places 7 to 13
pub some_use : (a : ℕ) → touches a 16256 ≡ use_attr (members a)
unfolding set_with any_of use_attr attr
some_use a =
    let is : (k : ℕ) → k < 16 → bit k a ≡ get_or (members a) k false = λ k h. sym (get_or_members k a h) in
    touches_bits a (7 ∷ 8 ∷ 9 ∷ 10 ∷ 11 ∷ 12 ∷ 13 ∷ [])
    ∙ rw (is 7 (omega arith), is 8 (omega arith), is 9 (omega arith), is 10 (omega arith), is 11 (omega arith), is 12 (omega arith), is 13 (omega arith))
    (simp (or_assoc, or-false))

-- the root line, which has \Noselect alone, is no find: without SUBSCRIBED a use is asked
pub root_finds_none : (w : WalkOptions) → is_find (byte_of w) (members 4) ≡ false
unfolding byte_of is_find attr use_attr members wants_remote wants_special drops_subscribed open_bytes
root_finds_none = each (λ w. is_find (byte_of w) (members 4) ≡ false) refl refl refl refl refl refl
