-- `list_answer::attributes::own_attributes` meets its contract: a member more with each line.
use Rattle.listing_rules.proofs.Prelude.{◌∙◌, ◌≡◌, ap, refl, Bool, ◌&&◌, not, ℕ}
use Rattle.listing_rules.specs.Flags.{exists, subscribed, remote, no_select, no_inferiors, marked, unmarked}
use Rattle.listing_rules.specs.Listing.{in_order}
use Rattle.octets.proofs.Sets.{contains_bit}
use Rattle.list_answer.specs.Sets.{adds}
use Rattle.list_answer.specs.Attributes.{own_attributes}
use Rattle.list_answer.proofs.Sets.{more}
use Rattle.list_answer.proofs.attributes.own_attributes.Goals as goal

pub returns : goal.returns
unfolding adds own_attributes in_order marked unmarked no_select no_inferiors remote subscribed exists
returns c =
    let f = c.args.flags.bits in
    let none : ◌≡◌ {A = ℕ} 0 0 = refl in
    let s1 = more 1 none (contains_bit 5 f) c.with_flag-set.ensures in
    let s2 = more 2 s1 (contains_bit 6 f) c.with_flag-set-2.ensures in
    let s3 = more 4 s2 (contains_bit 3 f) c.with_flag-set-3.ensures in
    let s4 = more 8 s3 (contains_bit 4 f) c.with_flag-set-4.ensures in
    let s5 = more 16 s4 (contains_bit 2 f) c.with_flag-set-5.ensures in
    let s6 = more 32 s5 (ap (λ (b : Bool). b && c.args.subscribed) (c.has.ensures ∙ contains_bit 1 f)) c.with-set.ensures in
    more 64 s6 (ap not (c.has-2.ensures ∙ contains_bit 0 f)) c.with.ensures
