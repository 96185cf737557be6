-- `list_answer::attributes::attributes_of` meets its contract: the groups make the set of the sixteen, by Sets.
use Rattle.listing_rules.proofs.Prelude.{◌∙◌, ◌≡◌, ap, Bool, ◌&&◌, ◌||◌, not}
use Rattle.listing_rules.specs.Listing.{attributes_for, in_order}
use Rattle.listing_rules.specs.Flags.{no_inferiors}
use Rattle.octets.proofs.Sets.{contains_bit}
use Rattle.command_line.specs.OptionSets.{options_is}
use Rattle.list_answer.specs.Sets.{adds}
use Rattle.list_answer.specs.Attributes.{own_attributes, use_attributes}
use Rattle.list_answer.proofs.Sets.{more, sixteen_adds}
use Rattle.list_answer.proofs.attributes.attributes_of.Goals as goal

pub returns : goal.returns
unfolding adds own_attributes use_attributes attributes_for in_order no_inferiors
returns c =
    let f = c.args.flags.bits in
    let o = options_is _ in
    let h = c.args.children in
    let s = o.sel_subscribed || o.ret_subscribed in
    let u = o.sel_special || o.ret_special in
    let first : c.own_attributes-own.result.bits ≡ adds 0 1 (own_attributes f s) = c.own_attributes-own.ensures ∙ ap (λ (b : Bool). adds 0 1 (own_attributes f b)) c.shows_subscribed.ensures in
    let both : c.with_uses-set.result.bits ≡ adds (adds 0 1 (own_attributes f s)) 128 (use_attributes f u) = c.with_uses-set.ensures ∙ (λ i. adds (first i) 128 (use_attributes f (c.shows_uses.ensures i))) in
    let parent = more 16384 both (ap (λ (b : Bool). (b && h) || c.args.level) c.shows_children-asked.ensures) c.with-parent.ensures in
    let bare : _ ≡ ((o.ret_children && not h) && not (no_inferiors f))
    = λ i. (c.shows_children-asked.ensures i && not h) && not ((c.has.ensures ∙ contains_bit 4 f) i) in
    more 32768 parent bare c.with.ensures ∙ sixteen_adds f s u _ _
