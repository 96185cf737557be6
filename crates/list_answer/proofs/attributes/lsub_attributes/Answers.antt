-- `list_answer::attributes::lsub_attributes` meets its contract: a set of one member or none (Sets).
use Rattle.listing_rules.proofs.Prelude.{◌∙◌, ap, Bool, not}
use Rattle.listing_rules.specs.Flags.{subscribed}
use Rattle.octets.proofs.Sets.{contains_bit}
use Rattle.list_answer.specs.Sets.{with_member}
use Rattle.list_answer.proofs.Sets.{noselect_alone}
use Rattle.list_answer.proofs.attributes.lsub_attributes.Goals as goal

pub returns : goal.returns
unfolding subscribed
returns c =
    c.with.ensures
    ∙ ap (λ (b : Bool). with_member 0 (not b) 4) (c.has.ensures ∙ contains_bit 1 _)
    ∙ noselect_alone _
