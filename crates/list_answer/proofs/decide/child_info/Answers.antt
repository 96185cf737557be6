-- `list_answer::decide::child_info` meets its contract: the criteria named are the two selected.
use Rattle.listing_rules.proofs.Prelude.{◌∙◌, ◌≡◌}
use Rattle.listing_rules.specs.Bytes.{bit}
use Rattle.listing_rules.specs.Options.{criteria, no_criteria, criteria_number}
use Rattle.octets.proofs.Sets.{contains_bit}
use Rattle.command_line.specs.OptionSets.{options_is}
use Rattle.list_line.specs.CriteriaSets.{these}
use Rattle.list_answer.proofs.decide.child_info.Goals as goal

pub returns-then-info : goal.returns-then-info
unfolding criteria options_is
returns-then-info c =
    let o = c.args.options.bits in
    let h1 : c.has.result ≡ bit 0 o = c.has.ensures ∙ contains_bit 0 o in
    let h2 : c.has-then-info.result ≡ bit 3 o = c.has-then-info.ensures ∙ contains_bit 3 o in
    rw c.if-info.true (c.of.ensures ∙ (λ i. criteria_number (these (h1 i) (h2 i))))

pub returns : goal.returns
unfolding criteria_number no_criteria
returns c = rw c.if-info.false
