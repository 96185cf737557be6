-- `read_selection`: a list of options, or none. Rests on Returning.
use Rattle.listing_rules.proofs.Prelude.{◌∙◌, ap, sym}
use Rattle.command_tokens.proofs.Binds.{behind_at, behind_nothing}
use Rattle.listing_rules.specs.Tokens.{got, ◌>>=◌}
use Rattle.command_line.specs.declared.option_list.Place.TheVariants.{Selection}
use Rattle.command_line.specs.OptionSets.{marked, summed, marks_of, listed_is}
use Rattle.command_line.proofs.Returning.{selection_list, selection_none}
use Rattle.command_line.proofs.option_list.read_selection.Goals as goal

pub returns-in_default : goal.returns-in_default
unfolding listed_is marks_of summed marked ◌>>=◌ got
returns-in_default c =
    rw c.none.ensures (sym (ap (marks_of Selection) (selection_none _ (behind_nothing _ c.opening.ensures.result_value c.in_default.is))))

pub returns : goal.returns
returns c =
    c.read_options.ensures ∙ sym (ap (marks_of Selection) (selection_list _ _ (behind_at _ c.opening.ensures.result_value c.in-Some.is)))
