-- `is_extended`: a selection list, or else the two other signs. Rests on Grammar.
use Rattle.listing_rules.proofs.Prelude.{◌∙◌, ap, ◌||◌, ℕ, eqb, ltb, length}
use Rattle.command_tokens.proofs.Binds.{behind_nothing}
use Rattle.command_line.proofs.Grammar.{extended_list, extended_else}
use Rattle.command_line.proofs.list_command.is_extended.Goals as goal

pub returns-in-Some : goal.returns-in-Some
returns-in-Some c =
    extended_list _ c.args.text.now _ _ c.opening.ensures.result_value c.in-Some.is

pub returns : goal.returns
returns c =
    let line = c.args.text.now in
    ap (λ (x : ℕ). eqb x 40 || ltb c.args.rest.at (length line)) c.byte_at.ensures
    ∙ extended_else line c.args.first.at _ _ (behind_nothing _ c.opening.ensures.result_value c.in_default.is)
