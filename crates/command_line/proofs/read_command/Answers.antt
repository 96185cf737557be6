-- `read_command`: check 3, and then the text before CR LF. Rests on Lines.
use Rattle.listing_rules.proofs.Prelude.{◌∙◌, ◌≡◌, sym, true, ◌-◌, arith, length}
use Rattle.listing_rules.specs.Feeder.{first, one_command}
use Rattle.octets.specs.declared.refusals.Refusal.TheVariants.{LineShape}
use Rattle.command_line.specs.Commands.{Answers}
use Rattle.command_shape.proofs.Shapes.{one_long}
use Rattle.command_line.proofs.Judging.{refuses}
use Rattle.command_line.proofs.Lines.{line_off, line_read, meaning_line, inside_line}
use Rattle.command_line.proofs.read_command.Goals as goal

pub returns-then-not-is_one_command : goal.returns-then-not-is_one_command
returns-then-not-is_one_command c =
    let off : Answers _ _ Unit _ = refuses c.args.line.now LineShape (line_off _ (sym c.is_one_command.ensures ∙ c.if-not-is_one_command.true)) in
    record { result_value = off.means; inside = off.inside tt }

pub overflow_sub-n : goal.overflow_sub-n
overflow_sub-n c =
    let one : one_command first c.args.line.now ≡ true = sym c.is_one_command.ensures ∙ c.if-not-is_one_command.false in
    omega (arith, one_long _ one)

pub returns : goal.returns
returns c =
    let one : one_command first c.args.line.now ≡ true = sym c.is_one_command.ensures ∙ c.if-not-is_one_command.false in
    let line = c.args.line.now in
    let n = length line - 2 in
    record { result_value = sym (meaning_line line n _ (c.read_text.ensures.inside tt)) ∙ c.read_text.ensures.means ∙ sym (line_read line one); inside = inside_line line n _ (c.read_text.ensures.inside tt) }
