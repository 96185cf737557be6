-- `frames::logs::read_command` meets its contract: one law for each way out. By LogLaws.
use Rattle.std.specs.Prelude.{Some, None}
use Rattle.listing_rules.proofs.Prelude.{◌≡◌, ◌∙◌, ap, sym, arith}
use Rattle.frames.specs.Reading.{size_of}
use Rattle.frames.specs.declared.reading.Frame.{Frame}
use Rattle.frames.proofs.LogLaws.{log_short, log_no_command, command_read, command_other, command_none, command_unreadable}
use Rattle.frames.proofs.logs.read_command.Goals as goal

pub returns-then-line-lt2 : goal.returns-then-line-lt2
returns-then-line-lt2 c = command_unreadable _ _ (log_short _ c.if-line-lt2.true)

pub returns-then-pair_value-ne-COMMAND : goal.returns-then-pair_value-ne-COMMAND
returns-then-pair_value-ne-COMMAND c =
    command_none _ _ (log_no_command c.args.line.now c.if-line-lt2.false (λ e. c.if-pair_value-ne-COMMAND.true (c.pair_value.ensures ∙ e)))

pub returns-in_err-frame : goal.returns-in_err-frame
returns-in_err-frame c =
    let gone : c.from_residual.result ≡ None = grind arith in
    rw gone (command_read c.args.line.now c.if-line-lt2.false (sym c.pair_value.ensures ∙ c.if-pair_value-ne-COMMAND.false) _ _ _ _
    c.in_err-frame.was c.read_frame.ensures)

-- the command lies in the lent bytes
pub overflow_add-result : goal.overflow_add-result
unfolding size_of
overflow_add-result c =
    omega (arith, c.read_frame.ensures.inside, ap size_of (c.in_ok-frame.was ∙ ap (λ (f : Frame). Some f) c.in-Command.is))

pub returns-in-Command : goal.returns-in-Command
returns-in-Command c =
    command_read c.args.line.now c.if-line-lt2.false (sym c.pair_value.ensures ∙ c.if-pair_value-ne-COMMAND.false) _ _ _ _
    (c.in_ok-frame.was ∙ ap (λ (f : Frame). Some f) c.in-Command.is) c.read_frame.ensures

pub returns-in_default : goal.returns-in_default
returns-in_default c =
    command_other c.args.line.now c.if-line-lt2.false (sym c.pair_value.ensures ∙ c.if-pair_value-ne-COMMAND.false) _ _ _ _ c.in_ok-frame.was
    c.in_default.not-Command c.read_frame.ensures
