-- `mailbox_table::packed::row_at` meets its contract: each way out is a law of a step in PackedLaws.
use Rattle.std.specs.Prelude.{Some}
use Rattle.listing_rules.proofs.Prelude.{◌∙◌, ◌≡◌, ◌+◌, ap, sym, arith}
use Rattle.mailbox_table.proofs.PackedLaws.{rest_length, rest_at, behind_length, step_stub, step_short, step_whole, row_there_lem}
use Rattle.mailbox_table.proofs.packed.row_at.Goals as goal

pub returns-in_default : goal.returns-in_default
returns-in_default c =
    let t = c.args.table.now in
    sym (step_stub t _ (omega (arith, c.in_default.len_below, rest_length t c.args.at)))

pub returns-then-behind-len : goal.returns-then-behind-len
returns-then-behind-len c =
    let t = c.args.table.now in
    let at = c.args.at in
    sym (step_short t at (omega (arith, c.if-behind-len.true, behind_length t at, c.wide-len.ensures, rest_at t at 3)))

pub returns : goal.returns
returns c =
    let t = c.args.table.now in
    let at = c.args.at in
    let len = c.wide-len.ensures ∙ rest_at t at 3 in
    let first : at + 0 ≡ at = omega arith in
    let high = rw first at (rest_at t at 0) in
    ap Some (row_there_lem t at (omega (arith, c.from_be_bytes.ensures, high, rest_at t at 1)) len)
    ∙ sym (step_whole t at (omega (arith, c.in-len4-up.len_at_least, rest_length t at))
    (omega (arith, c.if-behind-len.false, behind_length t at, len)))
