-- `kept_table::commands::put_reply` meets its contract: an answer, or a refusal. Rests on ObeyLaws.
use Rattle.listing_rules.proofs.Prelude.{ap}
use Rattle.octets.specs.Refusals.{numbered}
use Rattle.kept_table.proofs.ObeyLaws.{answer_size_lem, answer_says, refusal_says}
use Rattle.kept_table.proofs.commands.put_reply.Goals as goal

pub slice_bounds-put_line-end : goal.slice_bounds-put_line-end
slice_bounds-put_line-end c =
    answer_size_lem c.requires _ (ap numbered c.in-Ok.is)

pub returns-in-Ok : goal.returns-in-Ok
returns-in-Ok c =
    answer_says c.requires _ _ _ _ (ap numbered c.in-Ok.is) c.put_line.ensures

pub returns-in-Err : goal.returns-in-Err
returns-in-Err c =
    refusal_says c.requires _ _ _ _ (ap numbered c.in-Err.is) (rw c.number.ensures at c.put_refusal.ensures)
