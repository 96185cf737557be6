-- `summary::count_below` meets its contract: what the rows after row i add up to below its name is all that lies below it. By CountLaws.
use Rattle.listing_rules.proofs.Prelude.{◌∙◌}
use Rattle.summary.proofs.CountLaws.{sum_whole}
use Rattle.summary.proofs.count_below.Goals as goal

pub returns : goal.returns
returns c =
    c.count_after.ensures ∙ rw c.of_word-row.ensures (sum_whole c.args.rows.indexed c.args.i c.requires)
