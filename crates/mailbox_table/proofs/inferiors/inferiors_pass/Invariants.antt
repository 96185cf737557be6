-- What holds at each turn of a loop of `inferiors_pass`.
use Rattle.listing_rules.proofs.Prelude.{◌≡◌, drop}
use Rattle.listing_rules.specs.Lists.{every}
use Rattle.listing_rules.specs.Table.{none_below}
use Rattle.mailbox_table.specs.Index.{rows_at}
use Rattle.mailbox_table.proofs.inferiors.inferiors_pass.Given as goal

abbrev pub invariant-loop-i : goal.invariant-loop-i
invariant-loop-i l =
    every (λ q. none_below (rows_at l.rows.area.now l.rows.words.now) q) (drop l.i (rows_at l.rows.area.now l.rows.words.now)) ≡ every (λ q. none_below (rows_at l.rows.area.now l.rows.words.now) q) (rows_at l.rows.area.now l.rows.words.now)
