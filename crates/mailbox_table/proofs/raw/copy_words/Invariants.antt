-- What holds at each turn of the loop of `copy_words`.
use Rattle.listing_rules.proofs.Prelude.{◌≤◌}
use Rattle.mailbox_table.proofs.CopyLaws.{Copied}
use Rattle.mailbox_table.proofs.raw.copy_words.Given as goal

abbrev pub invariant-loop-i : goal.invariant-loop-i
invariant-loop-i l = (l.i ≤ l.count) × Copied l.raw l.initial.words l.words l.i
