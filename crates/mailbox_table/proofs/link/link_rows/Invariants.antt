-- What holds at each turn of a loop of `link_rows`.
use Rattle.mailbox_table.proofs.LinkLaws.{Linking}
use Rattle.mailbox_table.proofs.link.link_rows.Given as goal

abbrev pub invariant-loop-word : goal.invariant-loop-word
invariant-loop-word l = Linking l.area l.initial.words l.words l.previous l.word-index
