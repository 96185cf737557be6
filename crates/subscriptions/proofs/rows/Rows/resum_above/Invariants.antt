-- What holds at each turn of a loop of `resum_above`, and what falls.
use Rattle.listing_rules.proofs.Prelude.{◌≡◌}
use Rattle.subscriptions.specs.Resums.{Resums}
use Rattle.subscriptions.proofs.ResumLaws.{resummed_to}
use Rattle.subscriptions.proofs.rows.Rows.resum_above.Given as goal

abbrev pub invariant-loop-i : goal.invariant-loop-i
invariant-loop-i l = (l.sums ≡ resummed_to l.gone l.come l.name l.self.area.now l.self.words.now l.initial.sums l.i) × Resums l.self.area.now l.self.words.now l.name l.gone l.come l.initial.sums
