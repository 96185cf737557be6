-- `mailbox_table::link::rows_pass` meets its contract: the pass over the words, then the one over rows with no inferiors. By PassLaws.
use Rattle.listing_rules.proofs.Prelude.{subst, Bool, true, []}
use Rattle.mailbox_table.specs.Link.{linked, Links}
use Rattle.mailbox_table.proofs.PassLaws.{passes_bad, passes_linked}
use Rattle.mailbox_table.proofs.link.rows_pass.Goals as goal

pub returns-then-not-link_rows : goal.returns-then-not-link_rows
returns-then-not-link_rows c =
    let area = c.args.area.now in
    let before = c.args.words.now in
    passes_bad c.requires (subst (λ (r : Bool). Links area before c.link_rows.new.words (linked area [] before) r) c.if-not-link_rows.true c.link_rows.ensures)

pub returns : goal.returns
returns c =
    let done : let area = c.args.area.now in
    let before = c.args.words.now in
    Links area before c.link_rows.new.words (linked area [] before) true = let area = c.args.area.now in
    let before = c.args.words.now in
    subst (λ (r : Bool). Links area before c.link_rows.new.words (linked area [] before) r) c.if-not-link_rows.false c.link_rows.ensures in
    passes_linked c.requires done _ c.inferiors_pass.ensures
