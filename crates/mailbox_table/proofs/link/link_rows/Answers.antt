-- `mailbox_table::link::link_rows` meets its contract. The invariant is the record `Linking`: words passed are linked and tell the same
-- records, and the words that are left decide. By LinkLaws.
use Rattle.std.specs.Prelude.{Some}
use Rattle.listing_rules.proofs.Prelude.{◌∙◌, ◌≡◌, sym, arith, rules, get_or, length-set}
use Rattle.mailbox_table.specs.Link.{name_in, step_of}
use Rattle.mailbox_table.proofs.LinkLaws.{linking_none, linking_bad, linking_more, links_fails, links_rows, step_packs}
use Rattle.mailbox_table.proofs.link.link_rows.Goals as goal

pub loop-word-init : goal.loop-word-init
loop-word-init c = linking_none _ _ _ c.of_word-previous.ensures

pub returns-in_default : goal.returns-in_default
returns-in_default c =
    links_fails (linking_bad c.loop-word.invariant (omega (arith, c.loop-word.invariant.size, c.loop-word-test.true))
    (sym c.next_row.ensures ∙ c.in_default.is)) (length-set c.loop-word.words _ _ ∙ c.loop-word.invariant.size)

pub relinked-requires : goal.relinked-requires
relinked-requires c =
    let stepped : let area = c.args.area.now in
    step_of area (name_in area c.loop-word.previous) (get_or c.loop-word.words c.loop-word.word-index 0) ≡ Some c.in-Some.row = sym c.next_row.ensures ∙ c.in-Some.is in
    step_packs c.args.area.now _ _ _ stepped

pub loop-word-preserved : goal.loop-word-preserved
loop-word-preserved c =
    let stepped : let area = c.args.area.now in
    step_of area (name_in area c.loop-word.previous) (get_or c.loop-word.words c.loop-word.word-index 0) ≡ Some c.in-Some.row = sym c.next_row.ensures ∙ c.in-Some.is in
    rw c.relinked.ensures (linking_more c.loop-word.invariant (omega (arith, c.loop-word.invariant.size, c.loop-word-test.true)) _ stepped
    (search rules))

pub returns : goal.returns
returns c = links_rows c.loop-word.invariant (omega (arith, c.loop-word-test.false, c.loop-word.invariant.size))
