-- `mailbox_table::readers::see_rows` meets its contract: the words at the front are those seen of the first i, `low` the least since. By SeenLaws.
use Rattle.listing_rules.proofs.Prelude.{◌∙◌, ◌≡◌, ap, sym, ◌<◌, min, arith, get_or, length}
use Rattle.octets.specs.Sets.{touches}
use Rattle.records.specs.Words.{record_of}
use Rattle.mailbox_table.specs.declared.rows.Row.{Row}
use Rattle.mailbox_table.proofs.SeenLaws.{seeing_none, seeing_hidden, seeing_seen, seeing_all}
use Rattle.mailbox_table.proofs.readers.see_rows.Goals as goal
use Rattle.mailbox_table.proofs.readers.see_rows.Goals.{then-has_some, else-has_some}

pub loop-i-init : goal.loop-i-init
loop-i-init c = seeing_none _ _

pub loop-i-preserved : goal.loop-i-preserved
loop-i-preserved c =
    let word = get_or c.loop-i.words c.loop-i.i 0 in
    let here : c.loop-i.i < length c.args.words.now = omega
    (arith, c.loop-i-test.true, c.loop-i.invariant.size) in
    let low-is : c.min-low.result ≡ min _ _ =
    c.min-low.ensures ∙ ap (λ (r : Row). min c.loop-i.low r.shared) c.of_word-row.ensures in
    let test : c.has_some.result ≡ touches (record_of word).readers _ =
    c.has_some.ensures ∙ (λ i. touches (c.readers_of-readers.ensures i) (c.one-own.ensures i)) in
    elim c.if-has_some.branch [
      | then-has_some w ↦ rw (w.words-is, w.seen-is, w.low-is, w.with_shared.ensures, low-is) (seeing_seen c.loop-i.invariant here (sym test ∙ w.if-has_some.true))
      | else-has_some w ↦ rw (w.words-is, w.seen-is, w.low-is, low-is) (seeing_hidden c.loop-i.invariant here (sym test ∙ w.if-has_some.false))
    ]

pub returns : goal.returns
returns c = seeing_all c.loop-i.invariant (omega (arith, c.loop-i-test.false, c.loop-i.invariant.size))
