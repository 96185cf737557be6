-- `mailbox_table::layout::lie_apart` meets its contract. The invariant is the record `Laying`: the names passed lie without overlap, and
-- the map has their bytes. By LayoutLaws.
use Rattle.listing_rules.proofs.Prelude.{subst, sym, Bool}
use Rattle.mailbox_table.specs.Index.{nth_row}
use Rattle.mailbox_table.specs.Layout.{Marked}
use Rattle.mailbox_table.proofs.LayoutLaws.{apart_none, laying_none, laying_hit, laying_more}
use Rattle.mailbox_table.proofs.layout.lie_apart.Goals as goal

pub returns-then-words-eq0 : goal.returns-then-words-eq0
returns-then-words-eq0 c = apart_none _ c.if-words-eq0.true

pub loop-i-init : goal.loop-i-init
loop-i-init c = laying_none _ _ c.filled-used.ensures

pub returns-then-not-mark_name : goal.returns-then-not-mark_name
returns-then-not-mark_name c =
    let marked : let words = c.args.words.now in
    Marked c.loop-i.used c.mark_name.new.used (nth_row words c.loop-i.i).start (nth_row words c.loop-i.i).len c.mark_name.result = rw c.of_word-row.ensures at c.mark_name.ensures in
    let row = nth_row c.args.words.now _ in
    let after = c.mark_name.new.used in
    sym
    (laying_hit c.loop-i.invariant c.requires c.loop-i-test.true after
    (subst (λ (r : Bool). Marked c.loop-i.used after row.start row.len r) c.if-not-mark_name.true marked))

pub loop-i-preserved : goal.loop-i-preserved
loop-i-preserved c =
    let marked : let words = c.args.words.now in
    Marked c.loop-i.used c.mark_name.new.used (nth_row words c.loop-i.i).start (nth_row words c.loop-i.i).len c.mark_name.result = rw c.of_word-row.ensures at c.mark_name.ensures in
    let row = nth_row c.args.words.now _ in
    let after = c.mark_name.new.used in
    laying_more c.loop-i.invariant c.requires c.loop-i-test.true after
    (subst (λ (r : Bool). Marked c.loop-i.used after row.start row.len r) c.if-not-mark_name.false marked)
