-- `collect_words` meets its contract: refusals 16 and 1, and the walk over the index of the table that passes with its summary (`collect_index`). By
-- HeldLaws; the index by HeldLaws of mailbox_table; demand 3 by WholeLaws.
use Rattle.listing_rules.proofs.Prelude.{◌∙◌, ◌≡◌, ap, arith, length, take, le-leb}
use Rattle.listing_rules.specs.Table.{passes}
use Rattle.listing_rules.specs.Readers.{is_reader}
use Rattle.listing_rules.proofs.SummaryAlike.{summed_seen_passes}
use Rattle.records.specs.Lent.{words_summed, words_table, words_seen}
use Rattle.mailbox_table.proofs.HeldLaws.{Held, index_held, index_refused}
use Rattle.collector.specs.Held.{held_seen}
use Rattle.collector.proofs.HeldLaws.{summed_held}
use Rattle.collector.proofs.WholeLaws.{promised, promised_same, collects_refused, refuses_reader, refuses_table}
use Rattle.collector.proofs.collect_words.Goals as goal

pub returns-then-reader-gt-MAX_READER : goal.returns-then-reader-gt-MAX_READER
returns-then-reader-gt-MAX_READER c =
    let a = c.args in
    let t = words_seen a.reader a.words.now a.count a.area.now a.sums.now in
    promised a.reader (words_table a.words.now a.count a.area.now a.sums.now) t a.option a.scratch.now a.found.now
    a.pending.now (summed_seen_passes a.reader (words_summed a.words.now a.count a.area.now a.sums.now)) c.refuse.result c.refuse.new.scratch c.refuse.new.found c.refuse.new.pending
    (collects_refused a.reader t a.option a.scratch.now a.found.now a.pending.now c.refuse.ensures.1 c.refuse.ensures.0
    (refuses_reader a.reader t a.option a.scratch.now a.found.now a.pending.now (omega (arith, c.if-reader-gt-MAX_READER.true)))
    c.refuse.ensures.2 c.refuse.ensures.3)

pub returns-in_default : goal.returns-in_default
returns-in_default c =
    let a = c.args in
    let t = words_seen a.reader a.words.now a.count a.area.now a.sums.now in
    let alike = summed_seen_passes a.reader (words_summed a.words.now a.count a.area.now a.sums.now) in
    let fails = index_refused c.index_summed.ensures (ap length c.no_words-rows.ensures) c.in_default.is in
    promised a.reader (words_table a.words.now a.count a.area.now a.sums.now) t a.option a.scratch.now a.found.now
    a.pending.now alike c.refuse-in_default.result c.refuse-in_default.new.scratch c.refuse-in_default.new.found c.refuse-in_default.new.pending
    (collects_refused a.reader t a.option a.scratch.now a.found.now a.pending.now c.refuse-in_default.ensures.1 c.refuse-in_default.ensures.0
    (refuses_table a.reader t a.option a.scratch.now a.found.now a.pending.now (omega (arith, c.if-reader-gt-MAX_READER.false)) (alike ∙ fails))
    c.refuse-in_default.ensures.2 c.refuse-in_default.ensures.3)

pub slice_bounds-rows-end : goal.slice_bounds-rows-end
slice_bounds-rows-end c =
    let known : Held c.index_summed.ensures c.in-Some.n = index_held c.index_summed.ensures c.in-Some.n c.in-Some.is in
    known.inside

pub slice_bounds-seen-end : goal.slice_bounds-seen-end
slice_bounds-seen-end c =
    let known : Held c.index_summed.ensures c.in-Some.n = index_held c.index_summed.ensures c.in-Some.n c.in-Some.is in
    known.size

pub invariant_of-seen : goal.invariant_of-seen
unfolding is_reader
invariant_of-seen c =
    let known : Held c.index_summed.ensures c.in-Some.n = index_held c.index_summed.ensures c.in-Some.n c.in-Some.is in
    let seen : let a = c.args in
    held_seen a.reader a.area.now (take c.in-Some.n c.index_summed.new.words)
    ≡ words_seen a.reader a.words.now a.count a.area.now a.sums.now = let a = c.args in
    summed_held a.reader a.words.now a.count a.area.now a.sums.now
    (take c.in-Some.n c.index_summed.new.words) known.table_passes known.told in
    let a = c.args in
    let alike = summed_seen_passes a.reader (words_summed a.words.now a.count a.area.now a.sums.now) in
    record { known = le-leb a.reader 7 c.if-reader-gt-MAX_READER.false; table_passes = ap passes seen ∙ alike ∙ known.table_passes }

pub returns : goal.returns
returns c =
    let known : Held c.index_summed.ensures c.in-Some.n = index_held c.index_summed.ensures c.in-Some.n c.in-Some.is in
    let seen : let a = c.args in
    held_seen a.reader a.area.now (take c.in-Some.n c.index_summed.new.words)
    ≡ words_seen a.reader a.words.now a.count a.area.now a.sums.now = let a = c.args in
    summed_held a.reader a.words.now a.count a.area.now a.sums.now
    (take c.in-Some.n c.index_summed.new.words) known.table_passes known.told in
    let a = c.args in
    promised_same a.reader (words_table a.words.now a.count a.area.now a.sums.now)
    (words_seen a.reader a.words.now a.count a.area.now a.sums.now) a.option a.scratch.now a.found.now a.pending.now
    (summed_seen_passes a.reader (words_summed a.words.now a.count a.area.now a.sums.now)) c.collect_index.result c.collect_index.new.scratch
    c.collect_index.new.found c.collect_index.new.pending seen c.collect_index.ensures
