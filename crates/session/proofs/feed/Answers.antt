-- `session::feed` meets its contract: not ready, a piece without a line feed, a piece with one. Rests on FeedLaws.
use Rattle.listing_rules.proofs.Prelude.{◌∙◌, ◌≡◌, refl, sym, true}
use Rattle.kept_table.specs.Kept.{Lent, lent}
use Rattle.session.specs.Feeding.{ready_in}
use Rattle.session.proofs.FeedLaws.{within, feeds_part, feeds_line, feed_taken}
use Rattle.session.proofs.feed.Goals as goal

pub returns-then-not-sized : goal.returns-then-not-sized
returns-then-not-sized c = (sym c.is_ready-sized.ensures ∙ c.if-not-sized.true, refl, refl)

pub returns-then-chunk-used : goal.returns-then-chunk-used
returns-then-chunk-used c =
    let memory : Lent = lent c.args.table.now c.args.records.now c.args.namespaces.now c.args.out.now in
    let is-so : ready_in memory
    c.args.line.now c.args.state ≡ true = sym c.is_ready-sized.ensures ∙ c.if-not-sized.false in
    let so = is-so in
    feed_taken _ c.answer_taken.ensures so
    (feeds_part _ memory _ _ _ _ so c.gather_line-run.ensures.gathered c.gather_line-run.ensures.line _ c.gather_line-run.ensures.used c.if-chunk-used.true)

pub end_frame-done-requires : goal.end_frame-done-requires
end_frame-done-requires c =
    let memory : Lent = lent c.args.table.now c.args.records.now c.args.namespaces.now c.args.out.now in
    let is-so : ready_in memory
    c.args.line.now c.args.state ≡ true = sym c.is_ready-sized.ensures ∙ c.if-not-sized.false in
    within memory c.args.line.now c.args.state is-so

pub returns : goal.returns
returns c =
    let memory : Lent = lent c.args.table.now c.args.records.now c.args.namespaces.now c.args.out.now in
    let is-so : ready_in memory
    c.args.line.now c.args.state ≡ true = sym c.is_ready-sized.ensures ∙ c.if-not-sized.false in
    let so = is-so in
    feed_taken _ c.answer_taken-2.ensures so
    (feeds_line _ memory _ _ _ _ so c.gather_line-run.ensures.gathered c.gather_line-run.ensures.line _ _ _ c.gather_line-run.ensures.used c.if-chunk-used.false c.end_frame-done.ensures)
