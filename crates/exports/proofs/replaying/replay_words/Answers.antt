-- `exports::replaying::replay_words` meets its contract: the promise of `replay::replay_words` over the words that are lent, in C's form. By ReplayLaws.
use Rattle.listing_rules.proofs.Prelude.{◌∙◌, []}
use Rattle.exports.proofs.WordLaws.{size}
use Rattle.exports.proofs.ReplayLaws.{report_is, log_area, log_summary, log_words, log_moved}
use Rattle.exports.proofs.replaying.replay_words.Goals as goal

pub slice_bounds-replay_words-end-2 : goal.slice_bounds-replay_words-end-2
slice_bounds-replay_words-end-2 c =
    let a = c.args in
    size a.words.now a.lent 0 0 [] [] [] [] [] _ c.least-n.ensures

pub returns : goal.returns
returns c =
    let n = c.least-n.ensures in
    let x = c.replay_words-replayed.ensures in record { result = c.from.ensures ∙ report_is _ _ _ _ _ _ _ n _ _ _ _ _ x; area = log_area _ _ _ _ _ _ _ n _ _ _ _ _ x; summary = log_summary _ _ _ _ _ _ _ n _ _ _ _ _ x; words = (log_words _ _ _ _ _ _ _ n _ _ _ _ _ x, log_moved _ _ _ _ _ _ _ n _ _ _ _ _ x _ c.least-to.ensures) }
