-- `exports::replaying::feed_words` meets its contract: the promise of `replay::replay_piece` over the words that are lent, in C's form. By ReplayLaws.
use Rattle.listing_rules.proofs.Prelude.{◌∙◌, []}
use Rattle.exports.proofs.WordLaws.{size}
use Rattle.exports.proofs.ReplayLaws.{fed_is, piece_area, piece_summary, piece_pending, piece_line, piece_words, piece_moved}
use Rattle.exports.proofs.replaying.feed_words.Goals as goal

pub slice_bounds-replay_piece-end-2 : goal.slice_bounds-replay_piece-end-2
slice_bounds-replay_piece-end-2 c =
    let a = c.args in
    size a.words.now a.lent 0 0 [] [] [] [] [] _ c.least-n.ensures

pub returns : goal.returns
returns c =
    let n = c.least-n.ensures in
    let st = c.replaying_of-held.ensures in
    let x = c.replay_piece-given.ensures in record {
      result = c.fed_of.ensures ∙ fed_is _ _ _ _ _ _ _ n _ _ st _ _ _ _ _ _ _ _ _ x;
      area = piece_area _ _ _ _ _ _ _ n _ _ st _ _ _ _ _ _ _ _ _ x;
      summary = piece_summary _ _ _ _ _ _ _ n _ _ st _ _ _ _ _ _ _ _ _ x;
      pending = piece_pending _ _ _ _ _ _ _ n _ _ st _ _ _ _ _ _ _ _ _ x;
      line = piece_line _ _ _ _ _ _ _ n _ _ st _ _ _ _ _ _ _ _ _ x;
      words = (
        piece_words _ _ _ _ _ _ _ n _ _ st _ _ _ _ _ _ _ _ _ x,
        piece_moved _ _ _ _ _ _ _ n _ _ st _ _ _ _ _ _ _ _ _ x _ c.least-end.ensures,
      );
    }
