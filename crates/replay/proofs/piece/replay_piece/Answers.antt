-- `replay::piece::replay_piece` meets its contract: a piece that is taken, and one that is refused. By ResumeLaws.
use Rattle.std.specs.Prelude.{None}
use Rattle.listing_rules.proofs.Prelude.{◌≡◌, arith}
use Rattle.replay.proofs.ResumeLaws.{piece_taken, piece_refused}
use Rattle.replay.proofs.piece.replay_piece.Goals as goal

pub returns : goal.returns
returns c =
    piece_taken _ _ _ _ _ _ c.feed.ensures _ c.in_ok-next.was _ c.finish-verdict.ensures

pub returns-in_err-next : goal.returns-in_err-next
returns-in_err-next c =
    let gone : c.from_residual.result ≡ None = grind arith in
    rw gone (piece_refused _ _ _ _ _ _ c.feed.ensures c.in_err-next.was)
