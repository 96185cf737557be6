-- `compaction::move_by` meets its contract: bytes, then starts. By MoveLaws.
use Rattle.listing_rules.proofs.Prelude.{◌≡◌, arith, length, take, length-take-le}
use Rattle.compaction.proofs.MoveLaws.{moves_names}
use Rattle.compaction.proofs.move_by.Goals as goal

pub whole_as_slice-move_bytes : goal.whole_as_slice-move_bytes
whole_as_slice-move_bytes g c = omega (arith, c.requires.2)

pub shared_whole_as_front-restart : goal.shared_whole_as_front-restart
shared_whole_as_front-restart g c = (c.requires.1, omega (arith, c.requires.2))

pub restart-requires : goal.restart-requires
restart-requires g c =
    let places-length : length (take (length c.args.area.now) c.move_bytes.new.places) ≡ length c.args.area.now = length-take-le _ _ c.move_bytes.ensures.room in
    λ k h. rw places-length (c.requires.0.starts k h)

pub returns : goal.returns
returns g c =
    moves_names c.requires.0 c.move_bytes.ensures c.restart.ensures
