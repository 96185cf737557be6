-- `frames::gathering::Gathered::is_empty` meets its contract. Rests on GatherLaws.
use Rattle.listing_rules.proofs.Prelude.{refl}
use Rattle.frames.proofs.GatherLaws.{empty_by}
use Rattle.frames.proofs.gathering.Gathered.is_empty.Goals as goal

pub returns-in-Some : goal.returns-in-Some
returns-in-Some c = empty_by _ _ c.in-Some.is _ refl

pub returns-in-None : goal.returns-in-None
returns-in-None c = empty_by _ _ c.in-None.is _ refl
