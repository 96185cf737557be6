-- `records::RecordFromU64::from` meets its contract: the record is the definition, opened.
use Rattle.listing_rules.proofs.Prelude.{refl}
use Rattle.records.specs.Words.{struct_of}
use Rattle.records.proofs.RecordFromU64.from.Goals as goal

pub returns : goal.returns
unfolding struct_of
returns c = refl
