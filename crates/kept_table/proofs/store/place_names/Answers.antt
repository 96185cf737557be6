-- `kept_table::store::place_names` meets its contract. Rests on LayLaws.
use Rattle.listing_rules.proofs.Prelude.{arith}
use Rattle.kept_table.proofs.LayLaws.{placing_none, placing_room, placing_more, placing_all, name_short}
use Rattle.kept_table.proofs.store.place_names.Goals as goal

pub loop-i-init : goal.loop-i-init
loop-i-init c = placing_none _ _ _

pub overflow_cast-at : goal.overflow_cast-at
overflow_cast-at c =
    omega (arith, placing_room c.loop-i.invariant c.requires.0)

pub overflow_cast-name : goal.overflow_cast-name
overflow_cast-name c = omega (arith, name_short _ _ _ _ c.of_word-row.ensures c.name_of-name.ensures)

pub loop-i-preserved : goal.loop-i-preserved
loop-i-preserved c =
    placing_more c.loop-i.invariant (omega (arith, c.loop-i.invariant.size)) c.requires.0 c.requires.1 _ _ _ _ _ _ c.of_word-row.ensures
    c.name_of-name.ensures c.readers_of-readers.ensures c.from.ensures.1 c.from.ensures.0
    c.put_all-at.ensures

pub returns : goal.returns
returns c = placing_all c.loop-i.invariant (omega arith)
