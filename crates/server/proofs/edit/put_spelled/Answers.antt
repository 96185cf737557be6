-- `server::edit::put_spelled` meets its contract: the name lies at the front, and is spelled there. By EditLaws.
use Rattle.command_line.specs.Commands.{name_of}
use Rattle.server.specs.Edits.{Fronts}
use Rattle.server.proofs.EditLaws.{put_front, spelled_front}
use Rattle.server.proofs.edit.put_spelled.Goals as goal

pub slice_bounds-spell-end : goal.slice_bounds-spell-end
slice_bounds-spell-end c =
    let put : let a = c.args in Fronts (name_of a.asked.line.now a.asked.command) c.put_name-end.new.buf c.put_name-end.result = put_front _ _ _ _ c.put_name-end.ensures c.requires in
    put.within

pub slice_bounds-spell-end-2 : goal.slice_bounds-spell-end-2
slice_bounds-spell-end-2 c =
    let put : let a = c.args in Fronts (name_of a.asked.line.now a.asked.command) c.put_name-end.new.buf c.put_name-end.result = put_front _ _ _ _ c.put_name-end.ensures c.requires in
    put.size

pub returns : goal.returns
returns c =
    let put : let a = c.args in Fronts (name_of a.asked.line.now a.asked.command) c.put_name-end.new.buf c.put_name-end.result = put_front _ _ _ _ c.put_name-end.ensures c.requires in
    spelled_front _ _ _ _ put c.spell.ensures c.spell.auto.name
