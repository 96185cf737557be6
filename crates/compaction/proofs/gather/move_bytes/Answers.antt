-- `compaction::gather::move_bytes` meets its contract: the map tells the bytes that rows use, and they are gathered. By MoveLaws; the map by MapLaws.
use Rattle.listing_rules.proofs.Prelude.{◌∙◌, ◌≡◌, ap, map, length, take}
use Rattle.listing_rules.specs.Subscriptions.{free_from}
use Rattle.records.specs.Words.{record_of}
use Rattle.subscriptions.proofs.MapLaws.{map_free, free_length}
use Rattle.compaction.proofs.MoveLaws.{moves_bytes}
use Rattle.compaction.proofs.gather.move_bytes.Goals as goal

pub gather-end-requires : goal.gather-end-requires
gather-end-requires c =
    let map_is : let a = c.args in
    take (length a.area.now) c.unmark_names.new.marks ≡ free_from (map record_of a.words.now) 0 a.area.now = map_free 32768 _ _ _ c.requires.0
    (rw c.filled-marks.ensures at c.unmark_names.ensures) in
    let map-size : let a = c.args in
    length (take (length a.area.now) c.unmark_names.new.marks) ≡ length a.area.now = ap length map_is ∙ free_length _ 0 _ in
    (c.requires.0, map-size, c.requires.1)

pub returns : goal.returns
returns c =
    let map_is : let a = c.args in
    take (length a.area.now) c.unmark_names.new.marks ≡ free_from (map record_of a.words.now) 0 a.area.now = map_free 32768 _ _ _ c.requires.0
    (rw c.filled-marks.ensures at c.unmark_names.ensures) in
    moves_bytes _ map_is c.gather-end.ensures _ c.clear.ensures
