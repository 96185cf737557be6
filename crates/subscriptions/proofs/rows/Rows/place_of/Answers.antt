-- `Rows::place_of` meets its contract: the words before the place are those of the rows before the name. By PlaceLaws.
use Rattle.std.proofs.Common.{rules, tests}
use Rattle.std.proofs.lemmas.List.Sorted.{IsPartitionPoint-from_clause}
use Rattle.subscriptions.proofs.PlaceLaws.{is_before, parted, part_counted}
use Rattle.subscriptions.proofs.rows.Rows.place_of.Goals as goal

pub returns : goal.returns
returns c =
    let a = c.args in
    part_counted a.self.area.now a.name.now a.self.words.now _ c.partition_point.ensures.bound
    (IsPartitionPoint-from_clause (is_before a.self.area.now a.name.now) a.self.words.now _ c.partition_point.ensures.partitioned
    (parted a.self.area.now a.name.now a.self.words.now a.self.ascend) (λ x b q k. search (rules, tests)))
