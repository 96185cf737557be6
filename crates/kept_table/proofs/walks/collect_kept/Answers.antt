-- `kept_table::walks::collect_kept` meets its contract: records, or packed bytes. Rests on WalkLaws.
use Rattle.listing_rules.proofs.Prelude.{◌∙◌, ap}
use Rattle.listing_rules.specs.Table.{Table}
use Rattle.collector.specs.Result.{collected_of, found_of}
use Rattle.kept_table.proofs.LentLaws.{whole_table, whole_area, whole_records}
use Rattle.kept_table.proofs.WalkLaws.{walks_records, walks_packed}
use Rattle.kept_table.proofs.walks.collect_kept.Goals as goal

pub slice_bounds-words-end : goal.slice_bounds-words-end
slice_bounds-words-end c =
    whole_records c.requires

pub slice_bounds-collect_words-end : goal.slice_bounds-collect_words-end
slice_bounds-collect_words-end c =
    whole_area c.requires

pub returns-then-stored : goal.returns-then-stored
returns-then-stored c =
    let same = walks_records _ c.args.stored _ _
    c.if-stored.true in record {
      result = c.collect_words.ensures.result ∙ ap (λ (t : Table). collected_of c.args.reader t c.args.option c.args.scratch.now c.args.found.now
          c.args.pending.now) same;
      found = c.collect_words.ensures.found ∙ ap (λ (t : Table). found_of c.args.reader t c.args.option c.args.scratch.now c.args.found.now
          c.args.pending.now) same;
    }

pub slice_bounds-collect_packed-end : goal.slice_bounds-collect_packed-end
slice_bounds-collect_packed-end c =
    whole_table c.requires

pub returns : goal.returns
returns c =
    let same = walks_packed _ c.args.stored _ _ c.if-stored.false in record {
      result = c.collect_packed.ensures.result ∙ ap (λ (t : Table). collected_of c.args.reader t c.args.option c.args.scratch.now c.args.found.now
          c.args.pending.now) same;
      found = c.collect_packed.ensures.found ∙ ap (λ (t : Table). found_of c.args.reader t c.args.option c.args.scratch.now c.args.found.now
          c.args.pending.now) same;
    }
