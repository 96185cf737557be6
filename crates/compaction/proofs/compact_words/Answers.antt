-- `compaction::compact_words` meets its contract: 1 for a table that does not pass, else its names are moved. By MoveLaws.
use Rattle.listing_rules.proofs.Prelude.{◌∙◌, ◌≡◌, ap, sym, true, min, take}
use Rattle.listing_rules.specs.Table.{passes}
use Rattle.records.specs.Lent.{lent_of, words_table}
use Rattle.compaction.proofs.MoveLaws.{front_size, front_inside, sums_size, refused, count_inside, count_size, rows_within, good, done}
use Rattle.compaction.proofs.compact_words.Goals as goal

pub slice_bounds-check_summed-end : goal.slice_bounds-check_summed-end
slice_bounds-check_summed-end c =
    let number : let a = c.args in c.min-n.result ≡ lent_of a.words.now a.lent a.sums.now = let a = c.args in c.min-n.ensures ∙ ap (min a.lent) c.min.ensures in
    let a = c.args in
    front_inside a.words.now a.lent a.count a.area.now a.sums.now _ number

pub slice_bounds-check_summed-end-2 : goal.slice_bounds-check_summed-end-2
slice_bounds-check_summed-end-2 c =
    let number : let a = c.args in c.min-n.result ≡ lent_of a.words.now a.lent a.sums.now = let a = c.args in c.min-n.ensures ∙ ap (min a.lent) c.min.ensures in
    let a = c.args in
    front_size a.words.now a.lent a.count a.area.now a.sums.now _ number

pub slice_bounds-check_summed-end-3 : goal.slice_bounds-check_summed-end-3
slice_bounds-check_summed-end-3 c =
    let number : let a = c.args in c.min-n.result ≡ lent_of a.words.now a.lent a.sums.now = let a = c.args in c.min-n.ensures ∙ ap (min a.lent) c.min.ensures in
    let a = c.args in
    sums_size a.words.now a.lent a.count a.area.now a.sums.now _ number

pub returns-then-not-check_summed : goal.returns-then-not-check_summed
returns-then-not-check_summed c =
    let number : let a = c.args in c.min-n.result ≡ lent_of a.words.now a.lent a.sums.now = let a = c.args in c.min-n.ensures ∙ ap (min a.lent) c.min.ensures in
    let left = refused _ _ _ _ _ _ number (sym c.check_summed.ensures ∙ c.if-not-check_summed.true) in
    record { result = left.0; area = left.1.0; words = left.1.1.0; records = left.1.1.1 }

pub slice_bounds-move_names-end : goal.slice_bounds-move_names-end
slice_bounds-move_names-end c =
    let number : let a = c.args in c.min-n.result ≡ lent_of a.words.now a.lent a.sums.now = let a = c.args in c.min-n.ensures ∙ ap (min a.lent) c.min.ensures in
    let passed : let a = c.args in
    let n = c.min-n.result in
    passes (words_table (take n a.words.now) a.count a.area.now (take n a.sums.now)) ≡ true = sym c.check_summed.ensures ∙ c.if-not-check_summed.false in
    let a = c.args in
    count_inside a.words.now c.min-n.result a.count a.area.now
    (front_inside a.words.now a.lent a.count a.area.now a.sums.now _ number)
    (good a.words.now a.lent a.count a.area.now a.sums.now _ number passed)

pub slice_bounds-move_names-end-2 : goal.slice_bounds-move_names-end-2
slice_bounds-move_names-end-2 c =
    let number : let a = c.args in c.min-n.result ≡ lent_of a.words.now a.lent a.sums.now = let a = c.args in c.min-n.ensures ∙ ap (min a.lent) c.min.ensures in
    let passed : let a = c.args in
    let n = c.min-n.result in
    passes (words_table (take n a.words.now) a.count a.area.now (take n a.sums.now)) ≡ true = sym c.check_summed.ensures ∙ c.if-not-check_summed.false in
    let a = c.args in
    count_size a.words.now c.min-n.result a.count a.area.now
    (front_inside a.words.now a.lent a.count a.area.now a.sums.now _ number)
    (good a.words.now a.lent a.count a.area.now a.sums.now _ number passed)

pub move_names-requires : goal.move_names-requires
move_names-requires c =
    let number : let a = c.args in c.min-n.result ≡ lent_of a.words.now a.lent a.sums.now = let a = c.args in c.min-n.ensures ∙ ap (min a.lent) c.min.ensures in
    let passed : let a = c.args in
    let n = c.min-n.result in
    passes (words_table (take n a.words.now) a.count a.area.now (take n a.sums.now)) ≡ true = sym c.check_summed.ensures ∙ c.if-not-check_summed.false in
    let a = c.args in
    rows_within a.words.now c.min-n.result a.count a.area.now
    (front_inside a.words.now a.lent a.count a.area.now a.sums.now _ number)
    (good a.words.now a.lent a.count a.area.now a.sums.now _ number passed)

pub returns : goal.returns
returns c =
    let number : let a = c.args in c.min-n.result ≡ lent_of a.words.now a.lent a.sums.now = let a = c.args in c.min-n.ensures ∙ ap (min a.lent) c.min.ensures in
    let passed : let a = c.args in
    let n = c.min-n.result in
    passes (words_table (take n a.words.now) a.count a.area.now (take n a.sums.now)) ≡ true = sym c.check_summed.ensures ∙ c.if-not-check_summed.false in
    let left = done _ _ _ _ _ _ number passed _ _ c.move_names.ensures in
    record { result = left.0; area = left.1.0; words = left.1.1.0; records = left.1.1.1 }
