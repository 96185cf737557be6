-- `mailbox_table::raw::find_words` meets its contract: the area's length and the count, check 1 of the rows, and that names lie without overlap.
-- By FindLaws.
use Rattle.listing_rules.proofs.Prelude.{◌∙◌, ◌≡◌, ap, refl, sym, true, List, map, ℕ, arith, take}
use Rattle.listing_rules.specs.Records.{all_apart}
use Rattle.records.specs.Words.{record_of}
use Rattle.mailbox_table.specs.Link.{Links, words_pass}
use Rattle.mailbox_table.proofs.FindLaws.{Copies, words_long, words_many, words_front, words_bad}
use Rattle.mailbox_table.proofs.FindLaws.{words_overlap, words_rows}
use Rattle.mailbox_table.proofs.raw.find_words.Goals as goal

pub returns-then-area-gt-MAX_BYTES : goal.returns-then-area-gt-MAX_BYTES
returns-then-area-gt-MAX_BYTES c =
    record { answer = sym (words_long _ c.args.raw.now _ _ c.if-area-gt-MAX_BYTES.true); room = refl; found = tt; stays = tt }

pub returns-then-min-count : goal.returns-then-min-count
returns-then-min-count c =
    record {
      answer = sym (words_many _ c.args.raw.now _ _ (omega (arith, c.min-2.ensures, c.min.ensures)));
      room = refl;
      found = tt;
      stays = tt;
    }

pub returns-then-not-rows_pass : goal.returns-then-not-rows_pass
returns-then-not-rows_pass c =
    let copied : Copies c.args.area.now c.args.raw.now c.args.words.now c.args.count c.copy_words.new.words =
    record { long = c.if-area-gt-MAX_BYTES.false; many = omega (arith, c.min-2.ensures, c.min.ensures); copy = c.copy_words.ensures } in
    words_bad copied (rw c.if-not-rows_pass.true at c.rows_pass.ensures)

pub returns-then-not-lie_apart : goal.returns-then-not-lie_apart
returns-then-not-lie_apart c =
    let copied : Copies c.args.area.now c.args.raw.now c.args.words.now c.args.count c.copy_words.new.words =
    record { long = c.if-area-gt-MAX_BYTES.false; many = omega (arith, c.min-2.ensures, c.min.ensures); copy = c.copy_words.ensures } in
    let front = take c.args.count c.copy_words.new.words in
    let good : Links c.args.area.now front c.rows_pass.new.words (words_pass c.args.area.now front) true = rw c.if-not-rows_pass.false at c.rows_pass.ensures in
    let apartness : c.lie_apart.result ≡ all_apart (map record_of c.rows_pass.new.words) = c.lie_apart.ensures ∙ ap (λ (ws : List ℕ). all_apart (map record_of ws)) (words_front copied good) in
    words_overlap copied good (sym apartness ∙ c.if-not-lie_apart.true)

pub returns : goal.returns
returns c =
    let copied : Copies c.args.area.now c.args.raw.now c.args.words.now c.args.count c.copy_words.new.words =
    record { long = c.if-area-gt-MAX_BYTES.false; many = omega (arith, c.min-2.ensures, c.min.ensures); copy = c.copy_words.ensures } in
    let front = take c.args.count c.copy_words.new.words in
    let good : Links c.args.area.now front c.rows_pass.new.words (words_pass c.args.area.now front) true = rw c.if-not-rows_pass.false at c.rows_pass.ensures in
    let apartness : c.lie_apart.result ≡ all_apart (map record_of c.rows_pass.new.words) = c.lie_apart.ensures ∙ ap (λ (ws : List ℕ). all_apart (map record_of ws)) (words_front copied good) in
    words_rows copied good (sym apartness ∙ c.if-not-lie_apart.false)
