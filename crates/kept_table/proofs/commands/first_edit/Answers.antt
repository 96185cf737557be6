-- `kept_table::commands::first_edit` meets its contract: the reader is above 7, the table does not pass, the edit is refused, or it is accepted. Rests on
-- ObeyLaws, and on LayLaws for the store that the packed bytes become and its first summary.
use Rattle.std.specs.Prelude.{Some}
use Rattle.listing_rules.proofs.Prelude.{◌∙◌, ◌≡◌, ap, sym, map, ◌≤◌, ℕ, arith, length, length-replicate, length-take, take}
use Rattle.listing_rules.specs.Frames.{program_summed}
use Rattle.records.specs.Numbers.{summary_of}
use Rattle.records.specs.Lent.{word_store}
use Rattle.kept_table.specs.Kept.{Lent, lent}
use Rattle.kept_table.specs.Laying.{Lays}
use Rattle.kept_table.proofs.LentLaws.{whole_table, whole_namespaces}
use Rattle.kept_table.proofs.LayLaws.{laid_few, laid_not, laid_rows, laid_summed}
use Rattle.kept_table.proofs.ObeyLaws.{came, came_words, reply_fits, first_stranger, first_fails, first_refused, first_accepted, was_err, was_ok}
use Rattle.kept_table.proofs.commands.first_edit.Goals as goal

pub returns-then-asked-gt-MAX_READER : goal.returns-then-asked-gt-MAX_READER
returns-then-asked-gt-MAX_READER c =
    let memory : Lent = lent c.args.table.now c.args.records.now c.args.asked.namespaces.now c.args.out.now in
    rw c.said.ensures
    (first_stranger memory _ c.requires.within _ _ _ _ c.requires.edited_value.0 c.if-asked-gt-MAX_READER.true
    (rw c.number.ensures at c.put_refusal.ensures))

pub slice_bounds-lay_out-end-2 : goal.slice_bounds-lay_out-end-2
slice_bounds-lay_out-end-2 c =
    whole_table c.requires.within.held

pub lay_out-requires : goal.lay_out-requires
lay_out-requires c =
    record {
      table = omega (arith, whole_table c.requires.within.held, c.requires.within.held.rows);
      words = c.no_words-words.ensures;
      area = c.filled-area.ensures;
    }

pub returns-in_default : goal.returns-in_default
returns-in_default c =
    let memory : Lent = lent c.args.table.now c.args.records.now c.args.asked.namespaces.now c.args.out.now in
    rw c.said-in_default.ensures
    (first_fails memory _ c.requires.within _ _ _ _ c.requires.edited_value.0 c.if-asked-gt-MAX_READER.false
    (laid_not _ _ _ c.lay_out.ensures c.in_default.is) (rw c.number-in_default.ensures at c.put_refusal-in_default.ensures))

pub slice_bounds-answer_words-end-4 : goal.slice_bounds-answer_words-end-4
slice_bounds-answer_words-end-4 c =
    whole_namespaces c.requires.within

pub put_reply-written-requires : goal.put_reply-written-requires
put_reply-written-requires c =
    let worded : length c.lay_out.new.words ≡ 512 = c.lay_out.auto.words ∙ ap length c.no_words-words.ensures ∙ length-replicate {A = ℕ} 512 0 in
    let summed : length c.summarize_words.new.sums ≡ 512 = c.summarize_words.auto.sums ∙ ap length c.no_words-sums.ensures ∙ length-replicate {A = ℕ} 512 0 in
    let sized : length c.filled-answer.result ≡ 16384 = ap length c.filled-answer.ensures ∙ length-replicate {A = ℕ} 16384 0 in
    let outcome = came _ _ _ _ _ _ _ _ worded summed c.answer_words-made.ensures in
    reply_fits _ _ _ outcome.written outcome.bytes (c.answer_words-made.auto.out ∙ sized)

pub returns-then-is_err : goal.returns-then-is_err
returns-then-is_err c =
    let memory : Lent = lent c.args.table.now c.args.records.now c.args.asked.namespaces.now c.args.out.now in
    let worded : length c.lay_out.new.words ≡ 512 = c.lay_out.auto.words ∙ ap length c.no_words-words.ensures ∙ length-replicate {A = ℕ} 512 0 in
    let summed : length c.summarize_words.new.sums ≡ 512 = c.summarize_words.auto.sums ∙ ap length c.no_words-sums.ensures ∙ length-replicate {A = ℕ} 512 0 in
    let sized : length c.filled-answer.result ≡ 16384 = ap length c.filled-answer.ensures ∙ length-replicate {A = ℕ} 16384 0 in
    let laid : let a = c.args in
    Lays (take a.asked.stored.table a.table.now) c.lay_out.new.words c.lay_out.new.area (Some c.in-Some.count) = laid_rows _ _ _ c.lay_out.ensures c.in-Some.is in
    let first : let a = c.args in
    record {
      store = word_store c.lay_out.new.words 512 c.in-Some.count c.lay_out.new.area;
      summary = map summary_of c.summarize_words.new.sums;
    } ≡ program_summed (take a.asked.stored.table a.table.now) = let short : length (take c.args.asked.stored.table c.args.table.now) ≤ 16384 = omega
    (arith, length-take c.args.asked.stored.table c.args.table.now, c.requires.within.held.rows) in
    laid_summed _ c.lay_out.new.words c.lay_out.new.area _ short laid worded _
    c.summarize_words.new.sums c.no_words-sums.ensures
    c.summarize_words.ensures.summary in
    let outcome = came _ _ _ _ _ _ _ _ worded summed c.answer_words-made.ensures in
    rw c.said-then-is_err.ensures
    (first_refused memory _ c.requires.within _ _ c.requires.edited_value.0 c.requires.edited_value.1 _ _ sized laid.0 first
    c.answer_words-made.new.words c.answer_words-made.new.sums _ _ _ _ _ _ outcome (was_err _ (sym c.is_err.ensures.value ∙ c.if-is_err.true)).1 c.put_reply-written.ensures)

pub keep_store-requires : goal.keep_store-requires
keep_store-requires c =
    let worded : length c.lay_out.new.words ≡ 512 = c.lay_out.auto.words ∙ ap length c.no_words-words.ensures ∙ length-replicate {A = ℕ} 512 0 in
    let summed : length c.summarize_words.new.sums ≡ 512 = c.summarize_words.auto.sums ∙ ap length c.no_words-sums.ensures ∙ length-replicate {A = ℕ} 512 0 in
    (c.answer_words-made.auto.words ∙ worded, c.answer_words-made.auto.sums ∙ summed, c.requires.within.held.records)

pub returns : goal.returns
returns c =
    let memory : Lent = lent c.args.table.now c.args.records.now c.args.asked.namespaces.now c.args.out.now in
    let worded : length c.lay_out.new.words ≡ 512 = c.lay_out.auto.words ∙ ap length c.no_words-words.ensures ∙ length-replicate {A = ℕ} 512 0 in
    let named : length c.lay_out.new.area ≡ 16384 = c.lay_out.auto.area ∙ ap length c.filled-area.ensures ∙ length-replicate {A = ℕ} 16384 0 in
    let summed : length c.summarize_words.new.sums ≡ 512 = c.summarize_words.auto.sums ∙ ap length c.no_words-sums.ensures ∙ length-replicate {A = ℕ} 512 0 in
    let sized : length c.filled-answer.result ≡ 16384 = ap length c.filled-answer.ensures ∙ length-replicate {A = ℕ} 16384 0 in
    let laid : let a = c.args in
    Lays (take a.asked.stored.table a.table.now) c.lay_out.new.words c.lay_out.new.area (Some c.in-Some.count) = laid_rows _ _ _ c.lay_out.ensures c.in-Some.is in
    let few : c.in-Some.count ≤ 16384 = let a = c.args in
    omega
    (arith, laid_few (take a.asked.stored.table a.table.now) c.lay_out.new.words c.lay_out.new.area c.in-Some.count laid) in
    let first : let a = c.args in
    record {
      store = word_store c.lay_out.new.words 512 c.in-Some.count c.lay_out.new.area;
      summary = map summary_of c.summarize_words.new.sums;
    } ≡ program_summed (take a.asked.stored.table a.table.now) = let short : length (take c.args.asked.stored.table c.args.table.now) ≤ 16384 = omega
    (arith, length-take c.args.asked.stored.table c.args.table.now, c.requires.within.held.rows) in
    laid_summed _ c.lay_out.new.words c.lay_out.new.area _ short laid worded _
    c.summarize_words.new.sums c.no_words-sums.ensures
    c.summarize_words.ensures.summary in
    let outcome = came _ _ _ _ _ _ _ _ worded summed c.answer_words-made.ensures in
    rw (c.with_records.ensures, c.keep_store.ensures.0, c.keep_store.ensures.1)
    (first_accepted memory _ c.requires.within _ _ c.requires.edited_value.0 c.requires.edited_value.1 _ _ sized laid.0 first
    c.answer_words-made.new.words c.answer_words-made.new.sums _ _ _ _ _ _ outcome _ laid.2
    (came_words _ _ _ _ _ _ _ _ worded summed c.answer_words-made.ensures) (was_ok _ (sym c.is_err.ensures.value ∙ c.if-is_err.false)).1 few
    (c.answer_words-made.auto.area ∙ named) (c.answer_words-made.auto.sums ∙ summed) c.put_reply-written.ensures)
