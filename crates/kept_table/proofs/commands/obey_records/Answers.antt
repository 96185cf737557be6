-- `kept_table::commands::obey_records` meets its contract: the server's command over records, summary and area. Rests on ObeyLaws.
use Rattle.listing_rules.proofs.Prelude.{◌∙◌, ◌≡◌, ap, sym, ℕ, length, length-replicate}
use Rattle.kept_table.specs.Kept.{lent}
use Rattle.kept_table.proofs.LentLaws.{whole_area, whole_records, whole_sums, whole_namespaces}
use Rattle.kept_table.proofs.ObeyLaws.{came, came_words, reply_fits, obeys_records}
use Rattle.kept_table.proofs.commands.obey_records.Goals as goal

pub slice_bounds-answer_words-end-2 : goal.slice_bounds-answer_words-end-2
slice_bounds-answer_words-end-2 c =
    whole_records c.requires.within.held

pub slice_bounds-answer_words-end-5 : goal.slice_bounds-answer_words-end-5
slice_bounds-answer_words-end-5 c =
    whole_area c.requires.within.held

pub slice_bounds-answer_words-end-6 : goal.slice_bounds-answer_words-end-6
slice_bounds-answer_words-end-6 c =
    whole_namespaces c.requires.within

pub put_reply-written-requires : goal.put_reply-written-requires
put_reply-written-requires c =
    let summed : length c.kept_sums-sums.result ≡ 512 = ap length c.kept_sums-sums.ensures ∙ sym (whole_sums c.requires.within.held) in
    let sized : length c.filled-answer.result ≡ 16384 = ap length c.filled-answer.ensures ∙ length-replicate {A = ℕ} 16384 0 in
    let outcome = came _ _ _ _ _ _ _ _ (sym (whole_records c.requires.within.held)) summed c.answer_words-done.ensures in
    reply_fits _ _ _ outcome.written outcome.bytes (c.answer_words-done.auto.out ∙ sized)

pub returns : goal.returns
returns c =
    let summed : length c.kept_sums-sums.result ≡ 512 = ap length c.kept_sums-sums.ensures ∙ sym (whole_sums c.requires.within.held) in
    let sized : length c.filled-answer.result ≡ 16384 = ap length c.filled-answer.ensures ∙ length-replicate {A = ℕ} 16384 0 in
    let outcome = came _ _ _ _ _ _ _ _ (sym (whole_records c.requires.within.held)) summed c.answer_words-done.ensures in
    let before = lent _ _ _ _ in
    rw (c.with_records.ensures, c.keep_sums.ensures)
    (obeys_records before _ c.requires.within _ _ c.requires.edited_value _ _ sized c.kept_sums-sums.ensures _ c.answer_words-done.new.words _ _ _ _ _
    outcome (came_words _ _ _ _ _ _ _ _ (sym (whole_records c.requires.within.held)) summed c.answer_words-done.ensures) c.answer_words-done.auto.area (c.answer_words-done.auto.sums ∙ summed) c.put_reply-written.ensures)
