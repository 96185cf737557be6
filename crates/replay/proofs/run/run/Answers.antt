-- `replay::run::run` meets its contract: the server's command over the words, and its reply beside the answer recorded. By RunLaws.
use Rattle.listing_rules.proofs.Prelude.{◌∙◌, ◌≡◌, ap, List, ◌-◌, ℕ, arith, drop, length, length-drop, length-replicate, take, take_all}
use Rattle.replay.proofs.RunLaws.{run_fits, runs}
use Rattle.replay.proofs.run.run.Goals as goal

-- what follows the reader is the line
line_is_lem : (command : List ℕ) → take (length command - 1) (drop 1 command) ≡ drop 1 command
line_is_lem command = take_all (length command - 1) (drop 1 command) (omega (arith, length-drop 1 command))

pub same_reply-same-requires : goal.same_reply-same-requires
same_reply-same-requires c =
    let args = c.args in
    run_fits args.words.now args.sums.now args.area.now args.namespaces.now args.command.now _ _ args.rows (line_is_lem args.command.now)
    (ap length c.filled-answer.ensures ∙ length-replicate {A = ℕ} 16384 0) _ _ _ _ _ c.answer_words-done.ensures

pub returns : goal.returns
returns c =
    let args = c.args in
    runs args.words.now args.sums.now args.area.now args.namespaces.now args.command.now _ _ args.rows (line_is_lem args.command.now)
    (ap length c.filled-answer.ensures ∙ length-replicate {A = ℕ} 16384 0) _ _ _ _ _ c.answer_words-done.ensures c.answer_words-done.auto.area _ _
    _ c.same_reply-same.ensures
