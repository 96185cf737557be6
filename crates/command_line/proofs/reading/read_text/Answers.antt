-- `read_text`: the tag, the space and the word, and then what the word asks for. Rests on Wording, Judging and Edits.
use Rattle.listing_rules.proofs.Prelude.{◌∙◌, ◌≡◌, ap, sym, drop}
use Rattle.std.specs.Prelude.{Result, Err}
use Rattle.std.proofs.Common.{rules}
use Rattle.octets.specs.declared.refusals.Refusal.{Refusal}
use Rattle.octets.specs.declared.refusals.Refusal.TheVariants.{Grammar, Word as NoWord}
use Rattle.listing_rules.specs.Tokens.{atom_byte, run}
use Rattle.listing_rules.specs.Command.{worded, tagged}
use Rattle.command_tokens.specs.Spans.{span_bytes}
use Rattle.command_tokens.proofs.Binds.{token_found, token_missing, bare_ahead, bare_bytes, behind_at, behind_nothing}
use Rattle.command_line.specs.declared.Command.{Command}
use Rattle.command_line.specs.declared.reading.Word.{Word}
use Rattle.command_line.specs.Words.{word_of, worded_as}
use Rattle.command_line.specs.Commands.{TagIn, Answers}
use Rattle.command_line.proofs.Judging.{refuses, answers_as}
use Rattle.command_line.proofs.Edits.{asks_subscribe, asks_unsubscribe}
use Rattle.command_line.proofs.Wording.{tag_in, tag_off, space_off, space_read, word_off, word_read, other_word}
use Rattle.command_line.proofs.reading.read_text.Goals as goal
use Rattle.command_line.proofs.reading.read_text.Goals.{In_ok-third, After-word_of}

pub returns-in_err-tag : goal.returns-in_err-tag
returns-in_err-tag c =
    let off : c.from_residual.result ≡ Err Grammar = search rules in
    rw off (refuses _ Grammar (tag_off c.args.text.now (token_missing _ c.tag.ensures.result_value c.in_err-tag.ensures.ok_part)))

pub returns-in_err-third : goal.returns-in_err-third
returns-in_err-third c =
    let off : c.from_residual-in_err-third.result ≡ Err Grammar = search rules in
    rw off (refuses _ Grammar
    (space_off c.args.text.now _ c.in_ok-tag.second.at (token_found _ c.tag.ensures.result_value c.in_ok-tag.ensures.ok_part)
    (behind_nothing _ c.space.ensures.result_value c.in_err-third.ensures.ok_part)))

-- the tag and the space
spaced : (c : In_ok-third) → tagged c.args.text.now ≡
    worded (span_bytes c.args.text.now c.in_ok-tag.tag) (run atom_byte (drop c.in_ok-third.third.at c.args.text.now))
spaced c =
    space_read c.args.text.now _ c.in_ok-tag.second.at (token_found _ c.tag.ensures.result_value c.in_ok-tag.ensures.ok_part) _
    (behind_at _ c.space.ensures.result_value c.in_ok-third.ensures.ok_part)

pub returns-in_err-word : goal.returns-in_err-word
returns-in_err-word c =
    let off : c.from_residual-in_err-word.result ≡ Err NoWord = search rules in
    rw off (refuses _ NoWord (spaced (goal.at.returns-in_err-word c).In_ok-third ∙ word_off _ _
    (token_missing _ c.atom.ensures.result_value c.in_err-word.ensures.ok_part)))

-- ---- the word

module _ (c : After-word_of) where
  word_is : word_of (span_bytes c.args.text.now c.in_ok-word.word) ≡ c.word_of.result
  word_is =
      ap word_of (bare_bytes _ _ (bare_ahead _ _ c.atom.ensures.bare_in c.in_ok-word.ensures.ok_part).bare ∙ sym c.raw.ensures)
      ∙ sym c.word_of.ensures

  -- by its place in the table
  by_word : (w : Word) → c.word_of.result ≡ w →
      worded (span_bytes c.args.text.now c.in_ok-tag.tag) (run atom_byte (drop c.in_ok-third.third.at c.args.text.now)) ≡
      worded_as w (span_bytes c.args.text.now c.in_ok-tag.tag) (drop c.in_ok-word.rest.at c.args.text.now)
  by_word w e =
      word_read _ _ _ _ (token_found _ c.atom.ensures.result_value c.in_ok-word.ensures.ok_part)
      ∙ ap (λ (x : Word). worded_as x (span_bytes c.args.text.now c.in_ok-tag.tag) (drop c.in_ok-word.rest.at c.args.text.now))
      (word_is ∙ e)

  -- a word's own function answers
  arm : (w : Word) {r : Result Command Refusal} → c.word_of.result ≡ w →
      Answers c.args.text.now
      (worded_as w (span_bytes c.args.text.now c.in_ok-tag.tag) (drop c.in_ok-word.rest.at c.args.text.now))
      (TagIn c.args.text.now c.in_ok-tag.tag) r →
      Answers c.args.text.now
      (worded (span_bytes c.args.text.now c.in_ok-tag.tag) (run atom_byte (drop c.in_ok-third.third.at c.args.text.now))) Unit r
  arm w e a =
      answers_as a (by_word w e) (λ u. tag_in _ _ _ (bare_ahead _ _ c.tag.ensures.bare_in c.in_ok-tag.ensures.ok_part))

pub returns-in-List : goal.returns-in-List
returns-in-List c =
    let at = goal.at.returns-in-List c in
    answers_as (arm at.After-word_of _ c.in-List.is c.read_list.ensures) (spaced at.In_ok-third) (λ u. u)

pub returns-in-Namespace : goal.returns-in-Namespace
returns-in-Namespace c =
    let at = goal.at.returns-in-Namespace c in
    answers_as (arm at.After-word_of _ c.in-Namespace.is c.read_namespace.ensures) (spaced at.In_ok-third) (λ u. u)

pub returns-in-Lsub : goal.returns-in-Lsub
returns-in-Lsub c =
    let at = goal.at.returns-in-Lsub c in
    answers_as (arm at.After-word_of _ c.in-Lsub.is c.read_lsub.ensures) (spaced at.In_ok-third) (λ u. u)

pub returns-in-Subscribe : goal.returns-in-Subscribe
returns-in-Subscribe c =
    let at = goal.at.returns-in-Subscribe c in
    answers_as (arm at.After-word_of _ c.in-Subscribe.is (asks_subscribe _ _ _ c.read_edit.ensures)) (spaced at.In_ok-third) (λ u. u)

pub returns-in-Unsubscribe : goal.returns-in-Unsubscribe
returns-in-Unsubscribe c =
    let at = goal.at.returns-in-Unsubscribe c in
    answers_as (arm at.After-word_of _ c.in-Unsubscribe.is (asks_unsubscribe _ _ _ c.read_edit-in-Unsubscribe.ensures)) (spaced at.In_ok-third)
    (λ u. u)

pub returns-in-Other : goal.returns-in-Other
returns-in-Other c =
    let at = goal.at.returns-in-Other c in
    refuses _ NoWord (spaced at.In_ok-third ∙ by_word at.After-word_of _ c.in-Other.is ∙ other_word _ _)
