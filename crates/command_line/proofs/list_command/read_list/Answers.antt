-- `read_list`: part by part off the grammar, or what is kept of the parts, judged. Rests on Grammar, Refusing, Judging and Listing.
use Rattle.listing_rules.proofs.Prelude.{◌∙◌, ◌≡◌, ap, subst, sym, ◌&&◌, ◌<◌, ◌^◌, ℕ, drop}
use Rattle.std.specs.Prelude.{Err}
use Rattle.std.proofs.Common.{rules}
use Rattle.octets.specs.declared.refusals.Refusal.TheVariants.{Grammar}
use Rattle.listing_rules.specs.Bytes.{text}
use Rattle.listing_rules.specs.Tokens.{got, after}
use Rattle.listing_rules.specs.Command.{is_some}
use Rattle.command_tokens.specs.Spans.{span_bytes}
use Rattle.command_tokens.proofs.Binds.{token_found, token_missing, token_ahead, behind_at, behind_nothing}
use Rattle.command_tokens.proofs.Cuts.{lies_ahead}
use Rattle.command_patterns.specs.Places.{kept}
use Rattle.command_patterns.proofs.Filling.{patterns_behind, patterns_nothing, patterns_placed}
use Rattle.command_line.specs.declared.reading.Word.TheVariants.{List}
use Rattle.command_line.specs.OptionSets.{options_is, marks_read}
use Rattle.command_line.specs.Words.{worded_as}
use Rattle.command_line.specs.Commands.{arguments_is, decided}
use Rattle.command_line.proofs.Members.{both_seven}
use Rattle.command_line.proofs.Listing.{listed_read, listed_broken}
use Rattle.command_line.proofs.Judging.{refuses, answers_as}
use Rattle.command_line.proofs.Refusing.{read_on, read_off, reference_off, reference_alone, reference_read}
use Rattle.command_line.proofs.Grammar.{after_selection, after_space, after_patterns, list_is}
use Rattle.command_line.proofs.list_command.read_list.Goals as goal
use Rattle.command_line.proofs.list_command.read_list.Goals.{In_ok-selection, In_ok-fourth, In_ok-patterns}

pub returns-in_err-selection : goal.returns-in_err-selection
unfolding worded_as
returns-in_err-selection c =
    let off : c.from_residual.result ≡ Err Grammar = search rules in
    rw off (refuses _ Grammar (list_is _ _ ∙ read_off 4 _
    (listed_broken _ c.read_selection.ensures c.in_err-selection.ensures.ok_part)))

-- the selection options
selected : (c : In_ok-selection) → worded_as List (span_bytes c.args.text.now c.args.tag) (drop c.args.first.at c.args.text.now) ≡
    after_selection (span_bytes c.args.text.now c.args.tag) (is_some (after (text " (") (drop c.args.first.at c.args.text.now)))
    (got (marks_read c.in_ok-selection.selection) (drop c.in_ok-selection.selection.behind.at c.args.text.now))
unfolding worded_as
selected c = list_is _ _ ∙ read_on 4 (after_selection _ _) (listed_read _ c.read_selection.ensures c.in_ok-selection.ensures.ok_part)

pub returns-in_err-reference : goal.returns-in_err-reference
unfolding after_selection got
returns-in_err-reference c =
    let off : c.from_residual-in_err-reference.result ≡ Err Grammar = search rules in
    rw off (refuses _ Grammar (selected (goal.at.returns-in_err-reference c).In_ok-selection ∙ reference_off _ _
    (token_missing _ c.argument.ensures.result_value c.in_err-reference.ensures.ok_part)))

pub returns-in_err-fourth : goal.returns-in_err-fourth
unfolding after_selection got
returns-in_err-fourth c =
    let off : c.from_residual-in_err-fourth.result ≡ Err Grammar = search rules in
    rw off (refuses _ Grammar (selected (goal.at.returns-in_err-fourth c).In_ok-selection ∙ reference_alone _ _ _ _
    (token_found _ c.argument.ensures.result_value c.in_ok-reference.ensures.ok_part)
    (behind_nothing _ c.space.ensures.result_value c.in_err-fourth.ensures.ok_part)))

-- the reference and the space before the patterns
spaced : (c : In_ok-fourth) →
    after_selection (span_bytes c.args.text.now c.args.tag) (is_some (after (text " (") (drop c.args.first.at c.args.text.now)))
    (got (marks_read c.in_ok-selection.selection) (drop c.in_ok-selection.selection.behind.at c.args.text.now)) ≡
    after_space (span_bytes c.args.text.now c.args.tag) (is_some (after (text " (") (drop c.args.first.at c.args.text.now)))
    (marks_read c.in_ok-selection.selection) (span_bytes c.args.text.now c.in_ok-reference.reference)
    (drop c.in_ok-fourth.fourth.at c.args.text.now)
unfolding after_selection got
spaced c =
    reference_read _ (after_space _ _ _) _ _ (token_found _ c.argument.ensures.result_value c.in_ok-reference.ensures.ok_part) _
    (behind_at _ c.space.ensures.result_value c.in_ok-fourth.ensures.ok_part)

pub returns-in_err-patterns : goal.returns-in_err-patterns
unfolding after_space
returns-in_err-patterns c =
    let off : c.from_residual-in_err-patterns.result ≡ Err Grammar = search rules in
    let at = goal.at.returns-in_err-patterns c in
    rw off (refuses _ Grammar (selected at.In_ok-selection ∙ spaced at.In_ok-fourth ∙ read_off 4 _
    (patterns_nothing _ c.read_patterns.ensures.result_value c.in_err-patterns.ensures.ok_part)))

-- the patterns
listed : (c : In_ok-patterns) →
    after_space (span_bytes c.args.text.now c.args.tag) (is_some (after (text " (") (drop c.args.first.at c.args.text.now)))
    (marks_read c.in_ok-selection.selection) (span_bytes c.args.text.now c.in_ok-reference.reference)
    (drop c.in_ok-fourth.fourth.at c.args.text.now) ≡
    after_patterns (span_bytes c.args.text.now c.args.tag) (is_some (after (text " (") (drop c.args.first.at c.args.text.now)))
    (marks_read c.in_ok-selection.selection) (span_bytes c.args.text.now c.in_ok-reference.reference)
    (drop c.in_ok-fourth.fourth.at c.args.text.now)
    (got (kept c.args.text.now c.in_ok-patterns.patterns) (drop c.in_ok-patterns.fifth.at c.args.text.now))
unfolding after_space
listed c =
    read_on 4 (after_patterns _ _ _ _ _) (patterns_behind _ c.read_patterns.ensures.result_value c.in_ok-patterns.ensures.ok_part)

pub returns-in_err-returns : goal.returns-in_err-returns
unfolding after_patterns got
returns-in_err-returns c =
    let off : c.from_residual-in_err-returns.result ≡ Err Grammar = search rules in
    let at = goal.at.returns-in_err-returns c in
    rw off (refuses _ Grammar
    (selected at.In_ok-selection ∙ spaced at.In_ok-fourth ∙ listed at.In_ok-patterns ∙ read_off 4 _ (listed_broken _ c.read_returns.ensures
    c.in_err-returns.ensures.ok_part)))

-- the return options, and the judgement
pub returns : goal.returns
unfolding arguments_is after_patterns got
returns c =
    let at = goal.at.returns c in
    let line = c.args.text.now in
    let returned = listed_read _ c.read_returns.ensures c.in_ok-returns.ensures.ok_part in
    let read = selected at.In_ok-selection ∙ spaced at.In_ok-fourth ∙ listed at.In_ok-patterns ∙ read_on 4 _ returned in
    answers_as c.judge.ensures (read ∙ ap (decided (span_bytes line c.args.tag))
    (λ i. record {
      known = c.in_ok-selection.selection.known && c.in_ok-returns.returns.known;
      set = options_is (record { bits = sym c.union.ensures i });
      extended = sym c.is_extended.ensures i;
      reference = span_bytes line c.in_ok-reference.reference;
      pats = kept line c.in_ok-patterns.patterns;
    }))
    (λ h. record {
      tagged = h;
      seven =
          subst (λ (x : ℕ). x < 2 ^ 7) (sym c.union.ensures)
          (both_seven _ _ _ _ _ _ (listed_read _ c.read_selection.ensures c.in_ok-selection.ensures.ok_part) returned);
      reference = lies_ahead _ _ _ _ (token_ahead _ _ c.argument.ensures.token_in c.in_ok-reference.ensures.ok_part);
      patterns = patterns_placed _ c.read_patterns.ensures.placed c.in_ok-patterns.ensures.ok_part;
    })
