-- `read_returns`: nothing, or RETURN and a list that the line ends with, part by part. Rests on Returning and Listing.
use Rattle.listing_rules.proofs.Prelude.{◌∙◌, ◌≡◌, ap, sym, true, Option, some, List, ℕ, drop, drop_of_length-le}
use Rattle.listing_rules.specs.Bytes.{text, spells}
use Rattle.listing_rules.specs.Tokens.{Got, got, after}
use Rattle.listing_rules.specs.Command.{options, return_part}
use Rattle.command_tokens.specs.Spans.{span_bytes}
use Rattle.command_tokens.proofs.Binds.{bind_none, bind_go, token_found, token_missing, bare_ahead, bare_bytes, behind_at, behind_nothing}
use Rattle.command_line.specs.declared.option_list.Place.TheVariants.{Return}
use Rattle.command_line.specs.OptionSets.{Marks, no_marks, marks_of, marks_read, listed_is, ended}
use Rattle.command_line.proofs.Listing.{listed_read, listed_broken}
use Rattle.command_line.proofs.Returning.{at_end, after_return, after_space, empty_out, empty_not, return_is, return_none, word_return}
use Rattle.command_line.proofs.Returning.{word_other, at_end_lem, not_at_end, no_end}
use Rattle.command_line.proofs.option_list.read_returns.Goals as goal
use Rattle.command_line.proofs.option_list.read_returns.Goals.{In_ok-word, After-spells_word}

-- ---- what the line gives, part by part

-- after the space and the word
worded : (c : In_ok-word) → marks_of Return (ended (return_part (drop c.args.here.at c.args.text.now))) ≡
    after_return (got (span_bytes c.args.text.now c.in_ok-word.word) (drop c.in_ok-word.rest.at c.args.text.now))
unfolding after_space
worded c =
    return_is _ _ c.if-text-here.false ∙ bind_go _ (behind_at _ c.space.ensures.result_value c.in_ok-next.was)
    ∙ bind_go _ (token_found _ c.atom.ensures.result_value c.in_ok-word.was)

-- the word is RETURN or another
spelled : (c : After-spells_word) → spells (span_bytes c.args.text.now c.in_ok-word.word) (text "RETURN") ≡ c.spells_word.result
unfolding text
spelled c =
    let bare = (bare_ahead _ _ c.atom.ensures.bare_in c.in_ok-word.was).bare in
    ap (λ (x : List ℕ). spells x (text "RETURN")) (bare_bytes _ _ bare ∙ sym c.raw.ensures) ∙ sym c.spells_word.ensures

-- and after the opening parenthesis
listed : {x : Option (Got Marks)} (w u : List ℕ) {v : List ℕ} → x ≡ after_return (got w u) → spells w (text "RETURN") ≡ true → after (text " (") u ≡ some v →
    x ≡ at_end (marks_of Return (options v))
unfolding after_return
listed w u e r o = e ∙ bind_go _ (word_return _ _ _ r o)

-- ---- the answers

-- the line ends
pub returns-then-text-here : goal.returns-then-text-here
unfolding listed_is got
returns-then-text-here c =
    let line : List ℕ = c.args.text.now in
    rw c.none.ensures
    (ap (λ (x : List ℕ). some (got no_marks x)) (drop_of_length-le line c.if-text-here.true) ∙ sym (return_none line _ c.if-text-here.true))

pub returns-in_err-next : goal.returns-in_err-next
unfolding listed_is
returns-in_err-next c =
    let line : List ℕ = c.args.text.now in
    rw c.from_residual.ensures
    (sym (return_is line _ c.if-text-here.false ∙ bind_none _ (behind_nothing _ c.space.ensures.result_value c.in_err-next.was)))

pub returns-in_err-word : goal.returns-in_err-word
unfolding listed_is after_space
returns-in_err-word c =
    let line : List ℕ = c.args.text.now in
    let spaced = return_is line _ c.if-text-here.false ∙ bind_go _ (behind_at _ c.space.ensures.result_value c.in_ok-next.was) in
    rw c.from_residual-in_err-word.ensures (sym (spaced ∙ bind_none _ (token_missing _ c.atom.ensures.result_value c.in_err-word.was)))

-- another word
pub returns-then-not-spells_word : goal.returns-then-not-spells_word
unfolding listed_is after_return
returns-then-not-spells_word c =
    let at = goal.at.returns-then-not-spells_word c in
    sym (worded at.In_ok-word ∙ bind_none _ (word_other _ _ (spelled at.After-spells_word ∙ c.if-not-spells_word.true)))

-- RETURN, and no list
pub returns-in_err-inside : goal.returns-in_err-inside
unfolding listed_is after_return
returns-in_err-inside c =
    let at = goal.at.returns-in_err-inside c in
    rw c.from_residual-in_err-inside.ensures
    (sym (worded at.In_ok-word ∙ bind_none _ (word_return _ _ _ (spelled at.After-spells_word ∙ c.if-not-spells_word.false)
    (behind_nothing _ c.opening.ensures.result_value c.in_err-inside.was))))

-- a list off the grammar
pub returns-in_err-list : goal.returns-in_err-list
unfolding listed_is
returns-in_err-list c =
    let at = goal.at.returns-in_err-list c in
    let inside = listed _ _ (worded at.In_ok-word) (spelled at.After-spells_word ∙ c.if-not-spells_word.false) (behind_at _ c.opening.ensures.result_value c.in_ok-inside.was) in
    rw c.from_residual-in_err-list.ensures (sym (inside ∙ no_end (listed_broken _ c.read_options.ensures c.in_err-list.was)))

-- something stands after the list
pub returns-then-list-text : goal.returns-then-list-text
unfolding listed_is
returns-then-list-text c =
    let at = goal.at.returns-then-list-text c in
    let inside = listed _ _ (worded at.In_ok-word) (spelled at.After-spells_word ∙ c.if-not-spells_word.false) (behind_at _ c.opening.ensures.result_value c.in_ok-inside.was) in
    let list = listed_read _ c.read_options.ensures c.in_ok-list.was in
    sym (inside ∙ not_at_end _ _ list (empty_not c.args.text.now _ c.if-list-text.true))

-- the line ends with the list
pub returns : goal.returns
unfolding listed_is got
returns c =
    let line : List ℕ = c.args.text.now in
    let at = goal.at.returns c in
    let inside = listed _ _ (worded at.In_ok-word) (spelled at.After-spells_word ∙ c.if-not-spells_word.false) (behind_at _ c.opening.ensures.result_value c.in_ok-inside.was) in
    let list = listed_read _ c.read_options.ensures c.in_ok-list.was in
    let end = c.in_ok-list.list.behind.at in
    ap (λ (x : List ℕ). some (got (marks_read c.in_ok-list.list) x)) (drop_of_length-le line c.if-list-text.false) ∙ sym
    (inside ∙ at_end_lem _ _ list (empty_out line end c.if-list-text.false))
