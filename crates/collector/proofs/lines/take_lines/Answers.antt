-- `take_lines` meets its contract. The loop's invariant is `Taking`: the lines that are left give what all lines give (`AnswerLaws`).
use Rattle.std.proofs.lemmas.Result.{err_from_is_err_and}
use Rattle.std.proofs.Common.{rules, tests}
use Rattle.std.proofs.lemmas.List.{length_push}
use Rattle.std.proofs.lemmas.Fn.{always_returns_same}
use Rattle.std.proofs.lemmas.Iterator.Consumers.{YieldsList-turn, YieldsList-end}
use Rattle.std.specs.Slice.Iter.{split_inclusive_rest, split_inclusive_callee}
use Rattle.listing_rules.proofs.Prelude.{◌∙◌, ◌≡◌, ap, add-one, List, ℕ, length}
use Rattle.listing_rules.specs.Walk.{lines_of}
use Rattle.collector.proofs.LineLaws.{feeds, yields_lines}
use Rattle.collector.proofs.AnswerLaws.{taking_line, taking_refused, taking_end}
use Rattle.collector.proofs.lines.take_lines.Goals as goal

pub loop-line-preserved : goal.loop-line-preserved
loop-line-preserved c =
    let s = c.into_iter-line-iterator.result in
    let rest : split_inclusive_rest s ≡ c.args.answer.now = cc in
    let feed = always_returns_same _ (λ a r. r ≡ feeds a.0.now) (split_inclusive_callee s) (λ a r f' k. search (rules, tests)) in
    let road = yields_lines split_inclusive_rest split_inclusive_callee _ s feed in
    let turn = YieldsList-turn road c.loop-line.yielded _ c.loop-line.yielded_by _ _ c.in-Some.line c.in-Some.is c.next.ensures.steps in
    let lies = rw rest at turn in
    taking_line c.loop-line.invariant c.in-Some.line.now lies.0 lies.1 (length_push c.loop-line.yielded c.in-Some.line ∙ add-one _)
    c.in_ok-progress.ensures c.take_line.auto.found c.take_line.auto.pending

pub returns-in_err-progress : goal.returns-in_err-progress
returns-in_err-progress c =
    let s = c.into_iter-line-iterator.result in
    let rest : split_inclusive_rest s ≡ c.args.answer.now = cc in
    let feed = always_returns_same _ (λ a r. r ≡ feeds a.0.now) (split_inclusive_callee s) (λ a r f' k. search (rules, tests)) in
    let road = yields_lines split_inclusive_rest split_inclusive_callee _ s feed in
    let turn = YieldsList-turn road c.loop-line.yielded _ c.loop-line.yielded_by _ _ c.in-Some.line c.in-Some.is c.next.ensures.steps in
    let lies = rw rest at turn in
    let p = err_from_is_err_and c.from_residual.result c.from_residual.ensures.1 in
    rw (p.1, p.2) (taking_refused c.loop-line.invariant c.in-Some.line.now lies.0 lies.1 c.in_err-progress.ensures)

pub returns : goal.returns
returns c =
    let s = c.into_iter-line-iterator.result in
    let rest : split_inclusive_rest s ≡ c.args.answer.now = cc in
    let feed = always_returns_same _ (λ a r. r ≡ feeds a.0.now) (split_inclusive_callee s) (λ a r f' k. search (rules, tests)) in
    let road = yields_lines split_inclusive_rest split_inclusive_callee _ s feed in
    let end = YieldsList-end road c.loop-line.yielded _ c.loop-line.yielded_by _ _ c.in-None.is c.next.ensures.steps in
    taking_end c.loop-line.invariant (end.1 ∙ ap (λ (l : List ℕ). length (lines_of l)) rest)
