-- `replay::gathering::line_end` meets its contract: the first line feed after the place, or the end. By GatherLaws.
use Rattle.std.proofs.Common.{rules, tests}
use Rattle.std.proofs.lemmas.Iterator.{YieldsList-from_slice}
use Rattle.std.proofs.lemmas.Iterator.Search.{position_from_yields_List}
use Rattle.listing_rules.proofs.Prelude.{◌∙◌, ◌≡◌, ap, List, ℕ, ◌+◌, ◌-◌, arith, drop, eqb, length, length-drop, take, take_all}
use Rattle.replay.specs.Gathering.{before_feed}
use Rattle.replay.proofs.GatherLaws.{before_found, before_inside}
use Rattle.replay.proofs.gathering.line_end.Goals as goal

pub overflow_add-result : goal.overflow_add-result
overflow_add-result c =
    let s = c.args.chunk.now in
    let at = c.args.at in
    let whole : take (length s - at) (drop at s) ≡ drop at s = take_all (length s - at) (drop at s) (omega (arith, length-drop at s)) in
    let by_call = position_from_yields_List (λ x. eqb x 10) _ _ c.position.result c.position.ensures.ran (YieldsList-from_slice (take (length s - at) (drop at s)) cc)
    (λ x b q k. search (rules, tests)) in
    let found = before_found (take (length s - at) (drop at s)) c.position.result _ by_call c.unwrap_or.ensures in
    omega (arith, found, before_inside (take (length s - at) (drop at s)), ap length whole, length-drop at s, c.requires)

pub returns : goal.returns
returns c =
    let s = c.args.chunk.now in
    let at = c.args.at in
    let whole : take (length s - at) (drop at s) ≡ drop at s = take_all (length s - at) (drop at s) (omega (arith, length-drop at s)) in
    let by_call = position_from_yields_List (λ x. eqb x 10) _ _ c.position.result c.position.ensures.ran (YieldsList-from_slice (take (length s - at) (drop at s)) cc)
    (λ x b q k. search (rules, tests)) in
    let found = before_found (take (length s - at) (drop at s)) c.position.result _ by_call c.unwrap_or.ensures in
    ap (λ (n : ℕ). at + n) (found ∙ ap (λ (l : List ℕ). length (before_feed l)) whole)
