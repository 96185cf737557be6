-- `matches_any` meets its contract: some pattern from here on matches exactly if some of the whole does.
use Rattle.listing_rules.proofs.Prelude.{◌∙◌, refl, sym, arith}
use Rattle.pattern.proofs.Folded.{long_name, short_name}
use Rattle.pattern.proofs.Chosen.{match_here, match_later, match_end}
use Rattle.pattern.proofs.matches_any.Goals as goal

pub returns-then-name-gt-MAX_NAME : goal.returns-then-name-gt-MAX_NAME
returns-then-name-gt-MAX_NAME c =
    long_name c.args.name.now _ c.if-name-gt-MAX_NAME.true

pub loop-at-init : goal.loop-at-init
loop-at-init c = (omega arith, refl)

pub returns-then-chosen_match : goal.returns-then-chosen_match
returns-then-chosen_match c =
    let more = c.loop-at-test.true in
    let item = c.item_end-end.ensures in
    let found = match_here _ _ _ more item _ _ _ c.is_inbox-fold.ensures _ c.chosen_match.ensures c.if-chosen_match.true in
    short_name c.args.name.now _ _ c.if-name-gt-MAX_NAME.false (sym found ∙ c.loop-at.invariant.1)

pub loop-at-preserved : goal.loop-at-preserved
loop-at-preserved c =
    let more = c.loop-at-test.true in
    let item = c.item_end-end.ensures in
    let onward = match_later _ _ _ more item _ _ _ c.is_inbox-fold.ensures _ c.chosen_match.ensures c.if-chosen_match.false in
    (omega arith, sym onward ∙ c.loop-at.invariant.1)

pub returns : goal.returns
returns c =
    short_name c.args.name.now _ _ c.if-name-gt-MAX_NAME.false (sym (match_end _ _ c.loop-at-test.false _ _) ∙ c.loop-at.invariant.1)
