-- `match_steps` meets its contract: a name in reach is matched as `matches` does, step by step. Rests on Running.
use Rattle.listing_rules.proofs.Prelude.{◌∙◌, sym, arith}
use Rattle.pattern.proofs.Folded.{long_name, short_name, matches_folded}
use Rattle.pattern.proofs.Running.{counted_long, counted_most, counted_short}
use Rattle.pattern.proofs.match_steps.Goals as goal

pub returns-then-name-gt-MAX_NAME : goal.returns-then-name-gt-MAX_NAME
returns-then-name-gt-MAX_NAME c =
    let long = c.if-name-gt-MAX_NAME.true in
    record { matched_value = long_name c.args.name.now _ long; steps_bound = omega arith; value = sym (counted_long _ _ long) }

pub returns : goal.returns
returns c =
    let ran = c.run_steps.ensures in
    let short = c.if-name-gt-MAX_NAME.false in
    let folds = c.is_inbox.ensures in
    record {
      matched_value = short_name c.args.name.now _ _ short (ran.right ∙ matches_folded _ _ _ folds);
      steps_bound = counted_most _ _ _ _ ran;
      value = counted_short _ _ _ _ short folds ran;
    }
