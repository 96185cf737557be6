-- `Cursor::run`: as many bytes are counted as the longest run has. Rests on Runs.
use Rattle.std.specs.List.{take_while}
use Rattle.std.proofs.Common.{rules, tests}
use Rattle.std.proofs.lemmas.Iterator.{YieldsList-from_slice}
use Rattle.std.proofs.lemmas.Iterator.Consumers.{count_from_yields_List}
use Rattle.std.proofs.lemmas.Iterator.Search.{YieldsList-from_take_while}
use Rattle.listing_rules.proofs.Prelude.{◌∙◌, ◌≡◌, ◌+◌, ◌-◌, ◌≤◌, ap, refl, sym, arith, drop, length, length-drop, take, take_all}
use Rattle.command_tokens.specs.Spans.{span_bytes}
use Rattle.command_tokens.specs.Tokens.{BareIn, class_byte, token_is, run_end}
use Rattle.command_tokens.proofs.Runs.{run_counted, run_missing, run_found}
use Rattle.command_tokens.proofs.Cursor.run.Goals as goal
use Rattle.command_tokens.proofs.Cursor.run.Goals.{After-count-length}

counted : (c : After-count-length) → c.count-length.result ≡ length (take_while (class_byte c.args.class) (drop c.args.self.at c.args.text.now))
counted c =
    count_from_yields_List c.take_while.result _ c.count-length.ensures.ran
    (YieldsList-from_take_while _ (class_byte c.args.class)
    (YieldsList-from_slice (take (length c.args.text.now - c.args.self.at) (drop c.args.self.at c.args.text.now)) cc) c.take_while.ensures.closure c.take_while.ensures.done
    (λ x b q k. search (rules, tests)))
    ∙ ap (λ l. length (take_while (class_byte c.args.class) l)) whole
  where
    whole : take (length c.args.text.now - c.args.self.at) (drop c.args.self.at c.args.text.now) ≡ drop c.args.self.at c.args.text.now
    whole = take_all _ _ (omega (arith, length-drop c.args.self.at c.args.text.now))

-- a place behind the end begins no run
pub returns-then-text-start : goal.returns-then-text-start
unfolding token_is BareIn
returns-then-text-start c =
    let end = run_counted (class_byte c.args.class) c.args.text.now c.args.self.at in
    let none : run_end (class_byte c.args.class) c.args.text.now c.args.self.at ≡ c.args.self.at = omega (arith, c.if-text-start.true, end.0, end.1) in
    record { result_value = sym (run_missing _ _ _ none); bare_in = tt }

pub returns-then-length-eq0 : goal.returns-then-length-eq0
unfolding token_is BareIn
returns-then-length-eq0 c =
    let n = counted (goal.at.returns-then-length-eq0 c).After-count-length in
    let end = run_counted (class_byte c.args.class) c.args.text.now c.args.self.at in
    let none : run_end (class_byte c.args.class) c.args.text.now c.args.self.at ≡ c.args.self.at = omega (arith, n, end) in
    record { result_value = sym (run_missing _ _ _ none); bare_in = tt }

pub returns : goal.returns
unfolding token_is span_bytes BareIn
returns c =
    let n = counted (goal.at.returns c).After-count-length in
    let end = run_counted (class_byte c.args.class) c.args.text.now c.args.self.at in
    let inside : c.args.self.at + c.count-length.result ≤ length c.args.text.now = omega (arith, n, end) in
    record {
      result_value = sym (run_found _ _ _ _ (end.0 ∙ ap (λ x. c.args.self.at + x) (sym n)) (omega arith));
      bare_in = record { bare = refl; front = refl; ahead = record { order = omega arith; within = omega arith; past = omega arith; inside = inside } };
    }
