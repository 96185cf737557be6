-- `read_option`: a word, and perhaps a value after it. Rests on Listing, and on Binds of command_tokens.
use Rattle.listing_rules.proofs.Prelude.{sym, arith}
use Rattle.command_tokens.proofs.Binds.{token_found, token_missing, bare_ahead, behind_at, behind_nothing, behind_ahead}
use Rattle.command_line.specs.OptionSets.{written_is, WrittenIn}
use Rattle.command_line.proofs.Listing.{option_off, option_bare, option_broken, option_valued}
use Rattle.command_line.proofs.option_list.read_option.Goals as goal

pub returns-in_err-word : goal.returns-in_err-word
unfolding written_is WrittenIn
returns-in_err-word c = rw c.from_residual.ensures (record {
  result_value = sym (option_off _ (token_missing _ c.atom.ensures.result_value c.in_err-word.was));
  written_in = tt;
})

-- no value
pub returns-in_default : goal.returns-in_default
unfolding written_is WrittenIn
returns-in_default c =
    let word = c.in_ok-word.was in
    let w = bare_ahead _ _ c.atom.ensures.bare_in word in record {
      result_value = sym (option_bare _ _ _ (token_found _ c.atom.ensures.result_value word) (behind_nothing _ c.opening.ensures.result_value c.in_default.is));
      written_in = (w.bare, w.ahead.past, w.ahead.inside);
    }

-- a value off the grammar
pub returns-in_err-value : goal.returns-in_err-value
unfolding written_is WrittenIn
returns-in_err-value c =
    let word = token_found _ c.atom.ensures.result_value c.in_ok-word.was in
    let inside = behind_at _ c.opening.ensures.result_value c.in-Some.is in
    rw c.from_residual-in_err-value.ensures (record {
      result_value = sym (option_broken _ _ _ word _ inside (behind_nothing _ c.value.ensures.result_value c.in_err-value.was));
      written_in = tt;
    })

-- a value
pub returns : goal.returns
unfolding written_is WrittenIn
returns c =
    let word = c.in_ok-word.was in
    let inside = c.in-Some.is in
    let rest = c.in_ok-value.was in
    let w = bare_ahead _ _ c.atom.ensures.bare_in word in
    let o = behind_ahead _ _ c.opening.ensures.behind_in inside in
    let v = behind_ahead _ _ c.value.ensures.behind_in rest in record {
      result_value = sym (option_valued _ _ _ (token_found _ c.atom.ensures.result_value word) _ (behind_at _ c.opening.ensures.result_value inside) _ (behind_at _ c.value.ensures.result_value rest));
      written_in = (w.bare, omega (arith, w.ahead.past), v.1);
    }
