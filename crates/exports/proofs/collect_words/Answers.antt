-- `exports::collect_words` meets its contract: the promise of `collector::collect_words`, in C's form.
use Rattle.listing_rules.proofs.Prelude.{◌∙◌, ap}
use Rattle.exports.specs.Outcomes.{allowed_outcome, collected_case}
use Rattle.exports.proofs.OutcomeLaws.{collected_case_lem, collected_allowed, whole_outcome}
use Rattle.exports.proofs.collect_words.Goals as goal

pub returns : goal.returns
returns c =
    record { result = c.from.ensures ∙ ap collected_case c.collect_words.ensures.result ∙ collected_case_lem _; scratch = c.collect_words.ensures.scratch; found = c.collect_words.ensures.found; pending = c.collect_words.ensures.pending; demand3 = λ is ok lawful. whole_outcome _ c.from.ensures (c.collect_words.ensures.demand3 is ok lawful); numbers = ap allowed_outcome c.from.ensures ∙ collected_allowed _ c.collect_words.ensures.numbers }
