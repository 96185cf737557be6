-- `luspemaro_collect_packed` meets its contract: the promise of `collector::collect_packed`, in C's form.
use Rattle.listing_rules.proofs.Prelude.{◌∙◌, ap}
use Rattle.exports.specs.Outcomes.{allowed_outcome, collected_case}
use Rattle.exports.proofs.OutcomeLaws.{collected_case_lem, collected_allowed, whole_outcome}
use Rattle.exports.proofs.luspemaro_collect_packed.Goals as goal

pub returns : goal.returns
returns c =
    record { result = c.from.ensures ∙ ap collected_case c.collect_packed.ensures.result ∙ collected_case_lem _; scratch = c.collect_packed.ensures.scratch; found = c.collect_packed.ensures.found; pending = c.collect_packed.ensures.pending; demand3 = λ is ok lawful. whole_outcome _ c.from.ensures (c.collect_packed.ensures.demand3 is ok lawful); numbers = ap allowed_outcome c.from.ensures ∙ collected_allowed _ c.collect_packed.ensures.numbers }
