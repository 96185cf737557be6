-- `look_at_ends` is the definition, by the bytes at the last places. Rests on OneStep.
use Rattle.pattern.specs.Steps.{apart}
use Rattle.pattern.proofs.OneStep.{looked_apart, looked_alike}
use Rattle.pattern.proofs.front.look_at_ends.Goals as goal

pub returns-then-c-name : goal.returns-then-c-name
unfolding apart
returns-then-c-name c =
    looked_apart _ _ _ c.args.at _ c.letter-c.ensures c.if-c-name.true c.leads.ensures

pub returns : goal.returns
unfolding apart
returns c =
    looked_alike _ _ _ c.args.at _ c.letter-c.ensures c.if-c-name.false c.leads-2.ensures
