-- `replay::verdict::finish` meets its contract: the state's numbers decide, one by one. By FinishLaws.
use Rattle.listing_rules.proofs.Prelude.{eq-eqb, ne_eqb}
use Rattle.replay.proofs.FinishLaws.{finishes}
use Rattle.replay.proofs.verdict.finish.Goals as goal

pub returns-then-state : goal.returns-then-state
returns-then-state c = finishes _ _ (rw c.if-state.true)

pub returns-then-state-ne0 : goal.returns-then-state-ne0
returns-then-state-ne0 c =
    finishes _ _ (rw (c.if-state.false, ne_eqb _ _ c.if-state-ne0.true, c.advance.ensures))

pub returns-then-state-ne0-2 : goal.returns-then-state-ne0-2
returns-then-state-ne0-2 c =
    finishes _ _ (rw (c.if-state.false, eq-eqb _ _ c.if-state-ne0.false, ne_eqb _ _ c.if-state-ne0-2.true))

pub returns-then-state-ne0-3 : goal.returns-then-state-ne0-3
returns-then-state-ne0-3 c =
    finishes _ _ (rw (c.if-state.false, eq-eqb _ _ c.if-state-ne0.false, eq-eqb _ _ c.if-state-ne0-2.false, ne_eqb _ _ c.if-state-ne0-3.true))

pub returns : goal.returns
returns c =
    finishes _ _ (rw (c.if-state.false, eq-eqb _ _ c.if-state-ne0.false, eq-eqb _ _ c.if-state-ne0-2.false, eq-eqb _ _ c.if-state-ne0-3.false))
