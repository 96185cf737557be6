-- `luspemaro::run` meets its contract. The loop's invariant: the memory holds what the bytes read so far leave.
-- Rests on ServeLaws.
use Rattle.luspemaro.proofs.ServeLaws.{stands_first, stands_on, stands_ran}
use Rattle.listing_rules.proofs.Prelude.{◌∙◌, not-false, not-true, refl, sym, false≢true, arith}
use Rattle.luspemaro.proofs.run.Goals as goal

pub loop-turn-init : goal.loop-turn-init
loop-turn-init c =
    (rw c.start-place.ensures (stands_first _ _ c.requires), refl, refl, refl, refl, refl)

pub read_on-place-requires : goal.read_on-place-requires
read_on-place-requires c =
    c.loop-turn.invariant.0.ready_on

pub loop-turn-preserved : goal.loop-turn-preserved
loop-turn-preserved c = (
  stands_on c.loop-turn.invariant.0 (not-false _ c.if-not-place.false) _ (omega (arith, c.loop-turn-test.true)) c.read_on-place.ensures,
  c.read_on-place.auto.table ∙ c.loop-turn.invariant.1,
  c.read_on-place.auto.records ∙ c.loop-turn.invariant.2,
  c.read_on-place.auto.namespaces ∙ c.loop-turn.invariant.3,
  c.read_on-place.auto.line ∙ c.loop-turn.invariant.4,
  c.read_on-place.auto.out ∙ c.loop-turn.invariant.5,
)

pub returns-after-loop-turn : goal.returns-after-loop-turn
returns-after-loop-turn c = stands_ran c.loop-turn.invariant.0 (λ m. omega arith)

pub returns-then-not-place : goal.returns-then-not-place
returns-then-not-place c =
    stands_ran c.loop-turn.invariant.0 (λ m. absurd
    (false≢true (sym (not-true _ c.if-not-place.true) ∙ m)))
