-- `OutcomeFromResultWalkedRefusal::from` meets its contract: case by case (`OutcomeLaws`).
use Rattle.exports.proofs.OutcomeLaws.{collected_done, collected_refused}
use Rattle.exports.proofs.outcomes.OutcomeFromResultWalkedRefusal.from.Goals as goal

pub returns-in-Ok : goal.returns-in-Ok
returns-in-Ok c = collected_done _ _ c.in-Ok.is

pub returns-in-Err : goal.returns-in-Err
returns-in-Err c =
    collected_refused _ _ _ c.in-Err.is c.number.ensures
