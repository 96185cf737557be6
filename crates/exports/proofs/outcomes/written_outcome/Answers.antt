-- `written_outcome` meets its contract: case by case (`OutcomeLaws`).
use Rattle.exports.proofs.OutcomeLaws.{written_done, written_refused}
use Rattle.exports.proofs.outcomes.written_outcome.Goals as goal

pub returns-in-Ok : goal.returns-in-Ok
returns-in-Ok c = written_done _ _ _ _ c.in-Ok.is

pub returns-in-Err : goal.returns-in-Err
returns-in-Err c =
    written_refused _ _ _ _ _ c.in-Err.is c.number.ensures
