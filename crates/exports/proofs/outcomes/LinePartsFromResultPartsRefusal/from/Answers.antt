-- `LinePartsFromResultPartsRefusal::from` meets its contract: case by case (`OutcomeLaws`).
use Rattle.exports.proofs.OutcomeLaws.{parts_read, parts_refused}
use Rattle.exports.proofs.outcomes.LinePartsFromResultPartsRefusal.from.Goals as goal

pub returns-in-Ok : goal.returns-in-Ok
returns-in-Ok c = parts_read _ _ c.in-Ok.is

pub returns-in-Err : goal.returns-in-Err
returns-in-Err c =
    parts_refused _ _ _ _ c.in-Err.is c.number.ensures c.filled-name.ensures
