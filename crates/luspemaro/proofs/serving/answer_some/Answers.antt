-- `luspemaro::serving::answer_some` meets its contract: what is fed is sent. Rests on ServeLaws.
use Rattle.luspemaro.proofs.ServeLaws.{rounds}
use Rattle.luspemaro.proofs.serving.answer_some.Goals as goal

pub returns : goal.returns
returns c =
    rounds c.feed_all-turn.ensures c.send-sent.ensures
