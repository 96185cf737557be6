-- `luspemaro::serving::answer_end` meets its contract: what is said is sent. Rests on ServeLaws.
use Rattle.luspemaro.proofs.ServeLaws.{ends}
use Rattle.listing_rules.proofs.Prelude.{rules}
use Rattle.luspemaro.proofs.serving.answer_end.Goals as goal

pub finish-written-requires : goal.finish-written-requires
finish-written-requires c = search rules

pub send-requires : goal.send-requires
send-requires c = search rules

pub returns : goal.returns
returns c =
    ends {n = c.finish-written.result} c.send.result c.requires c.finish-written.ensures c.send.ensures
