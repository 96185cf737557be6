-- `put_command` meets its contract: eight writes, one after the other (`put_then`); the options are the definition's (`OptionLaws`).
use Rattle.listing_rules.proofs.Prelude.{◌∙◌, sym}
use Rattle.listing_rules.proofs.Keys.{open_bytes}
use Rattle.listing_rules.specs.Walk.{command_line}
use Rattle.octets.proofs.Puts.{put_then}
use Rattle.collector.proofs.OptionLaws.{byte_remote, byte_special, byte_subscribed}
use Rattle.collector.proofs.AskLaws.{put_when_as}
use Rattle.collector.proofs.command.put_command.Goals as goal

pub returns : goal.returns
unfolding open_bytes command_line
returns c =
    let options = c.args.options in
    put_then c.put_all-a.ensures
    (put_then (put_when_as _ (c.subscribed.ensures ∙ sym (byte_subscribed options)) c.put_when-b.ensures)
    (put_then c.put_all-c.ensures
    (put_then (put_when_as _ (c.special_use.ensures ∙ sym (byte_special options)) c.put_when-d.ensures)
    (put_then (put_when_as _ (sym (byte_remote options)) c.put_when-e.ensures)
    (put_then c.put_all-f.ensures (put_then c.put_quoted-g.ensures c.put_all.ensures))))))
