-- `kept_table::commands::read_line` meets its contract: what the server answers, as a line. Rests on ObeyLaws.
use Rattle.listing_rules.proofs.Prelude.{◌∙◌, ◌≡◌, ap, ℕ, length, length-replicate}
use Rattle.listing_rules.specs.Readers.{packed_seen}
use Rattle.listing_rules.specs.Server.{served_to, buffer_after}
use Rattle.octets.specs.Refusals.{numbered}
use Rattle.octets.specs.Written.{written_is}
use Rattle.server.proofs.ReadLaws.{gives_served_to}
use Rattle.kept_table.proofs.ObeyLaws.{reply_fits, reads_line}
use Rattle.kept_table.proofs.commands.read_line.Goals as goal

pub put_reply-requires : goal.put_reply-requires
put_reply-requires c =
    let sized : length c.filled-answer.result ≡ 16384 = ap length c.filled-answer.ensures ∙ length-replicate {A = ℕ} 16384 0 in
    let said : let a = c.args in
    let reply = served_to a.reader (packed_seen a.reader a.table.now) a.namespaces.now a.command.now
    c.filled-answer.result in
    (numbered c.read_packed-written.result ≡ written_is reply) × (c.read_packed-written.new.out ≡ buffer_after c.filled-answer.result reply) = gives_served_to _ _ _ _ _ _ _ c.requires.command_value c.read_packed-written.ensures in
    reply_fits _ _ _ said.0 said.1 (c.read_packed-written.auto.out ∙ sized)

pub returns : goal.returns
returns c =
    let sized : length c.filled-answer.result ≡ 16384 = ap length c.filled-answer.ensures ∙ length-replicate {A = ℕ} 16384 0 in
    let said : let a = c.args in
    let reply = served_to a.reader (packed_seen a.reader a.table.now) a.namespaces.now a.command.now
    c.filled-answer.result in
    (numbered c.read_packed-written.result ≡ written_is reply) × (c.read_packed-written.new.out ≡ buffer_after c.filled-answer.result reply) = gives_served_to _ _ _ _ _ _ _ c.requires.command_value c.read_packed-written.ensures in
    reads_line _ _ _ _ _ _ _ _ _ _ sized c.requires.table_len_bound c.requires.command_value said.0 said.1
    c.put_reply.ensures
