-- `server::reading::respond` meets its contract: the reply to the command that was read, by its kind. By Order; the tag by Binds of command_tokens.
use Rattle.listing_rules.proofs.Prelude.{◌∙◌, ◌≡◌, sym, ⊎_elim}
use Rattle.octets.specs.declared.refusals.Refusal.TheVariants.{Word}
use Rattle.command_tokens.specs.Spans.{span_bytes}
use Rattle.command_tokens.proofs.Binds.{bare_bytes}
use Rattle.server.proofs.Order.{refused_with_lem, list_few, reply_spaces, reply_root, reply_list, reply_lsub, reply_subscribe}
use Rattle.server.proofs.Order.{reply_unsubscribe, lsub_one}
use Rattle.server.proofs.reading.respond.Goals as goal

pub write_listing-requires : goal.write_listing-requires
write_listing-requires c =
    let a = c.args in
    list_few a.rows.area.now a.rows.words.now a.namespaces.now _ _ a.asked.reads.means c.in-List.is

pub write_subscriptions-requires : goal.write_subscriptions-requires
write_subscriptions-requires c =
    let a = c.args in
    lsub_one a.rows.area.now a.rows.words.now a.namespaces.now _ _ a.asked.reads.means c.in-Lsub.is

pub returns-in-Namespace : goal.returns-in-Namespace
returns-in-Namespace c =
    let tag_is : let a = c.args in c.raw-tag.result.now ≡ span_bytes a.asked.line.now
    a.asked.command.tag = c.raw-tag.ensures ∙ sym (bare_bytes _ _ c.args.asked.reads.inside.bare) in
    rw (← reply_spaces _ _ _ _ _ c.args.asked.reads.means _ tag_is c.in-Namespace.is) c.write_namespaces.ensures

pub returns-in-Root : goal.returns-in-Root
returns-in-Root c =
    let tag_is : let a = c.args in c.raw-tag.result.now ≡ span_bytes a.asked.line.now
    a.asked.command.tag = c.raw-tag.ensures ∙ sym (bare_bytes _ _ c.args.asked.reads.inside.bare) in
    rw (← reply_root _ _ _ _ _ c.args.asked.reads.means _ tag_is c.in-Root.is) c.write_root.ensures

pub returns-in-List : goal.returns-in-List
returns-in-List c =
    let tag_is : let a = c.args in c.raw-tag.result.now ≡ span_bytes a.asked.line.now
    a.asked.command.tag = c.raw-tag.ensures ∙ sym (bare_bytes _ _ c.args.asked.reads.inside.bare) in
    rw (← reply_list _ _ _ _ _ c.args.asked.reads.means _ tag_is c.in-List.is) c.write_listing.ensures

pub returns-in-Lsub : goal.returns-in-Lsub
returns-in-Lsub c =
    let tag_is : let a = c.args in c.raw-tag.result.now ≡ span_bytes a.asked.line.now
    a.asked.command.tag = c.raw-tag.ensures ∙ sym (bare_bytes _ _ c.args.asked.reads.inside.bare) in
    rw (← reply_lsub _ _ _ _ _ c.args.asked.reads.means _ tag_is c.in-Lsub.is)
    c.write_subscriptions.ensures

pub returns-in-Subscribe : goal.returns-in-Subscribe
returns-in-Subscribe c =
    ⊎_elim (λ e. rw (← reply_subscribe _ _ _ _ _ c.args.asked.reads.means e) (refused_with_lem Word _))
    (λ e. rw (← reply_unsubscribe _ _ _ _ _ c.args.asked.reads.means e) (refused_with_lem Word _)) c.in-Subscribe.is
