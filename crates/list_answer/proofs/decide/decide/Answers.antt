-- `list_answer::decide::decide` meets its contract: what stands and matches is shown. By Showing, what lies below by Deciding.
use Rattle.listing_rules.proofs.Prelude.{◌∙◌, ◌≡◌, refl, sym, ◌&&◌, not-false, not-true}
use Rattle.listing_rules.specs.Listing.{meets_below, has_children}
use Rattle.command_line.specs.OptionSets.{options_is}
use Rattle.mailbox_table.specs.Index.{rows_at}
use Rattle.pattern.specs.Packed.{unpacked}
use Rattle.list_answer.specs.Shown.{begun}
use Rattle.list_answer.proofs.Deciding.{begins_here, meets_below_lem, children_below}
use Rattle.list_answer.proofs.Showing.{shown_not, shown_unmatched, shown_list, shown_lsub}
use Rattle.list_answer.proofs.decide.decide.Goals as goal

pub returns-then-not-standing : goal.returns-then-not-standing
returns-then-not-standing c =
    let a = c.args in
    let table = rows_at _ a.view.words.now in
    let o = options_is _ in
    let ps = unpacked _ in
    let n = begun _ a.view.words.now a.name in
    λ ready at.
    let stands = c.look_at-standing.ensures _ ready at in
    shown_not _ table o ps n _ _ stands.level stands.counts (not-true _ c.if-not-standing.true)

pub returns-then-not-is_matched : goal.returns-then-not-is_matched
returns-then-not-is_matched c =
    let a = c.args in
    let table = rows_at _ a.view.words.now in
    let o = options_is _ in
    let ps = unpacked _ in
    let n = begun _ a.view.words.now a.name in
    λ ready at.
    let stands = c.look_at-standing.ensures _ ready at in
    shown_unmatched _ table o ps n _ _ stands.level stands.counts (not-false _ c.if-not-standing.false)
    c.is_matched.result (c.is_matched.ensures ready at) c.if-not-is_matched.true

pub returns-in-Lsub : goal.returns-in-Lsub
returns-in-Lsub c =
    let n = begun _ c.args.view.words.now c.args.name in
    λ ready at.
    let stands = c.look_at-standing.ensures _ ready at in
    shown_lsub _ _ _ _ n _ _ stands.level stands.counts (not-false _ c.if-not-standing.false) _ (c.is_matched.ensures ready at)
    c.in-Lsub.is c.if-not-is_matched.false
    c.look_at-standing.result.flags.bits stands.flags
    c.lsub_attributes.result c.lsub_attributes.ensures
    (record { bits = 0 }) refl

pub returns-in-List : goal.returns-in-List
returns-in-List c =
    let area = c.args.view.area.now in
    let words = c.args.view.words.now in
    let name = c.args.name in
    let o = options_is _ in
    let ps = unpacked _ in
    let n = begun area words name in
    λ ready at.
    let x = ready.index.indexed in
    let here = begins_here area words x name at in
    let stands = c.look_at-standing.ensures _ ready at in
    let children : c.asked_below-children.result ≡ (o.ret_children && has_children (rows_at area words) o n)
    = c.asked_below-children.ensures here ∙ (λ i. c.shows_children.ensures i && sym (children_below area words x name at o ps ready.marked) i) in
    let info : c.asked_below-info.result ≡ (o.sel_recursive && meets_below (rows_at area words) o n)
    = c.asked_below-info.ensures here ∙ (λ i. c.is_recursive.ensures i && sym (meets_below_lem area words x name at o ps ready.marked) i) in
    shown_list _ (rows_at area words) o ps n _ _ stands.level stands.counts (not-false _ c.if-not-standing.false)
    _ (c.is_matched.ensures ready at)
    c.in-List.is c.if-not-is_matched.false _ stands.flags c.asked_below-children.result children
    c.attributes_of.result c.attributes_of.ensures
    c.asked_below-info.result info
    c.child_info.result c.child_info.ensures
