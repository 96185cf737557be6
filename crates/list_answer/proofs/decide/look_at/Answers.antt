-- `list_answer::decide::look_at` meets its contract: the row's word and the scans below say what the table does. By Deciding.
use Rattle.listing_rules.proofs.Prelude.{◌∙◌, ◌≡◌, ap, sym, Bool, ◌&&◌, ◌||◌, cond, not, ℕ, eqb}
use Rattle.listing_rules.specs.Flags.{exists}
use Rattle.listing_rules.specs.Table.{flags_of}
use Rattle.octets.specs.Sets.{contains}
use Rattle.command_line.specs.OptionSets.{options_is}
use Rattle.mailbox_table.specs.declared.rows.Row.{Row as Place}
use Rattle.mailbox_table.specs.Index.{rows_at}
use Rattle.mailbox_table.specs.Below.{marks_of}
use Rattle.pattern.specs.Packed.{unpacked}
use Rattle.list_answer.specs.Marks.{level_only}
use Rattle.list_answer.specs.Shown.{begun, found_below}
use Rattle.list_answer.proofs.Deciding.{begins_here, flags_here, meets_below_lem, right_here}
use Rattle.list_answer.proofs.decide.look_at.Goals as goal

pub returns : goal.returns
returns c =
    λ patterns ready at.
    let level = c.asked_below-level in
    let area = c.args.view.area.now in
    let words = c.args.view.words.now in
    let name = c.args.name in
    let x = ready.index.indexed in
    let here = begins_here area words x name at in
    let o = options_is _ in
    let ps = unpacked patterns in
    let n = begun area words name in
    let whole = eqb _ name.len in
    let flags : c.flags_of-flags.result.bits ≡ flags_of (rows_at area words) n
    = c.flags_of-flags.ensures ∙ ap (λ (r : Place). cond (eqb r.len name.len) r.flags.bits 0) c.of_word-row.ensures ∙ sym
    (flags_here area words x name at) in
    let own : _ ≡ (whole && contains (marks_of _) 1)
    = ap (λ (r : Place). eqb r.len name.len && c.has.result) c.of_word-row.ensures ∙ ap (λ (b : Bool). whole && b)
    (c.has.ensures ∙ ap (λ (m : ℕ). contains m 1) c.of_word.ensures) in
    let asked : c.asked_below-deep.result ≡ ((o.sel_recursive && not (eqb c.of_word-row.result.len name.len && c.has.result)) && found_below area words 2 name)
    = c.asked_below-deep.ensures here ∙ ap (λ (b : Bool). (b && not (eqb c.of_word-row.result.len name.len && c.has.result)) && found_below area words 2 name)
    c.is_recursive-recursive.ensures in
    let only : c.asks_level-absent.result ≡ level_only o ps (flags_of (rows_at area words) n)
    = c.asks_level-absent.ensures ∙ ap (λ (b : Bool). b && not (exists c.flags_of-flags.result.bits)) ready.knows ∙ ap (level_only o ps) flags in
    record {
      flags = flags;
      level = c.asked_below-level.ensures here ∙ (λ i. only i && sym (meets_below_lem area words x name at o ps ready.marked) i);
      counts = ap (λ (b : Bool). b || c.asked_below-level.result) (right_here area words x name at o ps ready.marked _ _ own asked);
    }
