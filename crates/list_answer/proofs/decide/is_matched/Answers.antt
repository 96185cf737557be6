-- `list_answer::decide::is_matched` meets its contract: the row's mark for its whole name, the bytes for a shorter one. By Deciding.
use Rattle.listing_rules.proofs.Prelude.{◌∙◌, ap, sym, Bool, ◌&&◌, List, ℕ, leb, length, eq-eqb, ne_eqb}
use Rattle.listing_rules.specs.Match.{matches_any}
use Rattle.octets.specs.Sets.{contains}
use Rattle.command_line.specs.OptionSets.{options_is}
use Rattle.mailbox_table.specs.declared.rows.Row.{Row as Place}
use Rattle.pattern.specs.Packed.{unpacked}
use Rattle.pattern.specs.Chosen.{chosen}
use Rattle.list_answer.specs.Shown.{begun}
use Rattle.list_answer.proofs.Deciding.{begun_short, matched_whole, matched_proper}
use Rattle.list_answer.proofs.Showing.{fronted}
use Rattle.list_answer.proofs.decide.is_matched.Goals as goal

pub returns-then-row-len : goal.returns-then-row-len
returns-then-row-len c =
    let o = options_is _ in
    let ps = unpacked _ in
    let whole = eq-eqb _ _ (sym (ap (λ (r : Place). r.len) c.of_word-row.ensures) ∙ c.if-row-len.true) in
    λ ready at h.
    c.has.ensures
    ∙ ap (λ (m : ℕ). contains m 8) c.of_word.ensures
    ∙ matched_whole c.args.view.area.now c.args.view.words.now ready.index.indexed c.args.name at o ps ready.marked whole h

pub returns : goal.returns
returns c =
    let area = c.args.view.area.now in
    let words = c.args.view.words.now in
    let levels = c.args.view.question.levels in
    let name = c.args.name in
    let o = options_is _ in
    let ps = unpacked _ in
    let n = begun area words name in
    let bytes = fronted area _ _ c.of_word-row.ensures name.len _ c.front_of.ensures in
    let proper = ne_eqb _ _ (λ e. c.if-row-len.false (ap (λ (r : Place). r.len) c.of_word-row.ensures ∙ e)) in
    λ ready at h.
    let x = ready.index.indexed in
    c.matches_any.ensures
    ∙ ap (λ (l : List ℕ). leb (length l) 255 && matches_any (chosen levels ps) l) bytes
    ∙ ap (λ (b : Bool). b && matches_any (chosen levels ps) n) (begun_short area words x name at)
    ∙ ap (λ (b : Bool). matches_any (chosen b ps) n) ready.knows
    ∙ matched_proper area words x name at o ps ready.marked proper
