-- `list_answer::marks::marks_for` meets its contract: what the code finds is what the marks say (Marking), a member more with each
-- line (Sets).
use Rattle.listing_rules.proofs.Prelude.{◌∙◌, ◌≡◌, ap, refl, Bool, ◌&&◌, ◌||◌, not, [], ◌∷◌, ℕ}
use Rattle.listing_rules.specs.Flags.{exists, remote}
use Rattle.listing_rules.specs.Listing.{meets_criteria}
use Rattle.command_line.specs.OptionSets.{options_is}
use Rattle.mailbox_table.specs.declared.rows.Row.{Row as Place}
use Rattle.mailbox_table.specs.Index.{row_at_word}
use Rattle.pattern.specs.Packed.{unpacked}
use Rattle.list_answer.specs.Sets.{adds}
use Rattle.list_answer.specs.Marks.{level_only, meets_mark, unmatched_mark, child_mark, matched_mark, row_marks}
use Rattle.list_answer.proofs.Sets.{adds_all, more}
use Rattle.list_answer.proofs.Marking.{matched_is, unmatched_is}
use Rattle.list_answer.proofs.Showing.{named}
use Rattle.list_answer.proofs.marks.marks_for.Goals as goal

pub returns : goal.returns
unfolding adds row_marks
returns c =
    let area = c.args.area.now in
    let word = c.args.word in
    let o = options_is _ in
    let ps = unpacked _ in
    let row = row_at_word area word in
    let meeting : c.is_met-meeting.result ≡ meets_mark o row = c.is_met-meeting.ensures ∙ ap (λ (r : Place). meets_criteria o r.flags.bits) c.of_word-row.ensures in
    let level : c.asks_level-level.result ≡ level_only o ps _
    = c.asks_level-level.ensures ∙ ap (λ (r : Place). c.args.question.levels && not (exists r.flags.bits)) c.of_word-row.ensures ∙ ap (λ (b : Bool). b && not (exists row.flags)) c.requires in
    let child : c.counts_child.result ≡ child_mark o row
    = c.counts_child.ensures ∙ ap (λ (r : Place). exists r.flags.bits && (not (remote r.flags.bits) || o.sel_remote)) c.of_word-row.ensures in
    let name = named area word _ c.of_word-row.ensures c.name_of.result.now c.name_of.ensures in
    let matched : c.asked_match-matched.result ≡ matched_mark o ps row = matched_is o ps area word _ _ _ _ meeting c.is_recursive-recursive.ensures level name c.asked_match-matched.result c.asked_match-matched.ensures in
    let unmatched : ((c.is_recursive-recursive.result && c.is_met-meeting.result) && not c.asked_match-matched.result) ≡ unmatched_mark o ps row
    = (λ i. (c.is_recursive-recursive.ensures i && meeting i) && not c.asked_match-matched.result) ∙ unmatched_is o ps row c.asked_match-matched.result matched in
    let none : ◌≡◌ {A = ℕ} 0 0 = refl in
    let s1 = more 1 none meeting c.with-set.ensures in
    let s2 = more 2 s1 unmatched c.with-set-2.ensures in
    let s3 = more 4 s2 child c.with-set-3.ensures in
    more 8 s3 matched c.with.ensures ∙ adds_all (meets_mark o row ∷ unmatched_mark o ps row ∷ child_mark o row ∷ matched_mark o ps row ∷ [])
