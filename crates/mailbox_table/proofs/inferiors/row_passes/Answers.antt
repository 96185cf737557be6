-- `mailbox_table::inferiors::row_passes` meets its contract: every row counts, and the scan from row i finds all. By InferiorLaws.
use Rattle.listing_rules.proofs.Prelude.{◌∙◌, ◌≡◌, ap, sym, not, le_refl, get_or}
use Rattle.listing_rules.specs.Bytes.{bit}
use Rattle.listing_rules.specs.Lists.{any_of}
use Rattle.listing_rules.specs.Names.{below}
use Rattle.listing_rules.specs.Flags.{no_inferiors}
use Rattle.octets.proofs.Sets.{contains_bit}
use Rattle.mailbox_table.specs.declared.rows.Row.{Row}
use Rattle.mailbox_table.specs.Words.{row_of_word}
use Rattle.mailbox_table.specs.Index.{name_at, row_at_word, rows_at}
use Rattle.mailbox_table.specs.Below.{Begins}
use Rattle.mailbox_table.proofs.InferiorLaws.{none_any, none_some, below_anywhere}
use Rattle.mailbox_table.proofs.inferiors.row_passes.Goals as goal

pub returns-then-not-has : goal.returns-then-not-has
returns-then-not-has c =
    let flag : let a = c.args.rows in c.has.result ≡ no_inferiors
    (row_of_word (get_or a.words.now c.args.i 0)).flags.bits = unfold no_inferiors in c.has.ensures ∙ contains_bit 4 _ ∙ ap (λ (r : Row). bit 4 r.flags.bits) c.of_word-row.ensures in
    let table = rows_at _ c.args.rows.words.now in
    sym (none_any table _ (sym flag ∙ c.if-not-has.true))

pub returns : goal.returns
returns c =
    let flag : let a = c.args.rows in c.has.result ≡ no_inferiors
    (row_of_word (get_or a.words.now c.args.i 0)).flags.bits = unfold no_inferiors in c.has.ensures ∙ contains_bit 4 _ ∙ ap (λ (r : Row). bit 4 r.flags.bits) c.of_word-row.ensures in
    let area = c.args.rows.area.now in
    let words = c.args.rows.words.now in
    let i = c.args.i in
    let row = c.of_word-row in
    let from-i : Begins area words i c.of_word-row.result.len
    = record { indexed = c.args.rows.indexed; row = c.requires; within = rw c.of_word-row.ensures (le_refl _) } in
    let e : c.some_below.result ≡ any_of (λ q. below (name_at area (get_or words i 0)) q.name) (rows_at area words)
    = c.some_below.ensures from-i ∙ rw c.of_word-row.ensures (below_anywhere c.args.rows.indexed i c.requires) in
    ap not e
    ∙ sym (none_some (rows_at area words) (row_at_word area (get_or words i 0)) (sym flag ∙ c.if-not-has.false))
