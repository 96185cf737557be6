-- `mailbox_table::link::next_row` meets its contract: each refusal is one part of `step_of`. By the laws of a step in LinkLaws.
use Rattle.std.specs.Prelude.{Some}
use Rattle.listing_rules.proofs.Prelude.{◌∙◌, ◌≡◌, ap, subst, sym, ◌+◌, ◌<◌, ◌≤◌, arith, length}
use Rattle.listing_rules.specs.Orders.{byte_order, is_lt}
use Rattle.listing_rules.specs.Names.{lawful_name}
use Rattle.listing_rules.specs.Flags.{lawful_flags}
use Rattle.mailbox_table.specs.declared.rows.Row.{Row}
use Rattle.mailbox_table.specs.Words.{row_of_word}
use Rattle.mailbox_table.specs.Shared.{shared_len}
use Rattle.mailbox_table.specs.Index.{name_at}
use Rattle.mailbox_table.specs.Link.{name_in}
use Rattle.mailbox_table.proofs.WordLaws.{place_fits}
use Rattle.mailbox_table.proofs.LinkLaws.{step_outside, step_flags, step_name, step_order, step_good}
use Rattle.mailbox_table.proofs.link.next_row.Goals as goal

pub overflow_add-row : goal.overflow_add-row
overflow_add-row c =
    let fits = place_fits c.args.word in
    rw c.of_word-row.ensures (record { fits = omega (arith, fits) })

pub returns-then-area-row : goal.returns-then-area-row
returns-then-area-row c =
    let a = c.args in
    sym
    (step_outside a.area.now (name_in a.area.now a.previous) a.word
    (subst (λ (r : Row). length a.area.now < r.start + r.len) c.of_word-row.ensures c.if-area-row.true))

pub returns-then-not-lawful : goal.returns-then-not-lawful
returns-then-not-lawful c =
    let flagged : c.lawful.result ≡ lawful_flags (row_of_word c.args.word).flags.bits = c.lawful.ensures ∙ ap (λ (r : Row). lawful_flags r.flags.bits) c.of_word-row.ensures in
    let a = c.args in
    sym (step_flags a.area.now (name_in a.area.now a.previous) a.word (sym flagged ∙ c.if-not-lawful.true))

pub returns-then-not-lawful_name : goal.returns-then-not-lawful_name
returns-then-not-lawful_name c =
    let named : let a = c.args in
    c.lawful_name.result ≡ lawful_name (name_at a.area.now a.word) = unfold name_at in c.lawful_name.ensures ∙ rw (c.name_of-name.ensures, c.of_word-row.ensures) in
    let a = c.args in
    sym (step_name a.area.now (name_in a.area.now a.previous) a.word (sym named ∙ c.if-not-lawful_name.true))

pub returns-then-not-ascends_at : goal.returns-then-not-ascends_at
returns-then-not-ascends_at c =
    let ordered : let a = c.args in
    c.ascends_at.result ≡ is_lt (byte_order (name_in a.area.now a.previous) (name_at a.area.now a.word)) = unfold name_at in c.ascends_at.ensures ∙ rw (c.name_of-before.ensures, c.name_of-name.ensures, c.of_word-row.ensures) in
    let a = c.args in
    sym (step_order a.area.now (name_in a.area.now a.previous) a.word (sym ordered ∙ c.if-not-ascends_at.true))

pub returns : goal.returns
returns c =
    let flagged : c.lawful.result ≡ lawful_flags (row_of_word c.args.word).flags.bits = c.lawful.ensures ∙ ap (λ (r : Row). lawful_flags r.flags.bits) c.of_word-row.ensures in
    let named : let a = c.args in
    c.lawful_name.result ≡ lawful_name (name_at a.area.now a.word) = unfold name_at in c.lawful_name.ensures ∙ rw (c.name_of-name.ensures, c.of_word-row.ensures) in
    let shared_is : let a = c.args in
    c.common-shared.result ≡ shared_len (name_in a.area.now a.previous) (name_at a.area.now a.word) = unfold name_at in c.common-shared.ensures ∙ rw (c.name_of-before.ensures, c.name_of-name.ensures, c.of_word-row.ensures) in
    let ordered : let a = c.args in
    c.ascends_at.result ≡ is_lt (byte_order (name_in a.area.now a.previous) (name_at a.area.now a.word)) = unfold name_at in c.ascends_at.ensures ∙ rw (c.name_of-before.ensures, c.name_of-name.ensures, c.of_word-row.ensures) in
    let a = c.args in
    let area = a.area.now in
    let x = name_in area a.previous in
    let row = c.of_word-row.ensures in
    let shared = shared_is in
    ap Some (λ i. record { flags = (row i).flags; start = (row i).start; len = (row i).len; shared = shared i })
    ∙ sym
    (step_good area x a.word
    (subst (λ (r : Row). r.start + r.len ≤ length area) row c.if-area-row.false)
    (sym flagged ∙ c.if-not-lawful.false)
    (sym named ∙ c.if-not-lawful_name.false)
    (sym ordered ∙ c.if-not-ascends_at.false))
