-- `mailbox_table::packed::split_rows` meets its contract. The invariant is the record `Splitting`: rows passed are kept as words, and the
-- bytes that are left decide. By PackedLaws.
use Rattle.std.specs.Prelude.{Some}
use Rattle.listing_rules.proofs.Prelude.{◌∙◌, ◌≡◌, refl, sym, arith}
use Rattle.mailbox_table.specs.Packed.{step_at}
use Rattle.mailbox_table.proofs.PackedLaws.{splitting_none, splitting_full, splitting_bad, splitting_more, splits_fails}
use Rattle.mailbox_table.proofs.PackedLaws.{splits_rows, unpacking_long, step_packs, step_inside, step_start}
use Rattle.mailbox_table.proofs.packed.split_rows.Goals as goal

pub returns-then-table-gt-MAX_BYTES : goal.returns-then-table-gt-MAX_BYTES
returns-then-table-gt-MAX_BYTES c =
    record {
      answer = sym (unpacking_long _ _ c.if-table-gt-MAX_BYTES.true);
      room = refl;
      records = tt;
      stays = tt;
    }

pub loop-at-init : goal.loop-at-init
loop-at-init c = splitting_none _ _ _

pub returns-then-limit-n : goal.returns-then-limit-n
returns-then-limit-n c =
    splits_fails _ c.min-limit.ensures c.if-table-gt-MAX_BYTES.false (splitting_full c.loop-at.invariant c.loop-at-test.true c.if-limit-n.true)
    c.loop-at.invariant.size

pub returns-in_err-row : goal.returns-in_err-row
returns-in_err-row c =
    rw c.from_residual.ensures
    (splits_fails _ c.min-limit.ensures c.if-table-gt-MAX_BYTES.false
    (splitting_bad c.loop-at.invariant c.loop-at-test.true (sym c.row_at.ensures ∙ c.in_err-row.was))
    c.loop-at.invariant.size)

pub word_at-requires : goal.word_at-requires
word_at-requires c =
    let stepped : step_at c.args.table.now c.loop-at.at ≡ Some c.in_ok-row.row = sym c.row_at.ensures ∙ c.in_ok-row.was in
    record { placed = record { inside = c.loop-at-test.true; bound = c.if-table-gt-MAX_BYTES.false }; packs = step_packs _ _ _ stepped c.if-table-gt-MAX_BYTES.false (λ k. (c.type_inv.table k).fits) }

pub overflow_add-at : goal.overflow_add-at
overflow_add-at c =
    let stepped : step_at c.args.table.now c.loop-at.at ≡ Some c.in_ok-row.row = sym c.row_at.ensures ∙ c.in_ok-row.was in
    omega (arith, step_inside _ _ _ stepped)

pub loop-at-smaller : goal.loop-at-smaller
loop-at-smaller c =
    let stepped : step_at c.args.table.now c.loop-at.at ≡ Some c.in_ok-row.row = sym c.row_at.ensures ∙ c.in_ok-row.was in
    omega (arith, step_start _ _ _ stepped)

pub loop-at-preserved : goal.loop-at-preserved
loop-at-preserved c =
    let stepped : step_at c.args.table.now c.loop-at.at ≡ Some c.in_ok-row.row = sym c.row_at.ensures ∙ c.in_ok-row.was in
    rw c.word_at.ensures
    (splitting_more c.loop-at.invariant c.loop-at-test.true c.if-table-gt-MAX_BYTES.false (λ k. (c.type_inv.table k).fits) c.if-limit-n.false
    (omega (arith, c.min-limit.ensures)) _ stepped)

pub returns : goal.returns
returns c = splits_rows _ c.min-limit.ensures c.if-table-gt-MAX_BYTES.false c.loop-at.invariant c.loop-at-test.false
