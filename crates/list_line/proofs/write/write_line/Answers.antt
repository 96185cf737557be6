-- `write_line` meets its contract, by the cases of the line writer in `Writing`.
use Rattle.listing_rules.proofs.Prelude.{◌∙◌, sym}
use Rattle.octets.specs.declared.refusals.Refusal.TheVariants.{NotSuchLine}
use Rattle.list_line.proofs.Writing.{line_unlawful, line_named, line_root, line_other, gives_refusal}
use Rattle.list_line.proofs.write.write_line.Goals as goal

pub returns-then-not-lawful : goal.returns-then-not-lawful
returns-then-not-lawful c =
    rw (line_unlawful _ _ _ (sym c.lawful.ensures ∙ c.if-not-lawful.true)) (gives_refusal _ NotSuchLine)

pub returns-then-lawful_name : goal.returns-then-lawful_name
returns-then-lawful_name c =
    rw
    (line_named _ _ _ (sym c.lawful.ensures ∙ c.if-not-lawful.false) (sym c.lawful_name.ensures ∙ c.if-lawful_name.true))
    c.write_named.ensures

pub returns-then-not-root_parts : goal.returns-then-not-root_parts
returns-then-not-root_parts c =
    rw
    (line_other _ _ _ (sym c.lawful.ensures ∙ c.if-not-lawful.false)
    (sym c.lawful_name.ensures ∙ c.if-lawful_name.false)
    (sym c.root_parts.ensures ∙ c.if-not-root_parts.true))
    (gives_refusal _ NotSuchLine)

pub returns : goal.returns
returns c =
    rw
    (line_root _ _ _ (sym c.lawful.ensures ∙ c.if-not-lawful.false)
    (sym c.lawful_name.ensures ∙ c.if-lawful_name.false)
    (sym c.root_parts.ensures ∙ c.if-not-root_parts.false))
    c.write_root.ensures
