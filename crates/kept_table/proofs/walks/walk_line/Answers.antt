-- `kept_table::walks::walk_line` meets its contract: no line where the sizes are others, else that of the walk. Rests on LentLaws.
use Rattle.listing_rules.proofs.Prelude.{◌∙◌, ◌≡◌, sym, true}
use Rattle.kept_table.specs.Kept.{is_held}
use Rattle.kept_table.proofs.LentLaws.{says_none, held_so}
use Rattle.kept_table.proofs.walks.walk_line.Goals as goal

pub returns-then-not-held : goal.returns-then-not-held
returns-then-not-held c = rw (sym c.is_held-held.ensures ∙ c.if-not-held.true) (says_none _)

pub walk_held-requires : goal.walk_held-requires
walk_held-requires c =
    let is-so : is_held c.args.stored c.args.table.now
    c.args.records.now ≡ true = sym c.is_held-held.ensures ∙ c.if-not-held.false in
    held_so _ _ _ is-so

pub returns : goal.returns
returns c =
    let is-so : is_held c.args.stored c.args.table.now
    c.args.records.now ≡ true = sym c.is_held-held.ensures ∙ c.if-not-held.false in
    rw is-so c.walk_held.ensures
