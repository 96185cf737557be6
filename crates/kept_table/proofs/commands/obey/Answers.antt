-- `kept_table::commands::obey` meets its contract: nothing where the sizes are others, else the command. Rests on ObeyLaws.
use Rattle.listing_rules.proofs.Prelude.{◌∙◌, ◌≡◌, sym, true}
use Rattle.kept_table.specs.Kept.{Lent, lent, is_within}
use Rattle.kept_table.proofs.LentLaws.{within_so}
use Rattle.kept_table.proofs.ObeyLaws.{lent_obeyed, lent_refused}
use Rattle.kept_table.proofs.commands.obey.Goals as goal

pub returns-then-not-within : goal.returns-then-not-within
returns-then-not-within c =
    let memory : Lent = lent c.args.table.now c.args.records.now c.args.namespaces.now c.args.out.now in
    lent_refused memory _ _ _ (sym c.is_within-within.ensures ∙ c.if-not-within.true) c.said.ensures

pub obey_within-requires : goal.obey_within-requires
obey_within-requires c =
    let is-so : is_within c.args.stored c.args.table.now c.args.records.now c.args.namespaces.now ≡ true = sym c.is_within-within.ensures ∙ c.if-not-within.false in
    within_so _ _ _ _ is-so

pub returns : goal.returns
returns c =
    let memory : Lent = lent c.args.table.now c.args.records.now c.args.namespaces.now c.args.out.now in
    let is-so : is_within c.args.stored c.args.table.now c.args.records.now c.args.namespaces.now ≡ true = sym c.is_within-within.ensures ∙ c.if-not-within.false in
    lent_obeyed memory _ _ _ is-so c.obey_within.ensures
