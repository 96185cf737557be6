-- `list_answer::attributes::with_flag` meets its contract, by those of `has` and `with`.
use Rattle.listing_rules.proofs.Prelude.{◌≡◌, refl, ℕ}
use Rattle.list_answer.proofs.Sets.{more}
use Rattle.list_answer.proofs.attributes.with_flag.Goals as goal

pub returns : goal.returns
returns c =
    let set : ◌≡◌ {A = ℕ} _ c.args.set.bits = refl in
    more _ set c.has.ensures c.with.ensures
