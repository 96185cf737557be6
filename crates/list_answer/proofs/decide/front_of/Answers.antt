-- `list_answer::decide::front_of` meets its contract: as many bytes as asked, or as there are. By Showing.
use Rattle.listing_rules.proofs.Prelude.{◌∙◌, ap, List, ℕ, take}
use Rattle.list_answer.proofs.Showing.{front_size, front_is_lem}
use Rattle.list_answer.proofs.decide.front_of.Goals as goal

pub slice_bounds-result-end : goal.slice_bounds-result-end
slice_bounds-result-end c =
    front_size c.args.len _ _ c.min-end.ensures

pub returns : goal.returns
returns c =
    let len = c.args.len in
    front_is_lem len _ _ c.min-end.ensures ∙ ap (λ (l : List ℕ). take len l) c.name_of-whole.ensures
