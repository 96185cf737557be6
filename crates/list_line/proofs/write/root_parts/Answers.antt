-- `root_parts` meets its contract: the set 4 has the root line's attributes (`root-parts` of `Members`).
use Rattle.listing_rules.proofs.Prelude.{rules}
use Rattle.list_line.proofs.Members.{root_parts_lem}
use Rattle.list_line.proofs.write.root_parts.Goals as goal

pub returns : goal.returns
returns c = rw (c.eq.ensures, c.is_empty.ensures, c.is_none.ensures) (root_parts_lem _ _ _ (search rules))
