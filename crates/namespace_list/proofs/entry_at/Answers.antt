-- `entry_at` meets its contract: what it reads at a place is the entry there, by the law entry_here.
use Rattle.listing_rules.proofs.Prelude.{◌∙◌, ◌≡◌, ap, refl, ◌+◌, ℕ, arith, get_or}
use Rattle.namespace_list.proofs.Entries.{entry_here}
use Rattle.namespace_list.proofs.entry_at.Goals as goal

pub returns : goal.returns
returns c =
    let l = c.args.list.now in
    let at = c.args.at in
    let n : c.wide.result ≡ get_or l (at + 1) 0 = c.wide.ensures ∙ c.byte_at.ensures in
    entry_here l at c.requires _ refl c.least.ensures (omega (arith, c.least-2.ensures))
    (c.byte_at-2.ensures ∙ ap (λ (k : ℕ). get_or l (at + 2 + k) 0) n) (omega arith)
