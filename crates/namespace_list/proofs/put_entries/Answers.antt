-- `put_entries` meets its contract: the entries of the class before `i` are written, and those from `i` on are left. By `Putting` of
-- octets and Line.
use Rattle.listing_rules.proofs.Prelude.{ap, List, rules}
use Rattle.listing_rules.specs.Namespaces.{Entry}
use Rattle.listing_rules.specs.Server.{entry_text}
use Rattle.octets.proofs.Puts.{putting_none, putting_more, putting_on, putting_all}
use Rattle.namespace_list.specs.Line.{entries_text}
use Rattle.namespace_list.proofs.Entries.{class_other}
use Rattle.namespace_list.proofs.Line.{text_here, text_end}
use Rattle.namespace_list.specs.Line.{entries_text}
use Rattle.namespace_list.proofs.put_entries.Goals as goal

pub loop-i-init : goal.loop-i-init
loop-i-init c = putting_none _ _ _ (search rules) (search rules)

pub loop-i-preserved-then-e-class : goal.loop-i-preserved-then-e-class
unfolding entry_text
loop-i-preserved-then-e-class c =
    let entry = c.entry_at-e.ensures in
    putting_more c.loop-i.invariant (text_here entry _ c.if-e-class.true) c.put_entry-to.ensures

pub loop-i-preserved : goal.loop-i-preserved
loop-i-preserved c =
    putting_on c.loop-i.invariant (ap (λ (x : List Entry). entries_text x) (class_other c.entry_at-e.ensures _ c.if-e-class.false))

pub returns : goal.returns
returns c =
    putting_all c.loop-i.invariant (text_end _ _ _ c.loop-i-test.false)
