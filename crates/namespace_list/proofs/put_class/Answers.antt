-- `put_class` meets its contract: a class is NIL exactly where it has no entry.
use Rattle.listing_rules.specs.Bytes.{text}
use Rattle.listing_rules.specs.Namespaces.{entries, of_class}
use Rattle.octets.proofs.Puts.{put_then}
use Rattle.namespace_list.proofs.Line.{class_none, class_some}
use Rattle.listing_rules.proofs.Prelude.{arith}
use Rattle.namespace_list.proofs.put_class.Goals as goal

pub returns-then-count_of-lt1 : goal.returns-then-count_of-lt1
unfolding text
returns-then-count_of-lt1 c =
    rw (class_none (of_class c.args.class (entries c.args.list.now)) (omega (arith, c.count_of.ensures))) c.put_all.ensures

pub returns : goal.returns
unfolding text
returns c =
    rw (class_some (of_class c.args.class (entries c.args.list.now)) (omega (arith, c.count_of.ensures)))
    (put_then c.put_all-open.ensures (put_then c.put_entries-shown.ensures c.put.ensures))
