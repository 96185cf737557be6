-- `put_namespaces` meets its contract: five writes, one behind the other.
use Rattle.listing_rules.specs.Bytes.{text, crlf}
use Rattle.octets.proofs.Puts.{put_then}
use Rattle.namespace_list.specs.Line.{namespace_line}
use Rattle.namespace_list.proofs.put_namespaces.Goals as goal

pub returns : goal.returns
unfolding text crlf namespace_line
returns c =
    put_then c.put_all-head.ensures (put_then c.put_class-personal.ensures (put_then c.put_class-others.ensures (put_then c.put_class-shared.ensures c.put_all.ensures)))
