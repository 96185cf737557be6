-- `put_delimiter` meets its contract.
use Rattle.listing_rules.specs.Bytes.{text}
use Rattle.listing_rules.specs.Server.{delimiter_text}
use Rattle.listing_rules.proofs.Prelude.{eq-eqb, ne_eqb}
use Rattle.namespace_list.proofs.put_delimiter.Goals as goal

pub returns-then-delimiter-eq0 : goal.returns-then-delimiter-eq0
unfolding text delimiter_text
returns-then-delimiter-eq0 c =
    rw (eq-eqb _ 0 c.if-delimiter-eq0.true) c.put_all.ensures

pub returns : goal.returns
unfolding delimiter_text
returns c =
    rw (ne_eqb _ 0 c.if-delimiter-eq0.false) c.put_quoted.ensures
