-- `names::name_bytes` meets its contract: what is kept and the bytes from i on decide. By octets' laws of Every.
use Rattle.listing_rules.proofs.Prelude.{◌∙◌, refl, sym}
use Rattle.listing_rules.specs.Names.{name_byte}
use Rattle.octets.proofs.Every.{kept_step, kept_end}
use Rattle.listing_rules.specs.Names.{name_byte}
use Rattle.names.proofs.name_bytes.Goals as goal

pub loop-b-init : goal.loop-b-init
loop-b-init c = refl

pub loop-b-preserved : goal.loop-b-preserved
loop-b-preserved c =
    rw c.name_byte-ok.ensures (kept_step name_byte _ _ c.loop-b.ok c.loop-b-test.true ∙ c.loop-b.invariant)

pub returns : goal.returns
returns c =
    sym (kept_end name_byte _ _ _ c.loop-b-test.false) ∙ c.loop-b.invariant
