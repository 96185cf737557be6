-- `server::replies::ok_fits` meets its contract: the line is measured over an empty buffer, and is shorter than the largest place.
use Rattle.listing_rules.proofs.Prelude.{◌≡◌, ap, refl, ◌++◌, ℕ, arith, leb, length, length-append}
use Rattle.listing_rules.specs.Bytes.{text, crlf}
use Rattle.listing_rules.specs.Lines.{ok_line}
use Rattle.server.proofs.replies.ok_fits.Goals as goal

pub returns : goal.returns
unfolding ok_line text crlf
returns c =
    let tag = c.args.tag.now in
    let ten : length (text " OK done" ++ crlf) ≡ 10 = refl in
    let size : c.put_ok_line-need.result ≡ length (ok_line tag)
    = omega (arith, c.put_ok_line-need.ensures.place, c.ranges, ten, length-append tag (text " OK done" ++ crlf)) in
    ap (λ (n : ℕ). leb n c.args.size) size
