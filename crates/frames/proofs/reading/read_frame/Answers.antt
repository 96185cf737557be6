-- `frames::reading::read_frame` meets its contract: one law for each way out. Rests on FrameLaws.
use Rattle.std.specs.Prelude.{None}
use Rattle.listing_rules.proofs.Prelude.{◌∙◌, ◌≡◌, ap, sym, true, List, ◌-◌, ℕ, arith, drop, length, length-drop, sets, take_all}
use Rattle.listing_rules.specs.Frames.{bytes_of}
use Rattle.frames.specs.Hexadecimal.{is_some, decoded}
use Rattle.frames.proofs.FrameLaws.{bad_long, bad_short, bad_text, within_bad, frame_bad, frame_short, frame_other, frame_good, kind_answer}
use Rattle.frames.proofs.reading.read_frame.Goals as goal

pub returns-then-line-gt-MAX_DIGITS : goal.returns-then-line-gt-MAX_DIGITS
returns-then-line-gt-MAX_DIGITS c = frame_bad _ _ (within_bad _ _ (bad_long _ c.if-line-gt-MAX_DIGITS.true))

pub returns-then-line-lt2 : goal.returns-then-line-lt2
returns-then-line-lt2 c = frame_bad _ _ (within_bad _ _ (bad_short _ c.if-line-lt2.true))

pub returns-then-not-is_hex : goal.returns-then-not-is_hex
returns-then-not-is_hex c =
    frame_bad _ _ (within_bad _ _ (bad_text _ (sym c.is_hex.ensures ∙ c.if-not-is_hex.true)))

pub returns-then-bytes-n : goal.returns-then-bytes-n
returns-then-bytes-n c =
    let hexed : is_some (bytes_of c.args.line.now) ≡ true = sym c.is_hex.ensures ∙ c.if-not-is_hex.false in
    frame_short _ c.if-line-gt-MAX_DIGITS.false c.if-line-lt2.false hexed _ c.if-bytes-n.true

pub returns-in_err-frame : goal.returns-in_err-frame
returns-in_err-frame c =
    let hexed : is_some (bytes_of c.args.line.now) ≡ true = sym c.is_hex.ensures ∙ c.if-not-is_hex.false in
    let kinded : c.kind_of.result ≡ kind_answer c.args.line.now = c.kind_of.ensures ∙ rw (
      c.pair_value.ensures,
      c.pair_value-reader.ensures,
      c.pair_value-option.ensures,
      c.byte_at.ensures,
      c.byte_at-2.ensures,
      c.byte_at-3.ensures,
      c.byte_at-4.ensures,
    ) in
    let gone : c.from_residual.result ≡ None = grind arith in
    rw gone (frame_other _ c.if-line-gt-MAX_DIGITS.false c.if-line-lt2.false hexed _ c.if-bytes-n.false
    (sym kinded ∙ c.in_err-frame.was))

pub returns : goal.returns
returns c =
    let hexed : is_some (bytes_of c.args.line.now) ≡ true = sym c.is_hex.ensures ∙ c.if-not-is_hex.false in
    let kinded : c.kind_of.result ≡ kind_answer c.args.line.now = c.kind_of.ensures ∙ rw (
      c.pair_value.ensures,
      c.pair_value-reader.ensures,
      c.pair_value-option.ensures,
      c.byte_at.ensures,
      c.byte_at-2.ensures,
      c.byte_at-3.ensures,
      c.byte_at-4.ensures,
    ) in
    let a = c.args in
    let whole = take_all (length a.line.now - 2) (drop 2 a.line.now) (omega (arith, length-drop 2 a.line.now)) in
    frame_good _ c.if-line-gt-MAX_DIGITS.false c.if-line-lt2.false hexed _ c.if-bytes-n.false _ _ (sym kinded ∙ c.in_ok-frame.was)
    (c.put_decoded.ensures.bytes ∙ ap (λ (x : List ℕ). sets a.bytes.now 0 (decoded x)) whole)
