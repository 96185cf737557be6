-- `Cursor::byte`: at the end nothing, else the byte that is asked for or another. Rests on Bytes.
use Rattle.std.specs.Bool.{then_some}
use Rattle.std.proofs.Common.{rules}
use Rattle.listing_rules.proofs.Prelude.{◌≡◌, ◌+◌, ◌<◌, ◌≤◌, Bool, false, true, refl, sym, List, ℕ, [], ◌∷◌, arith, drop, eqb, get_or, length, eqb-true, eqb-false}
use Rattle.listing_rules.specs.Tokens.{after}
use Rattle.command_tokens.specs.declared.Cursor.{Cursor}
use Rattle.command_tokens.specs.Tokens.{behind_is, BehindIn}
use Rattle.command_tokens.proofs.Bytes.{after_out, after_yes, after_no}
use Rattle.command_tokens.proofs.Cursor.byte.Goals as goal

pub returns-in_err-here : goal.returns-in_err-here
unfolding behind_is BehindIn
returns-in_err-here c =
    let out : length c.args.text.now ≤ c.args.self.at = search rules in
    rw c.from_residual.ensures (record { result_value = sym (after_out _ _ _ out); behind_in = tt })

-- the byte at a place, and the place behind it
module _ (s : List ℕ) (i b : ℕ) (h : i < length s) where
  found : (o : Bool) → eqb (get_or s i 0) b ≡ o →
      (behind_is s (then_some {T = Cursor} o (record { at = i + 1 })) ≡ after (b ∷ []) (drop i s)) × BehindIn s i (then_some {T = Cursor} o (record { at = i + 1 }))
  unfolding behind_is BehindIn
  found true e = (sym (after_yes s i b h (eqb-true _ b e)), (omega arith, omega arith))
  found false e = (sym (after_no s i b h (eqb-false _ b e)), tt)

pub returns : goal.returns
returns c =
    let inside : c.args.self.at < length c.args.text.now = search rules in
    let here : c.in_ok-here.field-0.now ≡ get_or c.args.text.now c.args.self.at 0 = search rules in
    let read = found c.args.text.now c.args.self.at c.args.b inside _ refl in
    rw (c.then_some.ensures, here) (record { result_value = read.0; behind_in = read.1 })
