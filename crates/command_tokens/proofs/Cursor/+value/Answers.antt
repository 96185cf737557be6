-- `Cursor::value`: the items of one level in a loop, an inner parenthesis by a call of its own further on. Rests on Nesting, Binds and Bytes.
use Rattle.listing_rules.proofs.Prelude.{◌∙◌, ◌≡◌, sym, ◌<◌, ◌≤◌, ℕ, arith, drop, length}
use Rattle.command_tokens.specs.Tokens.{behind_is, BehindIn}
use Rattle.command_tokens.specs.Values.{value_of, behind_item}
use Rattle.command_tokens.proofs.Binds.{bind_none, bind_go, behind_at, behind_nothing, behind_ahead}
use Rattle.command_tokens.proofs.Bytes.{inside}
use Rattle.command_tokens.proofs.Nesting.{value_step, item_value, item_string, behind_close, behind_space, behind_off}
use Rattle.command_tokens.proofs.Cursor.+value.Goals as goal
use Rattle.command_tokens.proofs.Cursor.+value.Goals.{then-byte_at-eq40+in_ok-next, else-byte_at-eq40+in_ok-next-2, After-byte_at-b}

-- an inner value that is missing
pub returns-in_err-next : goal.returns-in_err-next
unfolding behind_is BehindIn
returns-in_err-next t c =
    let first = c.value.ensures.result_value ∙ sym (item_value _ c.loop-at.at (sym c.byte_at.ensures ∙ c.if-byte_at-eq40.true)) in
    rw c.from_residual.ensures (record {
      result_value = sym (sym c.loop-at.invariant.1 ∙ value_step _ ∙ bind_none _ (behind_nothing _ first c.in_err-next.was));
      behind_in = tt;
    })

-- an astring that is missing
pub returns-in_err-next-2 : goal.returns-in_err-next-2
unfolding behind_is BehindIn
returns-in_err-next-2 t c =
    let first = c.item.ensures.result_value ∙ sym (item_string _ c.loop-at.at (λ e. c.if-byte_at-eq40.false (c.byte_at.ensures ∙ e))) in
    rw c.from_residual-in_err-next-2.ensures (record {
      result_value = sym (sym c.loop-at.invariant.1 ∙ value_step _ ∙ bind_none _ (behind_nothing _ first c.in_err-next-2.was));
      behind_in = tt;
    })

-- what the value gives from behind the first item on, which lies further in the line
onward : (t : ℕ) (c : After-byte_at-b t) →
    (value_of (drop c.args.self.at c.args.text.now) ≡ behind_item value_of (drop c.if-byte_at-eq40.next.at c.args.text.now)) ×
    ((c.args.self.at < c.if-byte_at-eq40.next.at) × (c.loop-at.at < c.if-byte_at-eq40.next.at) ×
    (c.if-byte_at-eq40.next.at ≤ length c.args.text.now))
onward t c =
    let byte = c.byte_at.ensures in
    elim c.if-byte_at-eq40.branch [
      | then-byte_at-eq40+in_ok-next w ↦
          let first = w.value.ensures.result_value ∙ sym (item_value _ c.loop-at.at (sym byte ∙ w.if-byte_at-eq40.true)) in
          let a = behind_ahead _ _ w.value.ensures.behind_in w.in_ok-next.was in
          rw w.next-is (sym c.loop-at.invariant.1 ∙ value_step _ ∙ bind_go _ (behind_at _ first w.in_ok-next.was), (omega arith, omega (arith, a.0), a.1))
      | else-byte_at-eq40+in_ok-next-2 w ↦
          let first = w.item.ensures.result_value ∙ sym (item_string _ c.loop-at.at (λ e. w.if-byte_at-eq40.false (byte ∙ e))) in
          let a = behind_ahead _ _ w.item.ensures.behind_in w.in_ok-next-2.was in
          rw w.next-is (sym c.loop-at.invariant.1 ∙ value_step _ ∙ bind_go _ (behind_at _ first w.in_ok-next-2.was), (omega arith, a.0, a.1))
    ]

pub returns-then-b-eq41 : goal.returns-then-b-eq41
unfolding behind_is BehindIn
returns-then-b-eq41 t c =
    let k = onward t (goal.at.returns-then-b-eq41 t c).After-byte_at-b in
    let end = c.if-byte_at-eq40.next.at in
    let l = inside c.args.text.now end (omega arith) in
    record {
      result_value = sym (k.0 ∙ behind_close _ end (sym c.byte_at-b.ensures ∙ c.if-b-eq41.true));
      behind_in = (omega arith, omega arith);
    }

pub returns-then-b-ne32 : goal.returns-then-b-ne32
unfolding behind_is BehindIn
returns-then-b-ne32 t c =
    let k = onward t (goal.at.returns-then-b-ne32 t c).After-byte_at-b in
    let byte = c.byte_at-b.ensures in
    record {
      result_value = sym (k.0 ∙ behind_off _ c.if-byte_at-eq40.next.at (λ e. c.if-b-eq41.false (byte ∙ e)) (λ e. c.if-b-ne32.true (byte ∙ e)));
      behind_in = tt;
    }

pub loop-at-smaller : goal.loop-at-smaller
loop-at-smaller t c =
    let k = onward t (goal.at.loop-at-smaller t c).After-byte_at-b in
    omega (arith, inside c.args.text.now c.if-byte_at-eq40.next.at (omega arith))

pub loop-at-preserved : goal.loop-at-preserved
loop-at-preserved t c =
    let k = onward t (goal.at.loop-at-preserved t c).After-byte_at-b in
    (omega arith, sym (k.0 ∙ behind_space _ c.if-byte_at-eq40.next.at (sym c.byte_at-b.ensures ∙ c.if-b-ne32.false)))
