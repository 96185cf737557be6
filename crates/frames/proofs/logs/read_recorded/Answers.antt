-- `frames::logs::read_recorded` meets its contract: one law for each way out. By LogLaws.
use Rattle.listing_rules.proofs.Prelude.{◌∙◌, ap, sym}
use Rattle.frames.specs.Logged.{recorded_is}
use Rattle.frames.proofs.LogLaws.{log_long, log_short, log_text, log_answer, log_number, log_number_other, log_other}
use Rattle.frames.proofs.logs.read_recorded.Goals as goal

pub returns-then-line-gt-MAX_ANSWER_DIGITS : goal.returns-then-line-gt-MAX_ANSWER_DIGITS
unfolding recorded_is
returns-then-line-gt-MAX_ANSWER_DIGITS c = sym (ap recorded_is (log_long _ c.if-line-gt-MAX_ANSWER_DIGITS.true))

pub returns-then-line-lt2 : goal.returns-then-line-lt2
unfolding recorded_is
returns-then-line-lt2 c = sym (ap recorded_is (log_short _ c.if-line-lt2.true))

pub returns-then-not-is_hex : goal.returns-then-not-is_hex
unfolding recorded_is
returns-then-not-is_hex c =
    sym (ap recorded_is (log_text _ (sym c.is_hex.ensures ∙ c.if-not-is_hex.true)))

pub returns-then-kind-eq-ANSWER : goal.returns-then-kind-eq-ANSWER
unfolding recorded_is
returns-then-kind-eq-ANSWER c =
    sym (ap recorded_is (log_answer c.args.line.now c.if-line-lt2.false (sym c.is_hex.ensures ∙ c.if-not-is_hex.false)
    (sym c.pair_value-kind.ensures ∙ c.if-kind-eq-ANSWER.true) c.if-line-gt-MAX_ANSWER_DIGITS.false))

pub returns-then-kind-ne-REFUSAL : goal.returns-then-kind-ne-REFUSAL
returns-then-kind-ne-REFUSAL c =
    sym (log_other c.args.line.now c.if-line-lt2.false (sym c.is_hex.ensures ∙ c.if-not-is_hex.false)
    (λ e. c.if-kind-eq-ANSWER.false (c.pair_value-kind.ensures ∙ e)) (λ e. c.if-kind-ne-REFUSAL.true (c.pair_value-kind.ensures ∙ e)))

pub returns-then-line-ne4 : goal.returns-then-line-ne4
unfolding recorded_is
returns-then-line-ne4 c =
    sym (ap recorded_is (log_number_other c.args.line.now c.if-line-lt2.false (sym c.is_hex.ensures ∙ c.if-not-is_hex.false)
    (sym c.pair_value-kind.ensures ∙ c.if-kind-ne-REFUSAL.false) c.if-line-ne4.true))

pub returns : goal.returns
unfolding recorded_is
returns c =
    rw c.pair_value.ensures (sym (ap recorded_is (log_number c.args.line.now c.if-line-lt2.false
    (sym c.is_hex.ensures ∙ c.if-not-is_hex.false) (sym c.pair_value-kind.ensures ∙ c.if-kind-ne-REFUSAL.false)
    c.if-line-ne4.false)))
