-- `Rows::insertion` meets its contract: one law for each way out. By DecideLaws.
use Rattle.std.proofs.lemmas.Result.{err_from_is_err_and}
use Rattle.std.specs.Prelude.{Result, Err}
use Rattle.octets.specs.declared.refusals.Refusal.{Refusal}
use Rattle.octets.specs.declared.refusals.Refusal.TheVariants.{NoRoom}
use Rattle.octets.specs.Refusals.{number_of}
use Rattle.listing_rules.proofs.Prelude.{◌∙◌, ◌≡◌, ap, sym, true, ℕ}
use Rattle.listing_rules.specs.Names.{lawful_name}
use Rattle.listing_rules.proofs.LawfulNames.{good_parts}
use Rattle.subscriptions.proofs.DecideLaws.{fresh_unlawful, fresh_below, fresh_full, fresh_spent, fresh_missing, fresh_insert}
use Rattle.subscriptions.proofs.rows.Rows.insertion.Goals as goal

pub returns-then-not-lawful_name : goal.returns-then-not-lawful_name
returns-then-not-lawful_name c =
    sym (fresh_unlawful _ c.args.self.words.now _ _ _ (sym c.lawful_name.ensures ∙ c.if-not-lawful_name.true))

pub returns-then-below_no_inferiors : goal.returns-then-below_no_inferiors
returns-then-below_no_inferiors c =
    let lawful : lawful_name c.args.name.now ≡ true = sym c.lawful_name.ensures ∙ c.if-not-lawful_name.false in
    sym (fresh_below _ c.args.self.words.now _ _ _ lawful (sym c.below_no_inferiors.ensures ∙ c.if-below_no_inferiors.true))

pub returns-then-self-ge-MAX_ROWS : goal.returns-then-self-ge-MAX_ROWS
returns-then-self-ge-MAX_ROWS c =
    let lawful : lawful_name c.args.name.now ≡ true = sym c.lawful_name.ensures ∙ c.if-not-lawful_name.false in
    let a = c.args in
    sym
    (fresh_full _ a.self.words.now _ _ _ lawful (sym c.below_no_inferiors.ensures ∙ c.if-below_no_inferiors.false)
    c.if-self-ge-MAX_ROWS.true)

pub returns-then-lent-self : goal.returns-then-lent-self
returns-then-lent-self c =
    let lawful : lawful_name c.args.name.now ≡ true = sym c.lawful_name.ensures ∙ c.if-not-lawful_name.false in
    let a = c.args in
    sym
    (fresh_spent _ a.self.words.now _ _ _ lawful (sym c.below_no_inferiors.ensures ∙ c.if-below_no_inferiors.false)
    c.if-self-ge-MAX_ROWS.false
    c.if-lent-self.true)

pub lowest_run-requires : goal.lowest_run-requires
lowest_run-requires c =
    let lawful : lawful_name c.args.name.now ≡ true = sym c.lawful_name.ensures ∙ c.if-not-lawful_name.false in
    (good_parts _ lawful).least

pub returns-in_err-start : goal.returns-in_err-start
returns-in_err-start c =
    let lawful : lawful_name c.args.name.now ≡ true = sym c.lawful_name.ensures ∙ c.if-not-lawful_name.false in
    let p = err_from_is_err_and c.from_residual.result c.from_residual.ensures.1 in
    let e : ◌≡◌ {A = Result ℕ Refusal} (Err c.in_err-start.field-0.0) (Err NoRoom) = rw c.in_err-start.ensures.ok_part at c.in_err-start.ensures.value in
    let q : c.in_err-start.field-0.0 ≡ NoRoom = cc in
    rw (p.1, p.2)
    (ap (λ (k : Refusal). Err (number_of k)) q ∙ sym
    (fresh_missing _ c.args.self.words.now _ _ _ lawful (sym c.below_no_inferiors.ensures ∙ c.if-below_no_inferiors.false)
    c.if-self-ge-MAX_ROWS.false
    c.if-lent-self.false
    (sym c.lowest_run.ensures ∙ c.in_err-start.ensures.ok_part)))

pub returns : goal.returns
returns c =
    let lawful : lawful_name c.args.name.now ≡ true = sym c.lawful_name.ensures ∙ c.if-not-lawful_name.false in
    sym
    (fresh_insert _ c.args.self.words.now _ _ _ lawful (sym c.below_no_inferiors.ensures ∙ c.if-below_no_inferiors.false)
    c.if-self-ge-MAX_ROWS.false
    c.if-lent-self.false _ (sym c.lowest_run.ensures ∙ c.in_ok-start.ensures.ok_part))
