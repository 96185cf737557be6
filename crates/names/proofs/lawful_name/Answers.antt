-- `names::lawful_name` meets its contract: each refusal is one part of the definition. By the last laws of NameShape.
use Rattle.listing_rules.proofs.Prelude.{◌∙◌, sym, arith}
use Rattle.names.proofs.NameShape.{not_none, not_long, not_bytes, not_few, not_first, not_last, not_pair, all_but_inbox}
use Rattle.names.proofs.lawful_name.Goals as goal

pub returns-then-n-eq0 : goal.returns-then-n-eq0
returns-then-n-eq0 c = sym (not_none _ c.if-n-eq0.true)

pub returns-then-n-gt-MAX_NAME : goal.returns-then-n-gt-MAX_NAME
returns-then-n-gt-MAX_NAME c = sym (not_long _ c.if-n-gt-MAX_NAME.true)

pub returns-then-not-name_bytes : goal.returns-then-not-name_bytes
returns-then-not-name_bytes c =
    sym (not_bytes _ (sym c.name_bytes.ensures ∙ c.if-not-name_bytes.true))

pub returns-then-slashes-ge-MAX_LEVELS : goal.returns-then-slashes-ge-MAX_LEVELS
returns-then-slashes-ge-MAX_LEVELS c = sym (not_few _ (omega (arith, c.slashes.ensures)))

pub returns-then-name-eq-SLASH : goal.returns-then-name-eq-SLASH
returns-then-name-eq-SLASH c = sym (not_first _ (omega arith) c.if-name-eq-SLASH.true)

pub returns-then-name-n-eq-SLASH : goal.returns-then-name-n-eq-SLASH
returns-then-name-n-eq-SLASH c = sym (not_last _ (omega arith) c.if-name-n-eq-SLASH.true)

pub returns-then-not-no_pair : goal.returns-then-not-no_pair
returns-then-not-no_pair c =
    sym (not_pair _ (omega arith) (sym c.no_pair.ensures ∙ c.if-not-no_pair.true))

pub returns : goal.returns
returns c =
    c.inbox_spelled.ensures
    ∙ sym
    (all_but_inbox _ (omega arith) (omega arith) (sym c.name_bytes.ensures ∙ c.if-not-name_bytes.false)
    (omega (arith, c.slashes.ensures))
    c.if-name-eq-SLASH.false
    c.if-name-n-eq-SLASH.false
    (sym c.no_pair.ensures ∙ c.if-not-no_pair.false))
