-- `check` meets its contract: the entries from `at` on decide, after `count` entries of `class`. By the laws of Passing.
use Rattle.listing_rules.proofs.Prelude.{◌∙◌, ◌≡◌, sym, true, arith}
use Rattle.listing_rules.specs.Namespaces.{lawful_entry}
use Rattle.namespace_list.specs.Entries.{meaning}
use Rattle.namespace_list.proofs.Passing.{rest_whole, rest_end, rest_past, rest_unlawful, rest_fall, rest_full, rest_same}
use Rattle.namespace_list.proofs.Passing.{rest_rise}
use Rattle.listing_rules.proofs.Prelude.{◌≡◌}
use Rattle.namespace_list.proofs.check.Goals as goal

pub loop-at-init : goal.loop-at-init
loop-at-init c = (omega arith, rest_whole _)

pub returns-then-list-e : goal.returns-then-list-e
returns-then-list-e c =
    sym (rest_past _ _ c.loop-at-test.true c.entry_at-e.ensures c.if-list-e.true) ∙ c.loop-at.invariant.1

pub returns-then-not-is_lawful : goal.returns-then-not-is_lawful
returns-then-not-is_lawful c =
    let inside = c.loop-at-test.true in
    let entry = c.entry_at-e.ensures in
    sym (rest_unlawful _ _ inside entry (sym c.is_lawful.ensures ∙ c.if-not-is_lawful.true)) ∙ c.loop-at.invariant.1

pub returns-then-e-class : goal.returns-then-e-class
returns-then-e-class c =
    let lawful : lawful_entry (meaning c.args.list.now c.entry_at-e.result) ≡ true = sym c.is_lawful.ensures ∙ c.if-not-is_lawful.false in
    let entry = c.entry_at-e.ensures in
    let whole = c.if-list-e.false in
    sym (rest_fall _ _ c.loop-at-test.true entry whole lawful c.if-e-class.true) ∙ c.loop-at.invariant.1

pub returns-then-count-eq-MAX_OF_CLASS : goal.returns-then-count-eq-MAX_OF_CLASS
returns-then-count-eq-MAX_OF_CLASS c =
    let lawful : lawful_entry (meaning c.args.list.now c.entry_at-e.result) ≡ true = sym c.is_lawful.ensures ∙ c.if-not-is_lawful.false in
    let inside = c.loop-at-test.true in
    let entry = c.entry_at-e.ensures in
    sym (rest_full _ _ inside entry c.if-list-e.false lawful c.if-e-class-2.true (omega arith)) ∙ c.loop-at.invariant.1

pub loop-at-preserved-else-count-eq-MAX_OF_CLASS : goal.loop-at-preserved-else-count-eq-MAX_OF_CLASS
loop-at-preserved-else-count-eq-MAX_OF_CLASS c =
    let lawful : lawful_entry (meaning c.args.list.now c.entry_at-e.result) ≡ true = sym c.is_lawful.ensures ∙ c.if-not-is_lawful.false in
    let inside = c.loop-at-test.true in
    let entry = c.entry_at-e.ensures in
    (omega arith, sym (rest_same _ _ inside entry c.if-list-e.false lawful c.if-e-class-2.true) ∙ c.loop-at.invariant.1)

pub loop-at-preserved : goal.loop-at-preserved
loop-at-preserved c =
    let lawful : lawful_entry (meaning c.args.list.now c.entry_at-e.result) ≡ true = sym c.is_lawful.ensures ∙ c.if-not-is_lawful.false in
    let inside = c.loop-at-test.true in
    let entry = c.entry_at-e.ensures in
    let whole = c.if-list-e.false in
    (omega arith, sym (rest_rise _ _ inside entry whole lawful (omega arith) (omega arith)) ∙ c.loop-at.invariant.1)

pub returns : goal.returns
returns c =
    sym (rest_end _ _ _ _ c.loop-at-test.false (omega arith)) ∙ c.loop-at.invariant.1
