-- `judge`: 6, 7 and 8 in this order, and then the root line or the list. Rests on Judging.
use Rattle.listing_rules.proofs.Prelude.{◌∙◌, ◌≡◌, ap, sym, ◌&&◌, not, true, eqb, not-false, not-true}
use Rattle.listing_rules.specs.Lists.{every}
use Rattle.listing_rules.specs.Options.{lawful_options}
use Rattle.octets.specs.declared.refusals.Refusal.TheVariants.{UnknownOption, RecursivematchAlone, Patterns as RefusedPatterns}
use Rattle.command_patterns.specs.Canonical.{canonical_of}
use Rattle.command_patterns.specs.declared.Measured.{Measured}
use Rattle.command_line.specs.OptionSets.{options_is}
use Rattle.command_line.specs.Commands.{meaning_of, meaning_as, patterns_of, short, arguments_is}
use Rattle.command_line.proofs.Judging.{kept_few, kept_many, decided_6, decided_7, decided_many, decided_long, decided_root, decided_list}
use Rattle.command_line.proofs.Judging.{command_of, inside_list, refuses, asks_root_lem}
use Rattle.command_line.proofs.list_command.judge.Goals as goal

pub returns-then-not-a : goal.returns-then-not-a
unfolding arguments_is
returns-then-not-a c =
    refuses _ UnknownOption (decided_6 _ _ (not-true _ c.if-not-a.true))

pub returns-then-not-lawful : goal.returns-then-not-lawful
unfolding arguments_is
returns-then-not-lawful c =
    refuses _ RecursivematchAlone
    (decided_7 _ _ (not-false _ c.if-not-a.false) (sym c.lawful.ensures ∙ c.if-not-lawful.true))

pub returns-then-count-gt-MAX_PATTERNS : goal.returns-then-count-gt-MAX_PATTERNS
unfolding arguments_is
returns-then-count-gt-MAX_PATTERNS c =
    let lawful : lawful_options (options_is c.args.a.options) ≡ true = sym c.lawful.ensures ∙ c.if-not-lawful.false in
    refuses _ RefusedPatterns
    (decided_many _ _ (not-false _ c.if-not-a.false) lawful (kept_many _ _ c.if-count-gt-MAX_PATTERNS.true))

pub returns-then-not-size : goal.returns-then-not-size
unfolding arguments_is
returns-then-not-size c =
    let lawful : lawful_options (options_is c.args.a.options) ≡ true = sym c.lawful.ensures ∙ c.if-not-lawful.false in
    let long = sym (ap (λ (m : Measured). m.fit) c.measure-size.ensures) ∙ not-true _ c.if-not-size.true in
    refuses _ RefusedPatterns
    (decided_long _ _ (not-false _ c.if-not-a.false) lawful _ (kept_few _ _ c.if-count-gt-MAX_PATTERNS.false)
    long)

pub returns-then-a-size : goal.returns-then-a-size
unfolding arguments_is
returns-then-a-size c =
    let lawful : lawful_options (options_is c.args.a.options) ≡ true = sym c.lawful.ensures ∙ c.if-not-lawful.false in
    let fit : every short (canonical_of c.args.text.now c.args.a.reference c.args.a.patterns) ≡ true = sym (ap (λ (m : Measured). m.fit) c.measure-size.ensures) ∙ not-false _ c.if-not-size.false in
    let text = c.args.text.now in
    let a = c.args.a in
    let root = ap (λ (m : Measured). not a.extended && eqb m.count 0) (sym c.measure-size.ensures) ∙ c.if-a-size.true in
    asks_root_lem _ _ c.bare.ensures
    (decided_root _ (arguments_is text a) (not-false _ c.if-not-a.false) lawful _
    (kept_few _ _ c.if-count-gt-MAX_PATTERNS.false) fit root)
    (λ g. g.tagged)

pub returns : goal.returns
unfolding arguments_is meaning_of meaning_as patterns_of command_of
returns c =
    let lawful : lawful_options (options_is c.args.a.options) ≡ true = sym c.lawful.ensures ∙ c.if-not-lawful.false in
    let fit : every short (canonical_of c.args.text.now c.args.a.reference c.args.a.patterns) ≡ true = sym (ap (λ (m : Measured). m.fit) c.measure-size.ensures) ∙ not-false _ c.if-not-size.false in
    let text = c.args.text.now in
    let a = c.args.a in
    let list = ap (λ (m : Measured). not a.extended && eqb m.count 0) (sym c.measure-size.ensures) ∙ c.if-a-size.false in
    record {
      means =
          sym (decided_list _ (arguments_is text a) (not-false _ c.if-not-a.false) lawful _
          (kept_few _ _ c.if-count-gt-MAX_PATTERNS.false) fit list);
      inside = λ g. inside_list _ _ _ g c.if-count-gt-MAX_PATTERNS.false;
    }
