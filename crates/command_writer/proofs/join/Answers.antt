-- `join` meets its contract: the first pass measures the line, the tests come in the order of Refusals, and the second pass writes
-- (`written-fits`, `written-short`).
use Rattle.listing_rules.proofs.Prelude.{◌∙◌, ◌≡◌, refl, sym, true, ◌≤◌, arith, length}
use Rattle.listing_rules.specs.Options.{lawful_options}
use Rattle.listing_rules.specs.Joining.{lawful_set, options_from}
use Rattle.listing_rules.specs.Server.{limited, buffer_after}
use Rattle.octets.specs.Written.{written_is}
use Rattle.octets.proofs.Writing.{written_fits, written_short}
use Rattle.command_writer.proofs.Refusals.{joined, stands, grammatical, few, line_long, line_unheld, line_off, line_unknown, line_alone}
use Rattle.command_writer.proofs.Refusals.{line_many, line_joined}
use Rattle.command_writer.proofs.join.Goals as goal

pub returns-then-need-gt-MAX_LINE : goal.returns-then-need-gt-MAX_LINE
unfolding limited written_is buffer_after
returns-then-need-gt-MAX_LINE c =
    rw (line_long c.args.tag.now c.args.options c.args.reference.now c.args.patterns.now
    (omega (arith, c.put_join-need.ensures.place)))
    (refl, refl)

pub returns-then-not-all_stand : goal.returns-then-not-all_stand
unfolding limited written_is buffer_after
returns-then-not-all_stand c =
    let measured : length (joined c.args.tag.now c.args.options c.args.reference.now
    c.args.patterns.now) ≤ 2048 = omega (arith, c.put_join-need.ensures.place) in
    rw
    (line_unheld c.args.tag.now c.args.options c.args.reference.now c.args.patterns.now
    measured
    (sym c.all_stand.ensures ∙ c.if-not-all_stand.true))
    (refl, refl)

pub returns-then-not-is_grammatical : goal.returns-then-not-is_grammatical
unfolding limited written_is buffer_after
returns-then-not-is_grammatical c =
    let measured : length (joined c.args.tag.now c.args.options c.args.reference.now
    c.args.patterns.now) ≤ 2048 = omega (arith, c.put_join-need.ensures.place) in
    let held : stands c.args.tag.now c.args.options c.args.reference.now c.args.patterns.now ≡ true = sym c.all_stand.ensures ∙ c.if-not-all_stand.false in
    rw
    (line_off c.args.tag.now c.args.options c.args.reference.now c.args.patterns.now
    measured held
    (sym c.is_grammatical.ensures ∙ c.if-not-is_grammatical.true))
    (refl, refl)

pub returns-then-not-is_known : goal.returns-then-not-is_known
unfolding limited written_is buffer_after
returns-then-not-is_known c =
    let measured : length (joined c.args.tag.now c.args.options c.args.reference.now
    c.args.patterns.now) ≤ 2048 = omega (arith, c.put_join-need.ensures.place) in
    let held : stands c.args.tag.now c.args.options c.args.reference.now c.args.patterns.now ≡ true = sym c.all_stand.ensures ∙ c.if-not-all_stand.false in
    let read : grammatical c.args.tag.now c.args.options c.args.reference.now c.args.patterns.now ≡
    true = sym c.is_grammatical.ensures ∙ c.if-not-is_grammatical.false in
    rw
    (line_unknown c.args.tag.now c.args.options c.args.reference.now c.args.patterns.now
    measured held read
    (sym c.is_known.ensures ∙ c.if-not-is_known.true))
    (refl, refl)

pub returns-then-not-is_lawful : goal.returns-then-not-is_lawful
unfolding limited written_is buffer_after
returns-then-not-is_lawful c =
    let measured : length (joined c.args.tag.now c.args.options c.args.reference.now
    c.args.patterns.now) ≤ 2048 = omega (arith, c.put_join-need.ensures.place) in
    let held : stands c.args.tag.now c.args.options c.args.reference.now c.args.patterns.now ≡ true = sym c.all_stand.ensures ∙ c.if-not-all_stand.false in
    let read : grammatical c.args.tag.now c.args.options c.args.reference.now c.args.patterns.now ≡
    true = sym c.is_grammatical.ensures ∙ c.if-not-is_grammatical.false in
    let known : lawful_set c.args.options ≡ true = sym c.is_known.ensures ∙ c.if-not-is_known.false in
    rw
    (line_alone c.args.tag.now c.args.options c.args.reference.now c.args.patterns.now
    measured held read known
    (sym c.is_lawful.ensures ∙ c.if-not-is_lawful.true))
    (refl, refl)

pub returns-then-not-few_patterns : goal.returns-then-not-few_patterns
unfolding limited written_is buffer_after
returns-then-not-few_patterns c =
    let measured : length (joined c.args.tag.now c.args.options c.args.reference.now
    c.args.patterns.now) ≤ 2048 = omega (arith, c.put_join-need.ensures.place) in
    let held : stands c.args.tag.now c.args.options c.args.reference.now c.args.patterns.now ≡ true = sym c.all_stand.ensures ∙ c.if-not-all_stand.false in
    let read : grammatical c.args.tag.now c.args.options c.args.reference.now c.args.patterns.now ≡
    true = sym c.is_grammatical.ensures ∙ c.if-not-is_grammatical.false in
    let known : lawful_set c.args.options ≡ true = sym c.is_known.ensures ∙ c.if-not-is_known.false in
    let lawful : lawful_options (options_from c.args.options) ≡ true = sym c.is_lawful.ensures ∙ c.if-not-is_lawful.false in
    rw
    (line_many c.args.tag.now c.args.options c.args.reference.now c.args.patterns.now
    measured held read known lawful
    (sym c.few_patterns.ensures ∙ c.if-not-few_patterns.true))
    (refl, refl)

pub returns-then-out-need : goal.returns-then-out-need
returns-then-out-need c =
    let measured : length (joined c.args.tag.now c.args.options c.args.reference.now
    c.args.patterns.now) ≤ 2048 = omega (arith, c.put_join-need.ensures.place) in
    let held : stands c.args.tag.now c.args.options c.args.reference.now c.args.patterns.now ≡ true = sym c.all_stand.ensures ∙ c.if-not-all_stand.false in
    let read : grammatical c.args.tag.now c.args.options c.args.reference.now c.args.patterns.now ≡
    true = sym c.is_grammatical.ensures ∙ c.if-not-is_grammatical.false in
    let known : lawful_set c.args.options ≡ true = sym c.is_known.ensures ∙ c.if-not-is_known.false in
    let lawful : lawful_options (options_from c.args.options) ≡ true = sym c.is_lawful.ensures ∙ c.if-not-is_lawful.false in
    let short : few c.args.tag.now c.args.options c.args.reference.now c.args.patterns.now ≡ true = sym c.few_patterns.ensures ∙ c.if-not-few_patterns.false in
    rw
    (line_joined c.args.tag.now c.args.options c.args.reference.now c.args.patterns.now
    measured held read known lawful short)
    (written_short _ _ (omega (arith, c.put_join-need.ensures.place)))

pub returns : goal.returns
returns c =
    let measured : length (joined c.args.tag.now c.args.options c.args.reference.now
    c.args.patterns.now) ≤ 2048 = omega (arith, c.put_join-need.ensures.place) in
    let held : stands c.args.tag.now c.args.options c.args.reference.now c.args.patterns.now ≡ true = sym c.all_stand.ensures ∙ c.if-not-all_stand.false in
    let read : grammatical c.args.tag.now c.args.options c.args.reference.now c.args.patterns.now ≡
    true = sym c.is_grammatical.ensures ∙ c.if-not-is_grammatical.false in
    let known : lawful_set c.args.options ≡ true = sym c.is_known.ensures ∙ c.if-not-is_known.false in
    let lawful : lawful_options (options_from c.args.options) ≡ true = sym c.is_lawful.ensures ∙ c.if-not-is_lawful.false in
    let short : few c.args.tag.now c.args.options c.args.reference.now c.args.patterns.now ≡ true = sym c.few_patterns.ensures ∙ c.if-not-few_patterns.false in
    rw
    (line_joined c.args.tag.now c.args.options c.args.reference.now c.args.patterns.now
    measured held read known lawful short)
    (written_fits c.args.out.now (joined c.args.tag.now c.args.options c.args.reference.now c.args.patterns.now)
    c.put_join.ensures (omega
    (arith, c.put_join-need.ensures.place, c.if-out-need.false)))
