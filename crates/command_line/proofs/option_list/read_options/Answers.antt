-- `read_options`: what was kept of the options so far, and what is left of the list, come to the whole list. Rests on Listing, and on
-- Parted of command_tokens.
use Rattle.listing_rules.proofs.Prelude.{◌∙◌, ◌≡◌, ap, sym, ◌&&◌, false, not, some, ◌+◌, ◌<◌, ◌≤◌, arith, eqb, drop, length}
use Rattle.listing_rules.specs.Tokens.{got}
use Rattle.listing_rules.specs.Command.{Opt, option}
use Rattle.command_tokens.specs.Spans.{span_bytes}
use Rattle.command_tokens.proofs.Binds.{bind_go, bare_bytes}
use Rattle.command_tokens.proofs.Bytes.{inside}
use Rattle.command_tokens.proofs.Parted.{parting_first, parting_off, parting_close, parting_other, parting_space}
use Rattle.command_line.specs.OptionSets.{member_of, Marks, marking, marked, summed, marks_of, listed_is}
use Rattle.command_line.proofs.Listing.{options_none, options_some, written_word, written_absent, written_ahead, marking_is, summed_more}
use Rattle.command_line.proofs.option_list.read_options.Goals as goal
use Rattle.command_line.proofs.option_list.read_options.Goals.{After-byte_at-b}

pub returns-then-byte_at-eq41 : goal.returns-then-byte_at-eq41
unfolding listed_is marks_of summed marked got
returns-then-byte_at-eq41 c =
    rw c.none.ensures (sym (bind_go _ (options_none _ c.args.first.at (sym c.byte_at.ensures ∙ c.if-byte_at-eq41.true))))

pub loop-option-init : goal.loop-option-init
unfolding marks_of
loop-option-init c =
    rw (options_some _ _ (λ e. c.if-byte_at-eq41.false (c.byte_at.ensures ∙ e))) (parting_first option _ _ _)

-- no option
pub returns-in_err-option : goal.returns-in_err-option
unfolding listed_is
returns-in_err-option c =
    rw c.from_residual.ensures
    (sym (parting_off option _ _ _ _ c.loop-option.invariant (written_absent _ c.read_option.ensures.result_value c.in_err-option.was)))

-- an option, what is kept with it, and the byte behind it
module _ (c : After-byte_at-b) where
  abbrev opt : Opt
  opt = record { word = span_bytes c.args.text.now c.in_ok-option.option.word; valued = c.in_ok-option.option.valued }

  abbrev before : Marks
  before = record { set = c.loop-option.set.bits; known = c.loop-option.known }

  abbrev with : Marks
  with = record { set = c.union-set.result.bits; known = c.loop-option.known && not opt.valued && not (eqb c.member-member.result.bits 0) }

  read : option (drop c.loop-option.at c.args.text.now) ≡ some (got opt (drop c.in_ok-option.option.behind.at c.args.text.now))
  read = written_word _ c.read_option.ensures.result_value c.in_ok-option.was

  ahead : (c.in_ok-option.option.word.quoted ≡ false) × (c.loop-option.at < c.in_ok-option.option.behind.at) ×
      (c.in_ok-option.option.behind.at ≤ length c.args.text.now)
  ahead = written_ahead _ _ c.read_option.ensures.written_in c.in_ok-option.was

  kept : with ≡ marking c.args.place before opt
  kept =
      let member : c.member-member.result.bits ≡ member_of c.args.place opt.word = c.member-member.ensures
      ∙ ap (member_of c.args.place) (c.raw.ensures ∙ sym (bare_bytes _ _ ahead.0)) in
      marking_is c.args.place before opt.valued opt.word _ _ member c.union-set.ensures

  further : 0 < c.byte_at-b.result → c.in_ok-option.option.behind.at < length c.args.text.now
  further h = inside c.args.text.now _ (omega (arith, c.byte_at-b.ensures))

-- an option and the closing parenthesis
pub returns-then-b-eq41 : goal.returns-then-b-eq41
unfolding listed_is summed marked got
returns-then-b-eq41 c =
    let at = (goal.at.returns-then-b-eq41 c).After-byte_at-b in
    let to = c.in_ok-option.option.behind.at in
    let last = parting_close option _ _ _ _ c.loop-option.invariant (opt at) to (read at) (ahead at).1 (ahead at).2
    (sym c.byte_at-b.ensures ∙ c.if-b-eq41.true) in
    ap (λ (m : Marks). some (got m (drop (to + 1) c.args.text.now))) (kept at) ∙ sym last

-- an option and another byte
pub returns-then-b-ne32 : goal.returns-then-b-ne32
unfolding listed_is
returns-then-b-ne32 c =
    let at = (goal.at.returns-then-b-ne32 c).After-byte_at-b in
    let byte = c.byte_at-b.ensures in
    sym (parting_other option _ _ _ _ c.loop-option.invariant (opt at) c.in_ok-option.option.behind.at (read at) (ahead at).1 (ahead at).2
    (λ e. c.if-b-eq41.false (byte ∙ e)) (λ e. c.if-b-ne32.true (byte ∙ e)))

pub loop-option-smaller : goal.loop-option-smaller
loop-option-smaller c =
    let at = (goal.at.loop-option-smaller c).After-byte_at-b in
    omega (arith, (ahead at).1, further at (omega arith))

-- an option and a space
pub loop-option-preserved : goal.loop-option-preserved
loop-option-preserved c =
    let at = (goal.at.loop-option-preserved c).After-byte_at-b in
    parting_space option _ (summed c.args.place (with at)) _ _ _ c.loop-option.invariant (opt at) c.in_ok-option.option.behind.at (read at)
    (ahead at).1 (ahead at).2 (sym c.byte_at-b.ensures ∙ c.if-b-ne32.false)
    (λ r. summed_more c.args.place (before at) (opt at) r ∙ ap (λ (m : Marks). summed c.args.place m r) (sym (kept at)))
