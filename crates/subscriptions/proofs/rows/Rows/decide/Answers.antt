-- `Rows::decide` meets its contract: the place, whether the name stands there, and one law for each way on. By DecideLaws.
use Rattle.std.specs.Prelude.{Ok}
use Rattle.listing_rules.proofs.Prelude.{◌∙◌, ◌≡◌, ap, sym, false, true, ◌<◌, arith, length}
use Rattle.mailbox_table.specs.declared.rows.Row.{Row}
use Rattle.subscriptions.specs.Plans.{setting_plan, clearing_plan, stands_at}
use Rattle.subscriptions.proofs.DecideLaws.{stands_inside, decide_fresh, decide_none, decide_set, decide_clear}
use Rattle.subscriptions.proofs.rows.Rows.decide.Goals as goal

pub returns-then-subscribe : goal.returns-then-subscribe
returns-then-subscribe c =
    let missing : let a = c.args in stands_at a.self.area.now a.self.words.now
    c.place_of-k.result a.name.now ≡ false = sym c.stands_at.ensures ∙ c.if-not-stands_at.true in
    rw c.if-subscribe.true (c.insertion.ensures ∙ sym (decide_fresh (record { ascend = c.args.self.ascend; inside = c.args.self.inside }) _ _ c.place_of-k.ensures missing))

pub returns-then-not-stands_at : goal.returns-then-not-stands_at
returns-then-not-stands_at c =
    let missing : let a = c.args in stands_at a.self.area.now a.self.words.now
    c.place_of-k.result a.name.now ≡ false = sym c.stands_at.ensures ∙ c.if-not-stands_at.true in
    sym (rw c.if-subscribe.false (decide_none (record { ascend = c.args.self.ascend; inside = c.args.self.inside }) _ _ c.place_of-k.ensures missing))

pub offset_bounds-self-k : goal.offset_bounds-self-k
offset_bounds-self-k c =
    let there : let a = c.args in stands_at a.self.area.now a.self.words.now
    c.place_of-k.result a.name.now ≡ true = sym c.stands_at.ensures ∙ c.if-not-stands_at.false in
    let inside : c.place_of-k.result < length c.args.self.words.now = stands_inside _ _ _ _ there in
    omega (arith, inside)

pub bounds-self-k : goal.bounds-self-k
bounds-self-k c =
    let there : let a = c.args in stands_at a.self.area.now a.self.words.now
    c.place_of-k.result a.name.now ≡ true = sym c.stands_at.ensures ∙ c.if-not-stands_at.false in
    let inside : c.place_of-k.result < length c.args.self.words.now = stands_inside _ _ _ _ there in
    inside

pub returns-then-subscribe-2 : goal.returns-then-subscribe-2
returns-then-subscribe-2 c =
    let there : let a = c.args in stands_at a.self.area.now a.self.words.now
    c.place_of-k.result a.name.now ≡ true = sym c.stands_at.ensures ∙ c.if-not-stands_at.false in
    ap Ok c.setting.ensures
    ∙ ap (λ (r : Row). Ok (setting_plan c.place_of-k.result r.flags.bits)) c.of_word-row.ensures
    ∙ sym (rw c.if-subscribe-2.true (decide_set (record { ascend = c.args.self.ascend; inside = c.args.self.inside }) _ _ c.place_of-k.ensures there))

pub returns : goal.returns
returns c =
    let there : let a = c.args in stands_at a.self.area.now a.self.words.now
    c.place_of-k.result a.name.now ≡ true = sym c.stands_at.ensures ∙ c.if-not-stands_at.false in
    ap Ok c.clearing.ensures
    ∙ ap (λ (r : Row). Ok (clearing_plan c.place_of-k.result r.flags.bits)) c.of_word-row.ensures
    ∙ sym (rw c.if-subscribe-2.false (decide_clear (record { ascend = c.args.self.ascend; inside = c.args.self.inside }) _ _ c.place_of-k.ensures there))
