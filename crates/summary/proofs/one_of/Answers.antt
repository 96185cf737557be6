-- `summary::one_of` meets its contract: by the three flags, as CountLaws has them.
use Rattle.listing_rules.proofs.Prelude.{◌∙◌, ap, sym, Bool, cond, ◌+◌, arith}
use Rattle.listing_rules.specs.Flags.{exists, subscribed, remote}
use Rattle.octets.proofs.Sets.{contains_bit}
use Rattle.summary.proofs.CountLaws.{one_remote, one_local, cond_small}
use Rattle.summary.proofs.one_of.Goals as goal

pub overflow_add-result : goal.overflow_add-result
overflow_add-result c =
    record {
      fits = omega (
        arith,
        c.if_so.ensures,
        c.if_so-then-has.ensures,
        cond_small c.has-subscribed.result 65536,
        cond_small c.has-exists.result 281474976710656,
      );
    }

pub returns-then-has : goal.returns-then-has
unfolding remote subscribed exists
returns-then-has c =
    let f = c.args.flags.bits in
    (λ i. (c.if_so.ensures ∙ ap (λ (b : Bool). cond b 65536 0) (c.has-subscribed.ensures ∙ contains_bit 1 f))
    i
    + (c.if_so-then-has.ensures ∙ ap (λ (b : Bool). cond b 281474976710656 0) (c.has-exists.ensures ∙ contains_bit 0 f)) i)
    ∙ sym (one_remote f (sym (contains_bit 2 f) ∙ sym c.has.ensures ∙ c.if-has.true))

pub overflow_add-result-2 : goal.overflow_add-result-2
overflow_add-result-2 c =
    record {
      fits = omega (
        arith,
        c.if_so-2.ensures,
        c.if_so-3.ensures,
        cond_small c.has-subscribed.result 1,
        cond_small c.has-exists.result 4294967296,
      );
    }

pub returns : goal.returns
unfolding remote subscribed exists
returns c =
    let f = c.args.flags.bits in
    (λ i. (c.if_so-2.ensures ∙ ap (λ (b : Bool). cond b 1 0) (c.has-subscribed.ensures ∙ contains_bit 1 f)) i
    + (c.if_so-3.ensures ∙ ap (λ (b : Bool). cond b 4294967296 0) (c.has-exists.ensures ∙ contains_bit 0 f)) i)
    ∙ sym (one_local f (sym (contains_bit 2 f) ∙ sym c.has.ensures ∙ c.if-has.false))
