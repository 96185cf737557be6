-- `list_answer::attributes::with_uses` meets its contract: a member more with each line, or none.
use Rattle.listing_rules.proofs.Prelude.{◌∙◌, ◌≡◌, refl, sym, ◌&&◌, and-false, and-true, true, ◌^◌, ℕ}
use Rattle.listing_rules.specs.Bytes.{bit}
use Rattle.listing_rules.specs.Listing.{in_order}
use Rattle.octets.specs.Sets.{contains}
use Rattle.octets.proofs.Sets.{contains_bit}
use Rattle.list_answer.specs.Sets.{adds}
use Rattle.list_answer.specs.Attributes.{use_attributes}
use Rattle.list_answer.proofs.Sets.{more}
use Rattle.list_answer.proofs.attributes.with_uses.Goals as goal

-- a use that is asked shows where its flag is set
shown : (k f : ℕ) → contains f (2 ^ k) ≡ (bit k f && true)
shown k f = contains_bit k f ∙ sym (and-true (bit k f))

pub returns-then-not-asked : goal.returns-then-not-asked
unfolding adds use_attributes in_order
returns-then-not-asked c =
    let f = c.args.flags.bits in
    rw (
      c.if-not-asked.true,
      and-false (bit 8 f),
      and-false (bit 9 f),
      and-false (bit 10 f),
      and-false (bit 11 f),
      and-false (bit 12 f),
      and-false (bit 13 f),
      and-false (bit 14 f),
    )

pub returns : goal.returns
unfolding adds use_attributes in_order
returns c =
    let f = c.args.flags.bits in
    let own : ◌≡◌ {A = ℕ} _ c.args.own.bits = refl in
    let s1 = more 128 own (shown 8 f) c.with_flag-set.ensures in
    let s2 = more 256 s1 (shown 9 f) c.with_flag-set-2.ensures in
    let s3 = more 512 s2 (shown 10 f) c.with_flag-set-3.ensures in
    let s4 = more 1024 s3 (shown 11 f) c.with_flag-set-4.ensures in
    let s5 = more 2048 s4 (shown 12 f) c.with_flag-set-5.ensures in
    let s6 = more 4096 s5 (shown 13 f) c.with_flag-set-6.ensures in
    rw c.if-not-asked.false (more 8192 s6 (shown 14 f) c.with_flag.ensures)
