-- The six lawful option bytes and a walk's options are one to one, and the options tell what their byte selects. Rests on the law
-- of octets on a member by its place.
use Rattle.std.specs.Prelude.{Option, Some, None, Ok, Err, ok_or}
use Rattle.listing_rules.proofs.Prelude.{◌∙◌, ◌≡◌, ap, refl, sym, Bool, ◌||◌, cond, false, not, true, ◌≤◌, suc, zero, ℕ, arith, leb, leb-true}
use Rattle.listing_rules.proofs.Keys.{open_bytes}
use Rattle.listing_rules.specs.Walk.{wants_remote, wants_special, drops_subscribed, lawful_byte}
use Rattle.listing_rules.proofs.Bools.{and_l}
use Rattle.octets.specs.declared.refusals.Refusal.{Refusal}
use Rattle.octets.specs.declared.refusals.Refusal.TheVariants.{UnknownOption}
use Rattle.octets.specs.Sets.{contains}
use Rattle.octets.proofs.Sets.{contains_bit}
use Rattle.collector.specs.Options.{with_subscribed, with_special_use, byte_of, criteria_of, asked_by}
use Rattle.collector.specs.declared.options.WalkCriteria.{WalkCriteria}
use Rattle.collector.specs.declared.options.WalkCriteria.TheVariants.{Subscribed, Both, SpecialUse}
use Rattle.collector.specs.declared.options.WalkOptions.{WalkOptions}

-- nothing was there where `ok_or` refuses, and what it took was there
module _ {A : Type 0} (k : Refusal) where
  pub none_refused : {r : Option A} {e : Refusal} → Err e ≡ ok_or r k → (r ≡ None) × (e ≡ k)
  none_refused {r} {e} a = pick r a
    where
      pick : (r : Option A) → Err e ≡ ok_or r k → (r ≡ None) × (e ≡ k)
      pick (Some x) z = cc
      pick None z = (refl, cc)

  pub some_kept : {r : Option A} {x : A} → Ok x ≡ ok_or r k → r ≡ Some x
  some_kept {r} {x} a = pick r a
    where
      pick : (r : Option A) → Ok x ≡ ok_or r k → r ≡ Some x
      pick (Some y) z = cc
      pick None z = cc

-- the members of a byte, as the code tests them
pub has_remote : (o : ℕ) → contains o 1 ≡ wants_remote o
unfolding wants_remote
has_remote o = contains_bit 0 o

pub has_special : (o : ℕ) → contains o 2 ≡ wants_special o
unfolding wants_special
has_special o = contains_bit 1 o

pub has_dropped : (o : ℕ) → contains o 4 ≡ drops_subscribed o
unfolding drops_subscribed
has_dropped o = contains_bit 2 o

-- what holds of the six
abbrev pub these : WalkCriteria → Bool → WalkOptions
these k r = record { criteria = k; remote = r }

pub each : (P : WalkOptions → Type 0) → P (these Subscribed false) → P (these Subscribed true) → P (these Both false) → P (these Both true) →
    P (these SpecialUse false) → P (these SpecialUse true) → (w : WalkOptions) → P w
each P p₀ p₁ p₂ p₃ p₆ p₇ w = go w.criteria w.remote
  where
    go : (k : WalkCriteria) (r : Bool) → P (these k r)
    go Subscribed false = p₀
    go Subscribed true = p₁
    go Both false = p₂
    go Both true = p₃
    go SpecialUse false = p₆
    go SpecialUse true = p₇

pub byte_lawful : (w : WalkOptions) → lawful_byte (byte_of w) ≡ true
unfolding byte_of lawful_byte wants_special drops_subscribed open_bytes
byte_lawful = each (λ w. lawful_byte (byte_of w) ≡ true) refl refl refl refl refl refl

-- what the byte selects
pub byte_remote : (w : WalkOptions) → wants_remote (byte_of w) ≡ w.remote
unfolding byte_of wants_remote open_bytes
byte_remote = each (λ w. wants_remote (byte_of w) ≡ w.remote) refl refl refl refl refl refl

pub byte_special : (w : WalkOptions) → wants_special (byte_of w) ≡ with_special_use w.criteria
unfolding byte_of wants_special open_bytes
byte_special = each (λ w. wants_special (byte_of w) ≡ with_special_use w.criteria) refl refl refl refl refl refl

pub byte_drops : (w : WalkOptions) → drops_subscribed (byte_of w) ≡ not (with_subscribed w.criteria)
unfolding byte_of drops_subscribed open_bytes
byte_drops = each (λ w. drops_subscribed (byte_of w) ≡ not (with_subscribed w.criteria)) refl refl refl refl refl refl

pub byte_subscribed : (w : WalkOptions) → not (drops_subscribed (byte_of w)) ≡ with_subscribed w.criteria
unfolding byte_of drops_subscribed open_bytes
byte_subscribed = each (λ w. not (drops_subscribed (byte_of w)) ≡ with_subscribed w.criteria) refl refl refl refl refl refl

-- the byte asks for the options that it is of
pub byte_asks : (w : WalkOptions) → asked_by (byte_of w) ≡ Some w
unfolding byte_of asked_by criteria_of lawful_byte wants_remote wants_special drops_subscribed open_bytes
byte_asks = each (λ w. asked_by (byte_of w) ≡ Some w) refl refl refl refl refl refl

-- the byte of the options that a lawful byte asks for is that byte
lawful_back : (o : ℕ) → lawful_byte o ≡ true → byte_of (these (criteria_of o) (wants_remote o)) ≡ o
unfolding byte_of criteria_of lawful_byte wants_remote wants_special drops_subscribed open_bytes
lawful_back o h = go o (leb-true o 7 (and_l (leb o 7) (not (drops_subscribed o) || wants_special o) h)) h
  where
    go : (o : ℕ) → o ≤ 7 → lawful_byte o ≡ true → byte_of (these (criteria_of o) (wants_remote o)) ≡ o
    go zero few h = refl
    go (suc zero) few h = refl
    go (suc (suc zero)) few h = refl
    go (suc (suc (suc zero))) few h = refl
    go (suc (suc (suc (suc zero)))) few h = cc
    go (suc (suc (suc (suc (suc zero))))) few h = cc
    go (suc (suc (suc (suc (suc (suc zero)))))) few h = refl
    go (suc (suc (suc (suc (suc (suc (suc zero))))))) few h = refl
    go (suc (suc (suc (suc (suc (suc (suc (suc o)))))))) few h = absurd (omega arith)

pub lawful_asks : (o : ℕ) → lawful_byte o ≡ true → (w : WalkOptions) × (asked_by o ≡ Some w) × (byte_of w ≡ o)
unfolding asked_by
lawful_asks o h = (these (criteria_of o) (wants_remote o), rw h, lawful_back o h)

pub unlawful_asks : (o : ℕ) → lawful_byte o ≡ false → asked_by o ≡ None
unfolding asked_by
unlawful_asks o h = rw h

-- what is known of a byte by what it asks for
asked_byte : (o : ℕ) {w : WalkOptions} → asked_by o ≡ Some w → byte_of w ≡ o
unfolding asked_by
asked_byte o {w} e = pick (lawful_byte o) refl e
  where
    pick : (b : Bool) → lawful_byte o ≡ b → cond b (Some (these (criteria_of o) (wants_remote o))) None ≡ Some w → byte_of w ≡ o
    pick true h g = let y : these (criteria_of o) (wants_remote o) ≡ w = cc in ap byte_of (sym y) ∙ lawful_back o h
    pick false h g = cc

asked_none : (o : ℕ) → asked_by o ≡ None → lawful_byte o ≡ false
unfolding asked_by
asked_none o e = pick (lawful_byte o) e
  where
    pick : (b : Bool) → cond b (Some (these (criteria_of o) (wants_remote o))) None ≡ None → b ≡ false
    pick true g = cc
    pick false g = refl

pub byte_taken : (o : ℕ) {w : WalkOptions} → Ok w ≡ ok_or (asked_by o) UnknownOption → byte_of w ≡ o
byte_taken o e = asked_byte o (some_kept UnknownOption e)

pub byte_refused : (o : ℕ) {e : Refusal} → Err e ≡ ok_or (asked_by o) UnknownOption → (lawful_byte o ≡ false) × (e ≡ UnknownOption)
byte_refused o e = let n = none_refused UnknownOption e in (asked_none o n.0, n.1)
