-- Reading on, or the refusal: one reading after the other, the reference and the space after it, the end of the line. Rests on Returning.
use Rattle.listing_rules.proofs.Prelude.{◌∙◌, ◌≡◌, refl, sym, cond, Option, none, some, List, ◌<◌, ◌≤◌, ℕ, drop, length}
use Rattle.listing_rules.specs.Bytes.{text, is_empty}
use Rattle.listing_rules.specs.Tokens.{Got, got, ◌>>=◌, after, astring}
use Rattle.listing_rules.specs.Command.{Parsed, refused, or_refuse}
use Rattle.command_tokens.specs.Tokens.{argument}
use Rattle.command_line.proofs.Returning.{empty_out, empty_not}

-- what was read, or the refusal
module _ {A : Type 0} (k : ℕ) {x : Option A} (go : A → Parsed) where
  pub read_on : {a : A} → x ≡ some a → or_refuse k x go ≡ go a
  unfolding or_refuse
  read_on e = rw e

  pub read_off : x ≡ none → or_refuse k x go ≡ refused k
  unfolding or_refuse
  read_off e = rw e

module _ {A B : Type 0} (x : Option A) where
  -- two readings, one after the other
  pub refuse_bind : (f : A → Option B) (go : B → Parsed) → or_refuse 4 (x >>= f) go ≡ or_refuse 4 x (λ a. or_refuse 4 (f a) go)
  refuse_bind f go = each x
    where
      each : (y : Option A) → or_refuse 4 (y >>= f) go ≡ or_refuse 4 y (λ a. or_refuse 4 (f a) go)
      each none = unfold or_refuse ◌>>=◌ in refl
      each (some a) = unfold or_refuse ◌>>=◌ in refl

  -- what was read, as something else
  pub refuse_map : (f : A → B) (go : B → Parsed) → or_refuse 4 (x >>= λ a. some (f a)) go ≡ or_refuse 4 x (λ a. go (f a))
  refuse_map f go = each x
    where
      each : (y : Option A) → or_refuse 4 (y >>= λ a. some (f a)) go ≡ or_refuse 4 y (λ a. go (f a))
      each none = unfold or_refuse ◌>>=◌ in refl
      each (some a) = unfold or_refuse ◌>>=◌ in refl

pub refuse_cong : {A : Type 0} (x : Option A) (f g : A → Parsed) → ((a : A) → f a ≡ g a) → or_refuse 4 x f ≡ or_refuse 4 x g
unfolding or_refuse
refuse_cong none f g h = refl
refuse_cong (some a) f g h = h a

-- ---- the reference and the space after it

-- after the reference
after_reference : (List ℕ → List ℕ → Parsed) → Got (List ℕ) → Parsed
after_reference next r = or_refuse 4 (after (text " ") r.rest) (next r.val)

-- a space, the reference and a space; and what is next, over the reference and the rest of the line
pub referred : List ℕ → (List ℕ → List ℕ → Parsed) → Parsed
referred t next = or_refuse 4 (argument t) (after_reference next)

-- so it is in document 01
pub referred_is : {B : Type 0} (t : List ℕ) (f : Got (List ℕ) → List ℕ → Option B) (go : B → Parsed) (next : List ℕ → List ℕ → Parsed) →
    ((r : Got (List ℕ)) (v : List ℕ) → or_refuse 4 (f r v) go ≡ next r.val v) →
    or_refuse 4 (after (text " ") t >>= λ u. astring u >>= λ r. after (text " ") r.rest >>= f r) go ≡ referred t next
unfolding referred after_reference argument
referred_is t f go next h =
    refuse_bind (after (text " ") t) _ go
    ∙ refuse_cong (after (text " ") t) _ (λ u. or_refuse 4 (astring u) (after_reference next)) (λ u.
    refuse_bind (astring u) _ go
    ∙ refuse_cong (astring u) _ (after_reference next) (λ r.
    refuse_bind (after (text " ") r.rest) (f r) go
    ∙ refuse_cong (after (text " ") r.rest) _ (next r.val) (h r)))
    ∙ sym (refuse_bind (after (text " ") t) (λ u. astring u) (after_reference next))

module _ (t : List ℕ) (next : List ℕ → List ℕ → Parsed) where
  pub reference_off : argument t ≡ none → referred t next ≡ refused 4
  unfolding referred
  reference_off e = read_off 4 _ e

  module _ (a u : List ℕ) (e : argument t ≡ some (got a u)) where
    pub reference_alone : after (text " ") u ≡ none → referred t next ≡ refused 4
    unfolding referred after_reference got
    reference_alone q = read_on 4 (after_reference next) e ∙ read_off 4 _ q

    pub reference_read : (v : List ℕ) → after (text " ") u ≡ some v → referred t next ≡ next a v
    unfolding referred after_reference got
    reference_read v q = read_on 4 (after_reference next) e ∙ read_on 4 (next a) q

-- ---- the end of the line

module _ {A : Type 0} (s : List ℕ) (i : ℕ) (a : A) (go : A → Parsed) where
  pub line_ends : length s ≤ i → or_refuse 4 (cond (is_empty (drop i s)) (some a) none) go ≡ go a
  unfolding or_refuse
  line_ends h = rw (empty_out s i h)

  pub line_goes_on : i < length s → or_refuse 4 (cond (is_empty (drop i s)) (some a) none) go ≡ refused 4
  unfolding or_refuse
  line_goes_on h = rw (empty_not s i h)
