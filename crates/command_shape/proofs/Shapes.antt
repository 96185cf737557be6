-- The shape of a line, one byte at a time: from a place on it is one command exactly if the whole line is. Rests on Steps.
use Rattle.listing_rules.proofs.Prelude.{◌∙◌, ◌≡◌, ap, refl, subst, sym, Bool, ◌&&◌, cond, false, false≢true, true, List, [], ◌∷◌, ◌+◌, ◌<◌, ◌≤◌, ℕ}
use Rattle.listing_rules.proofs.Prelude.{add-one, dec_le, arith, leb, drop, drop_of_length-le, get_or, length, drop-cons, le-leb, lt-leb}
use Rattle.listing_rules.specs.Bytes.{is_empty}
use Rattle.listing_rules.specs.Feeder.{Feeder, reading, in_literal, dropping, Event, quiet, handed, go_on, denied, AfterByte, gives, first, last_is}
use Rattle.listing_rules.specs.Feeder.{ends_line, offends, refusing, text_byte, fed_byte, allowed, still_one, one_command}
use Rattle.listing_rules.proofs.FeederLaws.{ends_snoc}
use Rattle.command_shape.specs.declared.machine.Machine.{Machine}
use Rattle.command_shape.specs.declared.shaping.Shaping.TheVariants.{Bad, Last, Further}
use Rattle.command_shape.specs.Machine.{first_is, machine_of, signal_of}
use Rattle.command_shape.specs.Shaping.{allowed_at, allowed_by, shaping_as, shape_step}
use Rattle.command_shape.proofs.Tails.{line_cr}
use Rattle.command_shape.proofs.Steps.{step_is_lem, first_is_lem}

-- the byte may stand there
allowed_is : (s : Feeder) (c : ℕ) → allowed_by (machine_of s) c ≡ allowed s c
unfolding allowed_by allowed_at allowed machine_of
allowed_is (reading kept line) c = rw (line_cr line)
allowed_is (in_literal kept n) c = refl
allowed_is (dropping cr) c = refl

-- what the feeder does with the byte, in the line's words
shape_is : (s : Feeder) (c : ℕ) → shape_step (machine_of s) c ≡ cond (allowed s c) (shaping_as (signal_of (fed_byte s c).event) (machine_of (fed_byte s c).state)) Bad
unfolding shape_step
shape_is s c = rw (allowed_is s c, step_is_lem s c)

-- a byte that leaves one command, leaves none, or ends it
module _ (t : List ℕ) (f : Feeder) where
  still_bad : (e : Event) → shaping_as (signal_of e) (machine_of f) ≡ Bad → still_one e (is_empty t) (one_command f t) ≡ false
  unfolding shaping_as signal_of still_one
  still_bad quiet q = cc
  still_bad (handed l) q = cc
  still_bad go_on q = cc
  still_bad (denied k) q = refl

  still_last : (e : Event) → shaping_as (signal_of e) (machine_of f) ≡ Last → still_one e (is_empty t) (one_command f t) ≡ is_empty t
  unfolding shaping_as signal_of still_one
  still_last quiet q = cc
  still_last (handed l) q = refl
  still_last go_on q = cc
  still_last (denied k) q = cc

  still_further : (e : Event) (m : Machine) → shaping_as (signal_of e) (machine_of f) ≡ Further m → (still_one e (is_empty t) (one_command f t) ≡ one_command f t) × (machine_of f ≡ m)
  unfolding shaping_as signal_of still_one
  still_further quiet m q = (refl, cc)
  still_further (handed l) m q = (cc, cc)
  still_further go_on m q = (refl, cc)
  still_further (denied k) m q = (cc, cc)

module _ (s : Feeder) (c : ℕ) (t : List ℕ) where
  step_bad : shape_step (machine_of s) c ≡ Bad → one_command s (c ∷ t) ≡ false
  unfolding one_command
  step_bad q = go (allowed s c) (sym (shape_is s c) ∙ q)
    where
      go : (o : Bool) → cond o (shaping_as (signal_of (fed_byte s c).event) (machine_of (fed_byte s c).state)) Bad ≡ Bad →
          (o && still_one (fed_byte s c).event (is_empty t) (one_command (fed_byte s c).state t)) ≡ false
      go true e = still_bad t (fed_byte s c).state (fed_byte s c).event e
      go false e = refl

  step_last : shape_step (machine_of s) c ≡ Last → one_command s (c ∷ t) ≡ is_empty t
  unfolding one_command
  step_last q = go (allowed s c) (sym (shape_is s c) ∙ q)
    where
      go : (o : Bool) → cond o (shaping_as (signal_of (fed_byte s c).event) (machine_of (fed_byte s c).state)) Bad ≡ Last →
          (o && still_one (fed_byte s c).event (is_empty t) (one_command (fed_byte s c).state t)) ≡ is_empty t
      go true e = still_last t (fed_byte s c).state (fed_byte s c).event e
      go false e = cc

  step_further : (m : Machine) → shape_step (machine_of s) c ≡ Further m → (one_command s (c ∷ t) ≡ one_command (fed_byte s c).state t) × (machine_of (fed_byte s c).state ≡ m)
  unfolding one_command
  step_further m q = go (allowed s c) (sym (shape_is s c) ∙ q)
    where
      go : (o : Bool) → cond o (shaping_as (signal_of (fed_byte s c).event) (machine_of (fed_byte s c).state)) Bad ≡ Further m →
          ((o && still_one (fed_byte s c).event (is_empty t) (one_command (fed_byte s c).state t)) ≡ one_command (fed_byte s c).state t) ×
          (machine_of (fed_byte s c).state ≡ m)
      go true e = still_further t (fed_byte s c).state (fed_byte s c).event m e
      go false e = (cc, cc)

-- the line from a place on is one command exactly if the whole line is
pub record Shaped (l : List ℕ) (i : ℕ) (m : Machine) : Type 0 where
  pub state : Feeder
  pub is : machine_of state ≡ m
  pub one : one_command state (drop i l) ≡ one_command first l

pub shaped_first : (l : List ℕ) → Shaped l 0 first_is
shaped_first l = record { state = first; is = sym first_is_lem; one = refl }

-- nothing is left after a place
last_place : (l : List ℕ) (i : ℕ) → leb (length l) i ≡ is_empty (drop i l)
unfolding is_empty
last_place l i = elim (dec_le (length l) i) [ yes h ↦ rw (le-leb (length l) i h, drop_of_length-le l h) | no h ↦ rw (lt-leb (length l) i (omega arith), drop-cons l i 0 (omega arith)) ]

module _ (l : List ℕ) (i : ℕ) (m : Machine) (h : Shaped l i m) where
  -- the line ends before the command does
  pub shaped_out : length l ≤ i → false ≡ one_command first l
  unfolding one_command
  shaped_out k = sym (sym h.one ∙ rw (drop_of_length-le l k))

  module _ (k : i < length l) where
    here : one_command h.state (get_or l i 0 ∷ drop (i + 1) l) ≡ one_command first l
    here = subst (λ (x : List ℕ). one_command h.state x ≡ one_command first l) (drop-cons l i 0 k ∙ rw add-one) h.one

    pub shaped_bad : shape_step m (get_or l i 0) ≡ Bad → false ≡ one_command first l
    shaped_bad q = sym (step_bad h.state (get_or l i 0) (drop (i + 1) l) (rw h.is q)) ∙ here

    -- the command ends at this byte, and the line with it or not
    pub shaped_last : shape_step m (get_or l i 0) ≡ Last → leb (length l) (i + 1) ≡ one_command first l
    shaped_last q = last_place l (i + 1) ∙ sym (step_last h.state (get_or l i 0) (drop (i + 1) l) (rw h.is q)) ∙ here

    pub shaped_on : (n : Machine) → shape_step m (get_or l i 0) ≡ Further n → Shaped l (i + 1) n
    shaped_on n q =
        let w = step_further h.state (get_or l i 0) (drop (i + 1) l) n (rw h.is q) in
        record { state = (fed_byte h.state (get_or l i 0)).state; is = w.1; one = sym w.0 ∙ here }

-- no command has fewer than two bytes
one_byte : (c : ℕ) → one_command first (c ∷ []) ≡ false
unfolding one_command is_empty
one_byte c = ap (λ (r : AfterByte). allowed first c && still_one r.event true false) step ∙ go (allowed first c) (offends [] c)
  where
    unended : ends_line (c ∷ []) ≡ false
    unended = ends_snoc [] c ∙ (unfold last_is in refl)

    step : fed_byte first c ≡ cond (offends [] c) (refusing [] c) (gives (reading (c ∷ []) (c ∷ [])) quiet)
    step = unfold first fed_byte text_byte in rw unended

    go : (a o : Bool) → (a && still_one (cond o (refusing [] c) (gives (reading (c ∷ []) (c ∷ [])) quiet)).event true false) ≡ false
    go true true = unfold refusing gives still_one in refl
    go true false = unfold gives still_one in refl
    go false o = refl

pub one_long : (l : List ℕ) → one_command first l ≡ true → 2 ≤ length l
unfolding one_command
one_long [] e = absurd (false≢true e)
one_long (c ∷ []) e = absurd (false≢true (sym (one_byte c) ∙ e))
one_long (c ∷ d ∷ l) e = omega arith
