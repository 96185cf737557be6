-- The steps one after the other: the answer is the definition's, and the count is at most (p + 1) times (n + 1). Rests on Stepping and
-- Tails.
--
-- The look at the ends is a step more than those that Costs counts. It has room, as place 0 of the pattern is looked at only once.
use Rattle.listing_rules.proofs.Prelude.{◌∙◌, ◌≡◌, ap, refl, sym, Bool, cond, false, or-false, true, List, [], ◌∷◌, ◌*◌, ◌+◌, ◌-◌, ◌<◌, ◌≤◌, suc, ℕ}
use Rattle.listing_rules.proofs.Prelude.{suc-mul, arith, eqb, drop, length, le-leb, lt-leb}
use Rattle.listing_rules.specs.Bytes.{slash, is_empty, same}
use Rattle.listing_rules.specs.Names.{inbox}
use Rattle.listing_rules.specs.Match.{wild_match}
use Rattle.pattern.specs.declared.steps.Kind.{Kind}
use Rattle.pattern.specs.declared.steps.Kind.TheVariants.{Plain, Level, Any}
use Rattle.pattern.specs.declared.steps.Known.{Known}
use Rattle.pattern.specs.declared.steps.Known.TheVariants.{Gone, Pending, Settled}
use Rattle.pattern.specs.declared.steps.Going.{Going}
use Rattle.pattern.specs.declared.steps.Going.TheVariants.{On, Matched, Missed}
use Rattle.pattern.specs.declared.steps.At.{At}
use Rattle.pattern.specs.declared.steps.Counted.{Counted}
use Rattle.pattern.specs.declared.front.Next.TheVariants.{Front as Next-as-Front, Missed as Next-as-Missed}
use Rattle.pattern.specs.Folded.{letter_of, folded}
use Rattle.pattern.specs.Steps.{BackedAs, Inside, went_is, resumed_as, given_up_as, retried_is, resumed_is, star_is, level_is, slash_is, byte_is, name_is}
use Rattle.pattern.specs.Steps.{looked_at, step_is, front_at, front_is, answered, ran_from, ran_all, most_steps, Ran, given_up_is, counted_is, plain_run}
use Rattle.pattern.specs.Steps.{no_star, settled_as, pending_as, apart, led_is, unlooked, ends_is, last_byte, capped, capped_at}
use Rattle.pattern.proofs.Tails.{here_any, last_misses}
use Rattle.pattern.proofs.Places.{left_none, end_most}
use Rattle.pattern.proofs.Spans.{span_none, folded_length, rest_next}
use Rattle.pattern.proofs.Standing.{Begun, begun_here}
use Rattle.pattern.proofs.Costs.{due, due_some}
use Rattle.pattern.proofs.Stepping.{base_of, base_at, Good, Outcome, due_at, due_is, stepped}

-- ---- every step adds one to the count, and does not go by it

-- the same state with another count
abbrev counting : At → ℕ → At
counting t k = record { i = t.i; j = t.j; steps = k; run = t.run; star = t.star; going = t.going }

module _ (t : At) (k : ℕ) where
  resumed_count : (h : Known) → resumed_as h (counting t k) ≡ counting (resumed_as h t) (k + 1)
  unfolding resumed_as
  resumed_count Gone = refl
  resumed_count Pending = refl
  resumed_count Settled = refl

  given_count : (r : Kind) (d : ℕ) → given_up_as r (counting t k) d ≡ counting (given_up_as r t d) (k + 1)
  unfolding given_up_as
  given_count Plain d = resumed_count t.star.known
  given_count Level d = go (eqb d slash) (eqb t.i t.run.back)
    where
      go : (u v : Bool) → cond u (cond v (resumed_is (counting t k)) (retried_is (counting t k))) (retried_is (counting t k))
          ≡ counting (cond u (cond v (resumed_is t) (retried_is t)) (retried_is t)) (k + 1)
      go true true = resumed_count t.star.known
      go true false = refl
      go false v = refl
  given_count Any d = refl

  pending_count : (r : Kind) → pending_as r (counting t k) ≡ pending_as r t
  unfolding pending_as
  pending_count Plain = refl
  pending_count Level = refl
  pending_count Any = refl

  settled_count : (r : Kind) → settled_as r (counting t k) ≡ settled_as r t
  unfolding settled_as
  settled_count Plain = refl
  settled_count Level = refl
  settled_count Any = refl

  level_count : level_is (counting t k) ≡ counting (level_is t) (k + 1)
  level_count = rw (pending_count t.run.kind)

  slash_count_lem : slash_is (counting t k) ≡ counting (slash_is t) (k + 1)
  slash_count_lem = rw (settled_count t.run.kind)

  abbrev onward : At → At
  onward u = went_is u (u.i + 1) (u.j + 1) u.run u.star

  byte_count : (c d : ℕ) → byte_is c d (counting t k) ≡ counting (byte_is c d t) (k + 1)
  unfolding byte_is
  byte_count c d = go (eqb c d) (eqb c slash)
    where
      go : (u v : Bool) → cond u (cond v (slash_is (counting t k)) (onward (counting t k))) (given_up_is (counting t k) d)
          ≡ counting (cond u (cond v (slash_is t) (onward t)) (given_up_is t d)) (k + 1)
      go true true = slash_count_lem
      go true false = refl
      go false v = given_count t.run.kind d

  star_count : (last : Bool) → star_is last (counting t k) ≡ counting (star_is last t) (k + 1)
  unfolding star_is
  star_count true = refl
  star_count false = refl

  name_count : (c : ℕ) (m : List ℕ) → name_is c m (counting t k) ≡ counting (name_is c m t) (k + 1)
  unfolding name_is
  name_count c [] = refl
  name_count c (d ∷ m) = byte_count c d

  looked_count : (ps m : List ℕ) → looked_at ps m (counting t k) ≡ counting (looked_at ps m t) (k + 1)
  unfolding looked_at
  looked_count [] [] = refl
  looked_count [] (d ∷ m) = given_count t.run.kind d
  looked_count (c ∷ ps) m = go (eqb c 42) (eqb c 37)
    where
      go : (u v : Bool) → cond u (star_is (is_empty ps) (counting t k)) (cond v (level_is (counting t k)) (name_is c m (counting t k)))
          ≡ counting (cond u (star_is (is_empty ps) t) (cond v (level_is t) (name_is c m t))) (k + 1)
      go true v = star_count (is_empty ps)
      go false true = level_count
      go false false = name_count c m

  pub step_count : (fold : Bool) (pattern name : List ℕ) → step_is fold pattern name (counting t k) ≡ counting (step_is fold pattern name t) (k + 1)
  unfolding step_is
  step_count fold pattern name = looked_count (folded fold (drop t.i pattern)) (drop t.j name)

-- the machine's count of one step more
capped_more : (m k : ℕ) → m ≡ capped k → capped (m + 1) ≡ capped (k + 1)
unfolding capped
capped_more m k e = omega (arith, e)

-- ---- between two steps

-- the steps that are left; where the answer is found there is none
abbrev left_as : Going → ℕ → ℕ
left_as On k = k
left_as Matched k = 0
left_as Missed k = 0

left_on : (g : Going) (k : ℕ) → g ≡ On → left_as g k ≡ k
left_on g k e = rw e

abbrev left_at : Bool → List ℕ → List ℕ → At → ℕ
left_at fold pattern name t = left_as t.going (due_at fold pattern name t)

-- the match stands after `count` steps, those through the next and left after it are not too many, and what is left gives what the
-- whole does
pub record Turn (fold : Bool) (pattern name : List ℕ) (t : At) : Type 0 where
  pub good : Good fold pattern name t
  pub count : ℕ
  pub held : t.steps ≡ capped count
  pub most : count + 1 + left_at fold pattern name (step_is fold pattern name t) ≤ most_steps pattern name
  pub turns : ℕ
  pub enough : due_at fold pattern name t ≤ turns
  pub same : ran_from turns fold pattern name (counting t count) ≡ ran_all fold pattern name

-- after a step: the match stands, or the answer is found
abbrev pub Told : Bool → List ℕ → List ℕ → At → Going → Type 0
Told fold pattern name t On = Turn fold pattern name t
Told fold pattern name t Matched = Ran fold pattern name (record { matched = true; steps = t.steps })
Told fold pattern name t Missed = Ran fold pattern name (record { matched = false; steps = t.steps })

module _ (fold : Bool) (pattern name : List ℕ) where
  -- ---- one step

  abbrev next : At → At
  next t = step_is fold pattern name t

  -- from where the match stands
  module _ (t : At) (b : Good fold pattern name t) where
    some_due : 1 ≤ due_at fold pattern name t
    some_due =
        rw (due_is fold pattern name t b) (due_some fold pattern name (base_at t) b.start t.i t.j b.stands.begun t.star.known
        t.star.place t.star.from)

    outcome : (g : Going) → (next t).going ≡ g → Outcome fold pattern name (due_at fold pattern name t) (next t) g
    outcome g e = rw (← e) (stepped fold pattern name t b)

    left_less : (g : Going) → (next t).going ≡ g → left_as g (due_at fold pattern name (next t)) < due_at fold pattern name t
    left_less On e = omega (arith, (outcome On e).fewer)
    left_less Matched e = some_due
    left_less Missed e = some_due

    -- the steps so far and those left are not too many
    turn_from : (count turns : ℕ) → t.steps ≡ capped count → count + due_at fold pattern name t ≤ most_steps pattern name
        → due_at fold pattern name t ≤ turns → ran_from turns fold pattern name (counting t count) ≡ ran_all fold pattern name → Turn fold pattern name t
    turn_from count turns h m l e = record {
      good = b;
      count = count;
      held = h;
      most = omega (arith, m, left_less (next t).going refl);
      turns = turns;
      enough = l;
      same = e;
    }

  module _ (t : At) (n : Turn fold pattern name t) where
    backed : (k : Kind) (back x i j : ℕ) → Begun fold pattern name (base_of k back i) x i j → BackedAs k back i j
    backed Plain back x i j b = tt
    backed Level back x i j b = (b.order, omega (arith, b.even))
    backed Any back x i j b = (b.order, omega (arith, b.even))

    pub turn_inside : Inside (length pattern) (length name) t
    turn_inside =
        let b = n.good.stands.begun in
        record { pattern = b.inside; name = b.within; run = backed t.run.kind t.run.back n.good.start t.i t.j b }

    -- one turn of the definition
    ran_turn : (g : Going) → (next t).going ≡ g
        → ran_all fold pattern name ≡ answered g (ran_from (n.turns - 1) fold pattern name (counting (next t) (n.count + 1))) (n.count + 1)
    unfolding ran_from
    ran_turn g e =
        let w : suc (n.turns - 1) ≡ n.turns = omega (arith, n.enough, some_due t n.good) in
        let after : At → Counted = λ u. answered u.going (ran_from (n.turns - 1) fold pattern name u) u.steps in
        sym n.same ∙ ap (λ (m : ℕ). ran_from m fold pattern name (counting t n.count)) (sym w)
        ∙ ap after (step_count t n.count fold pattern name)
        ∙ ap (λ (z : Going). answered z (ran_from (n.turns - 1) fold pattern name (counting (next t) (n.count + 1))) (n.count + 1)) e

    -- the state as the machine holds it
    machine_good : Good fold pattern name (next t) → Good fold pattern name (capped_at (next t))
    machine_good g = record { start = g.start; stands = g.stands }

    machine_due : due_at fold pattern name (capped_at (next t)) ≡ due_at fold pattern name (next t)
    unfolding due_at
    machine_due = refl

    machine_count : (capped_at (next t)).steps ≡ capped (n.count + 1)
    machine_count =
        let one : (next t).steps ≡ t.steps + 1 = ap (λ (u : At). u.steps) (step_count t t.steps fold pattern name) in
        rw one (capped_more t.steps n.count n.held)

    -- the answer, where the step is the last
    ran_last : (b : Bool) (g : Going) → (next t).going ≡ g → b ≡ wild_match (folded fold pattern) name
        → ran_all fold pattern name ≡ record { matched = b; steps = n.count + 1 }
        → Ran fold pattern name (record { matched = b; steps = (capped_at (next t)).steps })
    ran_last b g e r q = record { right = r; bounded = rw q (omega (arith, n.most)); stepped = rw (q, machine_count) }

    turn_goes : (g : Going) → (next t).going ≡ g → Told fold pattern name (capped_at (next t)) g
    turn_goes On e =
        let o = outcome t n.good On e in
        let most = rw (left_on (next t).going (due_at fold pattern name (next t)) e) at n.most in
        turn_from (capped_at (next t)) (machine_good o.good) (n.count + 1) (n.turns - 1) machine_count (rw machine_due most)
        (omega (arith, o.fewer, n.enough, machine_due)) (sym (ran_turn On e))
    turn_goes Matched e = ran_last true Matched e (sym (outcome t n.good Matched e)) (ran_turn Matched e)
    turn_goes Missed e = ran_last false Missed e (sym (outcome t n.good Missed e)) (ran_turn Missed e)

    -- what the step gave
    module _ (r : At) (e : r ≡ capped_at (next t)) where
      pub turn_next : (g : Going) → r.going ≡ g → Told fold pattern name r g
      turn_next g f = rw e (turn_goes g (sym (ap (λ (v : At). v.going) e) ∙ f))

      pub turn_less : r.going ≡ On → due_at fold pattern name r < due_at fold pattern name t
      turn_less f = rw (e, machine_due) (left_less t n.good On (sym (ap (λ (v : At). v.going) e) ∙ f))

  -- ---- the first

  -- place 0 of the pattern is looked at once only: after the first step there are those of the other places
  abbrev rows : ℕ
  rows = length pattern * (length name + 1)

  second_due : (y c : ℕ) (ps : List ℕ) → folded fold pattern ≡ c ∷ ps → due fold pattern name Gone 1 y 1 y 0 0 ≤ rows
  unfolding due
  second_due y c ps e =
      let n : length pattern ≡ length ps + 1 = omega (arith, folded_length fold pattern, ap length e) in
      rw (span_none fold pattern 1, left_none name (y + 1), rest_next fold pattern 0 c ps e, n) (omega (arith, end_most name ps y))

  module _ (k : ℕ) where
    abbrev first : At
    first = front_at 0 k

    first_good : Good fold pattern name first
    first_good = record {
      start = 0;
      stands = record {
        begun = begun_here fold pattern name 0 0 (omega arith) (omega arith);
        decides = record {
          says = sym (or-false (wild_match (folded fold pattern) name));
          far = here_any (wild_match (folded fold pattern)) name;
        };
        fits = tt;
        under = tt;
      };
    }

    first_due : due_at fold pattern name first ≤ most_steps pattern name
    unfolding due_at due
    first_due =
        let most = rw (folded_length fold pattern) at (end_most name (folded fold pattern) 0) in
        rw (span_none fold pattern 0, left_none name 1) (omega (arith, most))

    second_byte : (c d : ℕ) (ps : List ℕ) → folded fold pattern ≡ c ∷ ps → left_at fold pattern name (byte_is c d first) ≤ rows
    unfolding byte_is given_up_as resumed_as settled_as due_at
    second_byte c d ps e = go (eqb c d) (eqb c slash)
      where
        go : (v w : Bool) → left_at fold pattern name (cond v (cond w (slash_is first) (went_is first 1 1 plain_run no_star)) (given_up_is first d)) ≤ rows
        go true true = second_due 1 c ps e
        go true false = second_due 1 c ps e
        go false w = omega arith

    second_most : (ps m : List ℕ) → folded fold pattern ≡ ps → left_at fold pattern name (looked_at ps m first) ≤ rows
    unfolding looked_at star_is name_is is_empty given_up_as resumed_as pending_as due_at
    second_most [] [] e = omega arith
    second_most [] (d ∷ m) e = omega arith
    second_most (c ∷ ps) m e = go (eqb c 42) (eqb c 37) ps m e
      where
        go : (v w : Bool) (qs l : List ℕ) → folded fold pattern ≡ c ∷ qs
            → left_at fold pattern name (cond v (star_is (is_empty qs) first) (cond w (level_is first) (name_is c l first))) ≤ rows
        go true w [] l p = omega arith
        go true w (b ∷ qs) l p = second_due 0 c (b ∷ qs) p
        go false true qs l p = second_due 0 c qs p
        go false false qs [] p = omega arith
        go false false qs (d ∷ l) p = second_byte c d qs p

  -- neither is empty: there is room for the look at the ends
  ends_room : 0 < length pattern → 0 < length name → rows + 2 ≤ most_steps pattern name
  ends_room h g =
      let w : length pattern + 1 ≡ suc (length pattern) = omega arith in
      rw (w, suc-mul (length pattern) (length name + 1)) (omega arith)

  turn_start : 0 < length pattern → 0 < length name → ran_from (most_steps pattern name) fold pattern name (front_at 0 1) ≡ ran_all fold pattern name
      → Turn fold pattern name (front_at 0 1)
  unfolding step_is capped
  turn_start h g e = record {
    good = first_good 1;
    count = 1;
    held = refl;
    most = omega (arith, ends_room h g, second_most 1 (folded fold pattern) name refl);
    turns = most_steps pattern name;
    enough = first_due 1;
    same = e;
  }

  -- where one is empty, there is no look at the ends
  turn_blank : ran_from (most_steps pattern name) fold pattern name (front_at 0 0) ≡ ran_all fold pattern name → Turn fold pattern name (front_at 0 0)
  unfolding capped
  turn_blank e = turn_from (front_at 0 0) (first_good 0) 0 (most_steps pattern name) refl (omega (arith, first_due 0)) (first_due 0) e

-- ---- the look at the ends

folded_last : (fold : Bool) (c : ℕ) (ps : List ℕ) → last_byte (letter_of fold c) (folded fold ps) ≡ letter_of fold (last_byte c ps)
unfolding last_byte folded
folded_last fold c [] = refl
folded_last fold c (b ∷ ps) = folded_last fold b ps

-- after the first step, where there is one
module _ (fold : Bool) where
  pub ends_told : (pattern name : List ℕ) → let f = front_is (ends_is fold pattern name) in Told fold pattern name f f.going
  unfolding ends_is ran_all capped folded
  ends_told [] name = turn_blank fold [] name refl
  ends_told (c ∷ ps) [] = turn_blank fold (c ∷ ps) [] refl
  ends_told (c ∷ ps) (d ∷ m) = go (apart (letter_of fold (last_byte c ps)) (last_byte d m)) refl
    where
      go : (b : Bool) → apart (letter_of fold (last_byte c ps)) (last_byte d m) ≡ b
          → let f = front_is (led_is unlooked 0 (cond b Next-as-Missed Next-as-Front)) in Told fold (c ∷ ps) (d ∷ m) f f.going
      go false e = turn_start fold (c ∷ ps) (d ∷ m) (omega arith) (omega arith) (rw e)
      go true e = record {
        right = sym (last_misses (letter_of fold c) (folded fold ps) d m (rw (folded_last fold c ps) e));
        bounded = rw e (omega (arith, ends_room fold (c ∷ ps) (d ∷ m) (omega arith) (omega arith)));
        stepped = rw e;
      }

-- ---- the whole

module _ (pattern name : List ℕ) where
  pub counted_long : 255 < length name → counted_is pattern name ≡ record { matched = false; steps = 0 }
  unfolding counted_is
  counted_long h = rw (lt-leb (length name) 255 h)

  -- the bound holds of the machine's count too
  pub counted_most : (fold : Bool) (r : Counted) → Ran fold pattern name r → r.steps ≤ most_steps pattern name
  unfolding capped
  counted_most fold r n = omega (arith, n.bounded, ap (λ (v : Counted). v.steps) n.stepped)

  pub counted_short : (fold : Bool) (r : Counted) → length name ≤ 255 → fold ≡ same name inbox → Ran fold pattern name r → r ≡ counted_is pattern name
  unfolding counted_is
  counted_short fold r h e n = n.stepped ∙ rw (le-leb (length name) 255 h, e)
