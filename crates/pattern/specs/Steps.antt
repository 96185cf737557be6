-- The match of a name against a pattern, step by step: where it stands, and what one step makes of that.
use Rattle.std.specs.Prelude.{◌≡◌, List, [], ◌∷◌, Bool, true, false, cond, not, ◌&&◌, eqb, leb, length, drop, ℕ, zero, suc, ◌+◌, ◌-◌, ◌*◌, ◌≤◌, min}
use Rattle.listing_rules.specs.Bytes.{slash, star, percent, is_empty, same}
use Rattle.listing_rules.specs.Names.{inbox}
use Rattle.listing_rules.specs.Match.{wild_match}
use Rattle.pattern.specs.Folded.{letter_of, folded, is_wildcard}
use Rattle.pattern.specs.declared.steps.Kind.{Kind}
use Rattle.pattern.specs.declared.steps.Kind.TheVariants.{Plain, Level, Any}
use Rattle.pattern.specs.declared.steps.Run.{Run}
use Rattle.pattern.specs.declared.steps.Known.{Known}
use Rattle.pattern.specs.declared.steps.Known.TheVariants.{Gone, Pending, Settled}
use Rattle.pattern.specs.declared.steps.Star.{Star}
use Rattle.pattern.specs.declared.steps.Going.{Going}
use Rattle.pattern.specs.declared.steps.Going.TheVariants.{On, Matched, Missed}
use Rattle.pattern.specs.declared.front.Next.{Next}
use Rattle.pattern.specs.declared.front.Next.TheVariants.{Front as Next-as-Front, Level as Next-as-Level, Any as Next-as-Any, Matched as Next-as-Matched}
use Rattle.pattern.specs.declared.front.Next.TheVariants.{Missed as Next-as-Missed}
use Rattle.pattern.specs.declared.front.Front.{Front}
use Rattle.pattern.specs.declared.steps.At.{At}
use Rattle.pattern.specs.declared.steps.Counted.{Counted}

-- ---- what a step needs

-- a run that began after a wildcard lies in the pattern and in the name
abbrev pub BackedAs : Kind → ℕ → ℕ → ℕ → Type 0
BackedAs Plain back i j = Unit {0}
BackedAs Level back i j = (back ≤ i) × (i ≤ j + back)
BackedAs Any back i j = (back ≤ i) × (i ≤ j + back)

abbrev pub Backed : At → Type 0
Backed t = BackedAs t.run.kind t.run.back t.i t.j

-- the places lie in a pattern of p bytes and a name of n
pub record Inside (p n : ℕ) (t : At) : Type 0 where
  pub pattern : t.i ≤ p
  pub name : t.j ≤ n
  pub run : Backed t

-- ---- the ways of a step

abbrev pub plain_run : Run
plain_run = record { kind = Plain; back = 0 }

abbrev pub no_star : Star
no_star = record { known = Gone; place = 0; from = 0 }

-- on to these places, with one step more
abbrev pub went_is : At → ℕ → ℕ → Run → Star → At
went_is t i j r s = record { i = i; j = j; steps = t.steps + 1; run = r; star = s; going = On }

-- to the end, with one step more
abbrev pub ended_is : At → Going → At
ended_is t g = record { i = t.i; j = t.j; steps = t.steps + 1; run = plain_run; star = no_star; going = g }

-- what is after a "*" begins at these places
abbrev pub begun_is : At → ℕ → ℕ → At
begun_is t i j = went_is t i j (record { kind = Any; back = i }) no_star

-- the run begins again, one byte of the name later
abbrev pub retried_is : At → At
retried_is t = went_is t t.run.back (t.j + 1 - (t.i - t.run.back)) t.run t.star

-- no match in this level: the "*" before it goes on
unfoldable pub resumed_as : Known → At → At
resumed_as Gone t = ended_is t Missed
resumed_as Pending t = begun_is t t.star.place (t.j + 1)
resumed_as Settled t = begun_is t t.star.place t.star.from

abbrev pub resumed_is : At → At
resumed_is t = resumed_as t.star.known t

-- ---- one step

-- no match here, where the name has the byte d
unfoldable pub given_up_as : Kind → At → ℕ → At
given_up_as Plain t d = resumed_is t
given_up_as Level t d = cond (eqb d slash) (cond (eqb t.i t.run.back) (resumed_is t) (retried_is t)) (retried_is t)
given_up_as Any t d = retried_is t

abbrev pub given_up_is : At → ℕ → At
given_up_is t d = given_up_as t.run.kind t d

-- at "*"; a last one takes all that is left
unfoldable pub star_is : Bool → At → At
star_is last t = cond last (ended_is t Matched) (begun_is t (t.i + 1) t.j)

-- the "*" to go back to after a "%": the one that the run began after, or the one before that
unfoldable pub pending_as : Kind → At → Star
pending_as Plain t = t.star
pending_as Level t = t.star
pending_as Any t = record { known = Pending; place = t.run.back; from = 0 }

-- at "%"
abbrev pub level_is : At → At
level_is t = went_is t (t.i + 1) t.j (record { kind = Level; back = t.i + 1 }) (pending_as t.run.kind t)

-- the "*" to go back to after a "/", with the next place of the name
unfoldable pub fixed_as : Known → Star → ℕ → Star
fixed_as Gone s next = s
fixed_as Pending s next = record { known = Settled; place = s.place; from = next }
fixed_as Settled s next = s

abbrev pub fixed_is : Star → ℕ → Star
fixed_is s next = fixed_as s.known s next

unfoldable pub settled_as : Kind → At → Star
settled_as Plain t = t.star
settled_as Level t = fixed_is t.star (t.j + 1)
settled_as Any t = record { known = Settled; place = t.run.back; from = t.j + 1 }

-- at a "/" of both
abbrev pub slash_is : At → At
slash_is t = went_is t (t.i + 1) (t.j + 1) plain_run (settled_as t.run.kind t)

-- at a byte c that stands for itself, where the name has the byte d
unfoldable pub byte_is : ℕ → ℕ → At → At
byte_is c d t = cond (eqb c d) (cond (eqb c slash) (slash_is t) (went_is t (t.i + 1) (t.j + 1) t.run t.star)) (given_up_is t d)

-- the same with what is left of the name; after its end there is no such byte, here or later
unfoldable pub name_is : ℕ → List ℕ → At → At
name_is c [] t = ended_is t Missed
name_is c (d ∷ m) t = byte_is c d t

-- with what is left of the pattern and of the name
unfoldable pub looked_at : List ℕ → List ℕ → At → At
looked_at [] [] t = ended_is t Matched
looked_at [] (d ∷ m) t = given_up_is t d
looked_at (c ∷ ps) m t = cond (eqb c star) (star_is (is_empty ps) t) (cond (eqb c percent) (level_is t) (name_is c m t))

unfoldable pub step_is : Bool → List ℕ → List ℕ → At → At
step_is fold pattern name t = looked_at (folded fold (drop t.i pattern)) (drop t.j name) t

-- ---- steps with nothing to go back to

-- at the same place of both, after k steps
abbrev pub front_at : ℕ → ℕ → At
front_at i k = record { i = i; j = i; steps = k; run = plain_run; star = no_star; going = On }

-- after a wildcard that stands at that place
abbrev pub wild_at : Kind → ℕ → ℕ → At
wild_at kind i k = record { i = i + 1; j = i; steps = k; run = record { kind = kind; back = i + 1 }; star = no_star; going = On }

-- at the end
abbrev pub over_at : Going → ℕ → ℕ → At
over_at g i k = record { i = i; j = i; steps = k; run = plain_run; star = no_star; going = g }

-- where the last step led, in full
abbrev pub fronted_at : Next → ℕ → ℕ → At
fronted_at Next-as-Front i k = front_at i k
fronted_at Next-as-Level i k = wild_at Level i k
fronted_at Next-as-Any i k = wild_at Any i k
fronted_at Next-as-Matched i k = over_at Matched i k
fronted_at Next-as-Missed i k = over_at Missed i k

abbrev pub front_is : Front → At
front_is f = fronted_at f.next f.i f.steps

-- the next step is none of these
unfoldable pub front_ends : Next → Bool
front_ends Next-as-Front = false
front_ends Next-as-Level = true
front_ends Next-as-Any = true
front_ends Next-as-Matched = true
front_ends Next-as-Missed = true

-- there is no next step
unfoldable pub is_over : Next → Bool
is_over Next-as-Front = false
is_over Next-as-Level = false
is_over Next-as-Any = false
is_over Next-as-Matched = true
is_over Next-as-Missed = true

unfoldable pub is_match : Next → Bool
is_match Next-as-Front = false
is_match Next-as-Level = false
is_match Next-as-Any = false
is_match Next-as-Matched = true
is_match Next-as-Missed = false

unfoldable pub wildcard_of : Next → Kind
wildcard_of Next-as-Front = Plain
wildcard_of Next-as-Level = Level
wildcard_of Next-as-Any = Any
wildcard_of Next-as-Matched = Plain
wildcard_of Next-as-Missed = Plain

-- on to this place, or to the end, with one step more
abbrev pub led_is : Front → ℕ → Next → Front
led_is f i x = record { i = i; steps = f.steps + 1; next = x }

-- ---- all steps

-- the last byte of c and those after it
unfoldable pub last_byte : ℕ → List ℕ → ℕ
last_byte c [] = c
last_byte c (b ∷ l) = last_byte b l

-- the byte c stands for itself, and is not d
unfoldable pub apart : ℕ → ℕ → Bool
apart c d = not (eqb c d) && not (is_wildcard c)

-- before any step
abbrev pub unlooked : Front
unlooked = record { i = 0; steps = 0; next = Next-as-Front }

-- a step that looks at the last places, where the pattern has the byte c and the name d
abbrev pub ends_looked : ℕ → ℕ → Front → Front
ends_looked c d f = led_is f f.i (cond (apart c d) Next-as-Missed Next-as-Front)

-- the first step, where both have a last place
unfoldable pub ends_is : Bool → List ℕ → List ℕ → Front
ends_is fold [] m = unlooked
ends_is fold (c ∷ ps) [] = unlooked
ends_is fold (c ∷ ps) (d ∷ m) = ends_looked (letter_of fold (last_byte c ps)) (last_byte d m) unlooked

-- the answer where it is found, or else what `more` gives
abbrev pub answered : Going → Counted → ℕ → Counted
answered On more k = more
answered Matched more k = record { matched = true; steps = k }
answered Missed more k = record { matched = false; steps = k }

-- at most so many steps from here
unfoldable pub ran_from : ℕ → Bool → List ℕ → List ℕ → At → Counted
ran_from zero fold pattern name t = record { matched = false; steps = t.steps }
ran_from (suc m) fold pattern name t =
    let u = step_is fold pattern name t in
    let more = ran_from m fold pattern name u in
    answered u.going more u.steps

abbrev pub most_steps : List ℕ → List ℕ → ℕ
most_steps pattern name = (length pattern + 1) * (length name + 1)

-- all steps; if the bytes at the last places are apart, the first is the only one
unfoldable pub ran_all : Bool → List ℕ → List ℕ → Counted
ran_all fold pattern name =
    let first = ends_is fold pattern name in
    let more = ran_from (most_steps pattern name) fold pattern name (front_is first) in
    answered (front_is first).going more first.steps

-- ---- the count as a number of the machine

-- up to the largest number of 64 bits, which only a pattern of over 2^55 bytes could come to
unfoldable pub capped : ℕ → ℕ
capped k = min k 18446744073709551615

abbrev pub capped_at : At → At
capped_at t = record { i = t.i; j = t.j; steps = capped t.steps; run = t.run; star = t.star; going = t.going }

abbrev pub capped_front : Front → Front
capped_front f = record { i = f.i; steps = capped f.steps; next = f.next }

abbrev pub capped_count : Counted → Counted
capped_count r = record { matched = r.matched; steps = capped r.steps }

-- the answer, the bound, and how answer and count came about
pub record Ran (fold : Bool) (pattern name : List ℕ) (r : Counted) : Type 0 where
  pub right : r.matched ≡ wild_match (folded fold pattern) name
  pub bounded : (ran_all fold pattern name).steps ≤ most_steps pattern name
  pub stepped : r ≡ capped_count (ran_all fold pattern name)

-- all steps of a match; for a name of over 255 bytes there is none
unfoldable pub counted_is : List ℕ → List ℕ → Counted
counted_is pattern name =
    let all = ran_all (same name inbox) pattern name in
    cond (leb (length name) 255) (capped_count all) (record { matched = false; steps = 0 })

-- opens every definition of this file, for a proof by computation
unfoldable pub open_steps : Unit {0}
unfolding resumed_as given_up_as star_is pending_as fixed_as settled_as byte_is name_is looked_at step_is front_ends is_over is_match wildcard_of last_byte apart
    ends_is ran_from ran_all capped counted_is
open_steps = tt
