-- The machine follows the feeder: a step from the state that stands for one of the feeder's leads to the state that stands for the
-- next, and signals what comes of the byte. Rests on Tails and on the laws of listing_rules' FeederLaws.
use Rattle.listing_rules.proofs.Prelude.{◌∙◌, ◌≡◌, ap, refl, sym, Bool, ◌&&◌, ◌||◌, cond, false, false≢true, not, true, Option, none, some, List, []}
use Rattle.listing_rules.proofs.Prelude.{◌++◌, ◌∷◌, ◌+◌, ◌-◌, ◌<◌, min, suc, ℕ, arith, eqb, leb, length, length-append, eqb-true, le-leb, leb-false}
use Rattle.listing_rules.proofs.Prelude.{leb-true, lt-leb}
use Rattle.listing_rules.specs.Feeder.{Feeder, reading, in_literal, dropping, first, last_is, ends_line, announced, quiet, go_on, denied, gives, dropped}
use Rattle.listing_rules.specs.Feeder.{offends, refusing, awaiting, line_ended, text_byte, fed_byte}
use Rattle.listing_rules.proofs.Bools.{and_r}
use Rattle.listing_rules.proofs.FeederLaws.{last_snoc, ends_snoc}
use Rattle.command_shape.specs.declared.machine.Tail.{Tail}
use Rattle.command_shape.specs.declared.machine.Tail.TheVariants.{Text, Cr, Open, Digits, Closed, Ending}
use Rattle.command_shape.specs.declared.machine.Place.TheVariants.{Line, Literal, Dropping}
use Rattle.command_shape.specs.declared.machine.Machine.{Machine}
use Rattle.command_shape.specs.declared.machine.Signal.TheVariants.{Quiet, GoOn, Whole, Refused}
use Rattle.command_shape.specs.declared.machine.Stepped.{Stepped}
use Rattle.command_shape.specs.Machine.{at_cr, tail_from, first_is, steps, standing, awaiting_is, literal_is, announced_is, text_is, line_is, dropped_is}
use Rattle.command_shape.specs.Machine.{refused_is, offending, step_at, step_is, machine_of, signal_of, stepped_of}
use Rattle.command_shape.proofs.Tails.{line_cr, tail_snoc, capped_option, end_value, announced_is_lem}

-- ---- the end of a line

-- the LF after a CR ends the line, which announces a number or none
ended_is : Option ℕ → ℕ → Stepped
ended_is none size = steps first_is Whole
ended_is (some n) size = announced_is n size

line_is_lem : (t : Tail) (size c : ℕ) → line_is t size c ≡ cond (at_cr t && eqb c 10) (ended_is (end_value t) size) (text_is t size c)
unfolding line_is ended_is
line_is_lem Text size c = refl
line_is_lem Cr size c = refl
line_is_lem Open size c = refl
line_is_lem (Digits v) size c = refl
line_is_lem (Closed v) size c = refl
line_is_lem (Ending v) size c = refl

-- only what a number is as far as it matters decides
ended_capped : (kept : List ℕ) (o : Option ℕ) → line_ended kept (capped_option o) ≡ line_ended kept o
unfolding line_ended
ended_capped kept none = refl
ended_capped kept (some n) = go (leb n 1024) refl
  where
    go : (o : Bool) → leb n 1024 ≡ o → line_ended kept (some (min n 1025)) ≡ line_ended kept (some n)
    go true e = let low : min n 1025 ≡ n = omega (arith, leb-true n 1024 e) in rw low
    go false e = let high : min n 1025 ≡ 1025 = omega (arith, leb-false n 1024 e) in rw (high, e)

-- ---- the states

pub first_is_lem : first_is ≡ machine_of first
unfolding machine_of first tail_from last_is
first_is_lem = refl

-- the state of a command with the byte c more
awaiting_is_lem : (kept : List ℕ) (c n : ℕ) → standing (awaiting_is n) (length kept + 1) c ≡ machine_of (awaiting (kept ++ (c ∷ [])) n)
unfolding awaiting_is awaiting machine_of tail_from
awaiting_is_lem kept c n = go (eqb n 0)
  where
    go : (o : Bool) → record { place = cond o (Line Text) (Literal n); size = length kept + 1; cr = eqb c 13 } ≡ machine_of (cond o (reading (kept ++ (c ∷ [])) []) (in_literal (kept ++ (c ∷ [])) n))
    go true = rw (length-append kept (c ∷ []), last_snoc 13 kept c)
    go false = rw (length-append kept (c ∷ []), last_snoc 13 kept c)

reading_is : (kept line : List ℕ) (c : ℕ) → text_is (tail_from Text line) (length kept + 1) c ≡ stepped_of (gives (reading (kept ++ (c ∷ [])) (line ++ (c ∷ []))) quiet)
unfolding gives signal_of machine_of
reading_is kept line c = rw (tail_snoc Text line c, length-append kept (c ∷ []), last_snoc 13 kept c)

dropped_is_lem : (cr : Bool) (c : ℕ) → dropped_is cr c ≡ machine_of (dropped cr c)
unfolding dropped_is dropped machine_of first tail_from last_is
dropped_is_lem cr c = go (cr && eqb c 10)
  where
    go : (o : Bool) → cond o first_is (record { place = Dropping; size = 0; cr = eqb c 13 }) ≡ machine_of (cond o first (dropping (eqb c 13)))
    go true = refl
    go false = refl

-- ---- one step

ended_is_lem : (kept : List ℕ) (o : Option ℕ) → ended_is o (length kept + 1) ≡ stepped_of (line_ended (kept ++ (10 ∷ [])) o)
unfolding ended_is line_ended gives signal_of announced_is
ended_is_lem kept none = ap (λ (m : Machine). steps m Whole) first_is_lem
ended_is_lem kept (some n) = go (leb n 1024)
  where
    go : (o : Bool) → cond o (steps (standing (awaiting_is n) (length kept + 1) 10) GoOn) (steps first_is Refused) ≡ stepped_of
        (cond o (gives (awaiting (kept ++ (10 ∷ [])) n) go_on) (gives first (denied 3)))
    go true = ap (λ (m : Machine). steps m GoOn) (awaiting_is_lem kept 10 n)
    go false = ap (λ (m : Machine). steps m Refused) first_is_lem

refused_is_lem : (kept : List ℕ) (c : ℕ) → refused_is (last_is 13 kept) c ≡ stepped_of (refusing kept c)
unfolding refusing gives signal_of
refused_is_lem kept c = ap (λ (m : Machine). steps m Refused) (dropped_is_lem (last_is 13 kept) c)

-- a byte of a line
text_is_lem : (kept line : List ℕ) (c : ℕ) → line_is (tail_from Text line) (length kept + 1) c ≡ stepped_of (text_byte (kept ++ (c ∷ [])) (line ++ (c ∷ [])))
unfolding text_byte
text_is_lem kept line c = line_is_lem tail size c ∙ ap (λ (o : Bool). cond (o && eqb c 10) (ended_is (end_value tail) size) (text_is tail size c)) (line_cr line) ∙ go (last_is 13 line && eqb c 10) refl
  where
    tail : Tail
    tail = tail_from Text line

    size : ℕ
    size = length kept + 1

    ends : eqb c 10 ≡ true → ended_is (end_value tail) size ≡ stepped_of (line_ended (kept ++ (c ∷ [])) (announced (line ++ (c ∷ []))))
    ends e =
        rw (eqb-true c 10 e)
        (ended_is_lem kept (end_value tail)
        ∙ ap stepped_of (sym (ended_capped (kept ++ (10 ∷ [])) (end_value tail)) ∙ ap (line_ended (kept ++ (10 ∷ []))) (sym (announced_is_lem line)) ∙
        ended_capped (kept ++ (10 ∷ [])) (announced (line ++ (10 ∷ [])))))

    go : (o : Bool) → (last_is 13 line && eqb c 10) ≡ o →
        cond o (ended_is (end_value tail) size) (text_is tail size c) ≡ stepped_of
        (cond (ends_line (line ++ (c ∷ []))) (line_ended (kept ++ (c ∷ [])) (announced (line ++ (c ∷ []))))
        (gives (reading (kept ++ (c ∷ [])) (line ++ (c ∷ []))) quiet))
    go true e = rw (ends_snoc line c ∙ e) (ends (and_r (last_is 13 line) (eqb c 10) e))
    go false e = rw (ends_snoc line c ∙ e) (reading_is kept line c)

-- a byte of a literal
literal_is_lem : (kept : List ℕ) (n c : ℕ) → literal_is n (length kept + 1) c ≡ stepped_of (gives (awaiting (kept ++ (c ∷ [])) (n - 1)) quiet)
unfolding gives signal_of
literal_is_lem kept n c = ap (λ (m : Machine). steps m Quiet) (awaiting_is_lem kept c (n - 1))

-- a command of 2,048 bytes takes none more
pub offending_is : (kept : List ℕ) (c : ℕ) → offending (length kept) c ≡ offends kept c
unfolding offends
offending_is kept c = ap (λ (o : Bool). o || eqb c 0) (full (leb 2048 (length kept)) refl)
  where
    full : (o : Bool) → leb 2048 (length kept) ≡ o → o ≡ not (leb (suc (length kept)) 2048)
    full true e = rw (lt-leb (suc (length kept)) 2048 (omega (arith, leb-true 2048 (length kept) e)))
    full false e = rw (le-leb (suc (length kept)) 2048 (omega (arith, leb-false 2048 (length kept) e)))

-- One byte, from any state of the feeder: the machine goes with it.
pub step_is_lem : (s : Feeder) (c : ℕ) → step_is (machine_of s) c ≡ stepped_of (fed_byte s c)
unfolding step_at machine_of fed_byte
step_is_lem (reading kept line) c = rw (offending_is kept c) (go (offends kept c))
  where
    go : (o : Bool) → cond o (refused_is (last_is 13 kept) c) (line_is (tail_from Text line) (length kept + 1) c) ≡ stepped_of (cond o (refusing kept c) (text_byte (kept ++ (c ∷ [])) (line ++ (c ∷ []))))
    go true = refused_is_lem kept c
    go false = text_is_lem kept line c
step_is_lem (in_literal kept n) c = rw (offending_is kept c) (go (offends kept c))
  where
    go : (o : Bool) → cond o (refused_is (last_is 13 kept) c) (literal_is n (length kept + 1) c) ≡ stepped_of (cond o (refusing kept c) (gives (awaiting (kept ++ (c ∷ [])) (n - 1)) quiet))
    go true = refused_is_lem kept c
    go false = literal_is_lem kept n c
step_is_lem (dropping cr) c = unfold gives signal_of in ap (λ (m : Machine). steps m Quiet) (dropped_is_lem cr c)

-- a byte that is not refused has room
pub room_left : (size c : ℕ) → offending size c ≡ false → size < 2048
room_left size c e = go (leb 2048 size) refl e
  where
    go : (o : Bool) → leb 2048 size ≡ o → (o || eqb c 0) ≡ false → size < 2048
    go true h g = absurd (false≢true (sym g))
    go false h g = omega (arith, leb-false 2048 size h)
