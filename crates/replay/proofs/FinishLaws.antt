-- The end of a log by the state's numbers, and by the replay that they hold. Rests on the definitions alone.
use Rattle.listing_rules.proofs.Prelude.{◌∙◌, ◌≡◌, ap, refl, sym, Bool, cond, false, true, Option, none, some, List, [], ◌∷◌, ◌+◌, ◌-◌, ◌<◌, ◌^◌, ◌≤◌}
use Rattle.listing_rules.proofs.Prelude.{min, ℕ, arith, eqb, length, length-take-le, take, eq-eqb, ne_eqb, suc}
use Rattle.listing_rules.specs.Bytes.{is_empty}
use Rattle.listing_rules.specs.Replay.{all_agree, differs, stopped, Verdict as Meant, first_of, command_due, Replaying, due_at_end, verdict_at_end}
use Rattle.listing_rules.specs.Replay.{replay_end, reporting}
use Rattle.replay.specs.declared.Replaying.{Replaying as State}
use Rattle.replay.specs.declared.verdict.Verdict.{Verdict}
use Rattle.replay.specs.declared.verdict.Verdict.TheVariants.{Agrees, Differs, Stopped}
use Rattle.replay.specs.Holding.{Memory, first_as, due_as, stop_as, Holds}
use Rattle.replay.specs.Reports.{verdict_is, meant_by, end_verdict, Finishes}

-- whether the frame has begun
begun : (p line : List ℕ) (g : ℕ) → take 32771 p ≡ take g line → g ≤ length line → is_empty p ≡ eqb g 0
begun [] line g h l = unfold is_empty in sym (eq-eqb g 0 (omega (arith, ap length h, length-take-le g line l)))
begun (c ∷ p) line g h l = unfold is_empty in sym (ne_eqb g 0 (λ z. omega (arith, z, ap length h, length-take-le g line l)))

-- what is due
due_none : (pending : List ℕ) (n : ℕ) → n ≡ 0 → due_as (take n pending) ≡ command_due
unfolding due_as
due_none pending n e = ap (λ (k : ℕ). due_as (take k pending)) e

due_at_end_lem : (pending : List ℕ) (n frames : ℕ) (first : Option ℕ) → n ≤ length pending
    → due_at_end (due_as (take n pending)) frames first ≡ cond (eqb n 0) (first_of first) (stopped frames)
due_at_end_lem pending n frames first h = go (take n pending) (length-take-le n pending h)
  where
    go : (t : List ℕ) → length t ≡ n → due_at_end (due_as t) frames first ≡ cond (eqb n 0) (first_of first) (stopped frames)
    go [] e = unfold due_as due_at_end in rw (eq-eqb n 0 (sym e))
    go (r ∷ l) e = unfold due_as due_at_end in rw (ne_eqb n 0 (λ z. omega (arith, z, e)))

first_at_end : (n : ℕ) → verdict_is (first_of (first_as n)) ≡ cond (eqb n 0) Agrees (Differs n)
unfolding first_as
first_at_end n = go (eqb n 0)
  where
    go : (b : Bool) → verdict_is (first_of (cond b none (some n))) ≡ cond b Agrees (Differs n)
    go true = unfold first_of verdict_is in refl
    go false = unfold first_of verdict_is in refl

-- the state's answer is the verdict
pub end_means : (st : State) (d : Memory) (x : Replaying) → Holds d st x → st.due ≤ length d.pending → st.gathered ≤ length d.line →
    st.frames < 2 ^ 64 - 1
    → end_verdict st ≡ verdict_is (replay_end x).verdict
unfolding replay_end reporting
end_means st d x h due line few = sym (ap (λ (o : Option ℕ). verdict_is (verdict_at_end o x)) h.stop ∙ by_stop st.stopped)
  where
    pieces : verdict_is (verdict_at_end none x)
        ≡ cond (eqb st.gathered 0) (cond (eqb st.due 0) (cond (eqb st.first 0) Agrees (Differs st.first)) (Stopped st.frames))
        (Stopped (min (st.frames + 1) (2 ^ 64 - 1)))
    pieces =
        held
        ∙ ap (λ (v : Meant). verdict_is (cond (eqb st.gathered 0) v (stopped (suc st.frames))))
        (due_at_end_lem d.pending st.due st.frames (first_as st.first) due)
        ∙ go (eqb st.gathered 0) (eqb st.due 0)
      where
        held : verdict_is (verdict_at_end none x)
            ≡ verdict_is (cond (eqb st.gathered 0) (due_at_end (due_as (take st.due d.pending)) st.frames (first_as st.first))
            (stopped (suc st.frames)))
        held = unfold verdict_at_end in
            λ i. verdict_is (cond (begun x.partial d.line st.gathered h.partial line i) (due_at_end (h.due i) (h.frames i) (h.first i))
            (stopped (suc (h.frames i))))

        counted : suc st.frames ≡ min (st.frames + 1) (2 ^ 64 - 1)
        counted = omega (arith, few)

        go : (g n : Bool) → verdict_is (cond g (cond n (first_of (first_as st.first)) (stopped st.frames)) (stopped (suc st.frames)))
            ≡ cond g (cond n (cond (eqb st.first 0) Agrees (Differs st.first)) (Stopped st.frames)) (Stopped (min (st.frames + 1) (2 ^ 64 - 1)))
        go true true = first_at_end st.first
        go true false = unfold verdict_is in refl
        go false n = unfold verdict_is in ap Stopped counted

    by_stop : (b : Bool) → verdict_is (verdict_at_end (stop_as b st.frames) x)
        ≡ cond b (Stopped st.frames) (cond (eqb st.gathered 0)
        (cond (eqb st.due 0) (cond (eqb st.first 0) Agrees (Differs st.first)) (Stopped st.frames))
        (Stopped (min (st.frames + 1) (2 ^ 64 - 1))))
    by_stop true = unfold stop_as verdict_at_end verdict_is in refl
    by_stop false = unfold stop_as in pieces

pub finishes : (st : State) (r : Verdict) → r ≡ end_verdict st → Finishes st r
finishes st r e = record { means = λ d x h due line few. e ∙ end_means st d x h due line few; answer = e }

-- the code's answer means the verdict
pub meant_is : (v : Meant) → meant_by (verdict_is v) ≡ v
unfolding meant_by verdict_is
meant_is all_agree = refl
meant_is (differs k) = refl
meant_is (stopped k) = refl
