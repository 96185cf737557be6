-- What a replay reports at the end of its log.
use Rattle.std.specs.Prelude.{◌≡◌, cond, eqb, length, ◌+◌, ◌-◌, ◌<◌, ◌≤◌, ◌^◌, min}
use Rattle.listing_rules.specs.Replay.{Verdict as Meant, all_agree, differs, stopped, Replaying, replay_end}
use Rattle.replay.specs.declared.Replaying.{Replaying as State}
use Rattle.replay.specs.declared.verdict.Verdict.{Verdict}
use Rattle.replay.specs.declared.verdict.Verdict.TheVariants.{Agrees, Differs, Stopped}
use Rattle.replay.specs.Holding.{Memory, Holds}

-- the code's answer
unfoldable pub verdict_is : Meant → Verdict
verdict_is all_agree = Agrees
verdict_is (differs k) = Differs k
verdict_is (stopped k) = Stopped k

-- and what it means, of which `replayNumber` and `replayFrame` are the numbers
unfoldable pub meant_by : Verdict → Meant
meant_by Agrees = all_agree
meant_by (Differs k) = differs k
meant_by (Stopped k) = stopped k

-- by the state alone: the number of a frame that has begun counts as far as a number goes
abbrev pub end_verdict : State → Verdict
end_verdict st =
    cond st.stopped (Stopped st.frames)
    (cond (eqb st.gathered 0)
    (cond (eqb st.due 0) (cond (eqb st.first 0) Agrees (Differs st.first)) (Stopped st.frames))
    (Stopped (min (st.frames + 1) (2 ^ 64 - 1))))

-- What `finish` promises: whatever replay the memory holds, its verdict. A state that `feed` gave, or the first one, has a frame more to count.
pub record Finishes (st : State) (r : Verdict) : Type 0 where
  pub means : (d : Memory) (x : Replaying) → Holds d st x → st.due ≤ length d.pending → st.gathered ≤ length d.line → st.frames < 2 ^ 64 - 1
      → r ≡ verdict_is (replay_end x).verdict
  -- and for every state
  pub answer : r ≡ end_verdict st
