-- The characters of a frame from a piece of a log.
use Rattle.std.specs.Prelude.{◌≡◌, List, [], ◌∷◌, cond, eqb, length, take, ℕ, ◌+◌, ◌-◌}
use Rattle.std.proofs.lemmas.List.Edits.{sets}
use Rattle.replay.specs.declared.Replaying.{Replaying as State}

-- the characters before the first line feed
unfoldable pub before_feed : List ℕ → List ℕ
before_feed [] = []
before_feed (c ∷ t) = let r = before_feed t in cond (eqb c 10) [] (c ∷ r)

-- those of some characters that are kept after g others
abbrev pub kept_of : ℕ → List ℕ → List ℕ
kept_of g cs = take (32771 - g) cs

-- a state with so many characters gathered
abbrev pub with_gathered : State → ℕ → State
with_gathered st n =
    record { frames = st.frames; first = st.first; due = st.due; stopped = st.stopped; gathered = n; rows = st.rows }

-- The characters `cs` were gathered in the line that was `d` and is `e`.
pub record Gathered (cs d e : List ℕ) (st su : State) : Type 0 where
  pub state : su ≡ with_gathered st (st.gathered + length (kept_of st.gathered cs))
  pub line : e ≡ sets d st.gathered (kept_of st.gathered cs)
