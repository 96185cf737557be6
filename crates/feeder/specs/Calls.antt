-- A run of calls of `feed` over a stream of bytes, cut anywhere.
use Rattle.std.specs.Prelude.{◌≡◌, List, [], ◌∷◌, ◌++◌, length, take, drop, ℕ, ◌≤◌}
use Rattle.listing_rules.specs.Feeder.{Event as Meant}
use Rattle.command_shape.specs.declared.machine.Machine.{Machine}
use Rattle.feeder.specs.declared.Fed.{Fed}
use Rattle.feeder.specs.Feed.{events_of, Feeds}

-- one call: the chunk, the lent memory before and after, and the answer
pub record Call : Type 0 where
  pub chunk : List ℕ
  pub before : List ℕ
  pub after : List ℕ
  pub answer : Fed

-- The calls follow each other from the state `m` and the memory `d`: each is lent 2,048 bytes or more, gets the state of the one before,
-- and finds the command's bytes so far as that one left them. What lies behind those may change between two calls.
abbrev pub Calls : Machine → List ℕ → List Call → Type 0
Calls m d [] = Unit
Calls m d (x ∷ xs) = (2048 ≤ length x.before) × (take m.size x.before ≡ take m.size d) × Feeds m x.before x.after x.chunk x.answer × Calls x.answer.state x.after xs

-- The calls go through the stream: each is given a front piece of what is left, of any length, zero too, and what it takes is left out
-- then; at the end nothing is left.
abbrev pub Through : List ℕ → List Call → Type 0
Through stream [] = stream ≡ []
Through stream (x ∷ xs) = ((behind : List ℕ) × (stream ≡ x.chunk ++ behind)) × Through (drop x.answer.used stream) xs

-- what the calls say, in order
unfoldable pub said_by : List Call → List Meant
said_by [] = []
said_by (x ∷ xs) = events_of x.after x.answer.event ++ said_by xs

-- the state behind the last call
unfoldable pub state_after : Machine → List Call → Machine
state_after m [] = m
state_after m (x ∷ xs) = state_after x.answer.state xs
