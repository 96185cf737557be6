-- Document 02, W12: the commands that a walk sends, that each of them is answered, and the numbers that a walk can have.
use Rattle.std.specs.Prelude.{◌≡◌, List, [], ◌∷◌, ◌++◌, map, Bool, true, leb, length, drop, ℕ, zero, suc}
use Rattle.listing_rules.specs.Bytes.{slash, one_of}
use Rattle.listing_rules.specs.Lists.{every}
use Rattle.listing_rules.specs.Table.{Table, rows, passes}
use Rattle.listing_rules.specs.Listing.{candidates}
use Rattle.listing_rules.specs.Server.{is_answered, number_of, answer, limited}
use Rattle.listing_rules.specs.Walk.{Lists, Step, stop, go, asked, lawful_byte, command_line, WalkReply, walk_refused, walked, walk, walk_by}

-- a refused command is the last one
unfoldable pub going_on : {A : Type 0} → Step A → (A → List (List ℕ)) → List (List ℕ)
going_on (stop k) f = []
going_on (go u) f = f u

-- the references of the commands that a walk sends, in order, as `walkFrom` and `walkAll` of `Walk` ask them
module _ (table : Table) (o scratch found pending : ℕ) where
  unfoldable pub references_from : ℕ → ℕ → Lists → List (List ℕ)
  references_from zero done s = []
  references_from (suc k) done s =
      elim (drop done s.asks) [
        | [] ↦ []
        | n ∷
            ns ↦ ((n ++ (slash ∷ [])) ∷ going_on (asked table o scratch found pending s (n ++ (slash ∷ []))) (λ u. references_from k (suc done) u))
      ]

  unfoldable pub references : ℕ → List (List ℕ)
  references fuel = [] ∷ going_on (asked table o scratch found pending (record { finds = []; asks = [] }) []) (λ u. references_from fuel 0 u)

  -- the commands of the whole walk, as bytes; the bound on the steps is the walk's
  unfoldable pub commands_sent : List (List ℕ)
  commands_sent = map (command_line o) (references (suc (suc (length (candidates (rows table))))))

-- the list is honest: a walk that comes to its end counts exactly these commands
abbrev pub WalkCountsThese : Type 0
WalkCountsThese =
    (t : Table) (o scratch found pending count : ℕ) (f p : List ℕ) → walk t o scratch found pending ≡ walked count f p
    → count ≡ length (commands_sent t o scratch found pending)

-- W12: "the collector never passes on 3 to 8 from one of its own commands. Show it, from a table that passes and a lawful option byte": each of
-- them is answered, ..
abbrev pub OwnCommandsAnswered : Type 0
OwnCommandsAnswered =
    (t : Table) (o scratch found pending : ℕ) → passes t ≡ true → lawful_byte o ≡ true
    → every (λ l. is_answered (answer t [] l)) (commands_sent t o scratch found pending) ≡ true

-- .. so that of the refusals 9 alone can come, for scratch
abbrev pub OwnRefusalsNine : Type 0
OwnRefusalsNine =
    (t : Table) (o scratch found pending : ℕ) → passes t ≡ true → lawful_byte o ≡ true
    → every (λ l. one_of (0 ∷ 9 ∷ []) (number_of (limited scratch (answer t [] l)))) (commands_sent t o scratch found pending) ≡ true

-- "The collector's promise then allows no number but 1, 6, 9, 10, 11 and W9's 16". 0 is none of them: a walk that is not refused has sent a
-- command.
unfoldable pub walk_numbers : List ℕ
walk_numbers = 1 ∷ 6 ∷ 9 ∷ 10 ∷ 11 ∷ 16 ∷ []

unfoldable pub allowed_walk : WalkReply → Bool
allowed_walk (walk_refused k) = one_of walk_numbers k
allowed_walk (walked count f p) = leb 1 count

abbrev pub WalksAllowed : Type 0
WalksAllowed = (reader : ℕ) (t : Table) (o scratch found pending : ℕ) → allowed_walk (walk_by reader t o scratch found pending) ≡ true
