-- The feeder's state goes through C's form unchanged, and so does the feeder's promise. Rests on nothing.
use Rattle.listing_rules.proofs.Prelude.{◌∙◌, ◌≡◌, ap, refl, Bool, false, true, List, ℕ}
use Rattle.command_shape.specs.declared.machine.Tail.TheVariants.{Text, Cr, Open, Digits, Closed, Ending}
use Rattle.command_shape.specs.declared.machine.Place.{Place}
use Rattle.command_shape.specs.declared.machine.Place.TheVariants.{Line, Literal, Dropping}
use Rattle.command_shape.specs.declared.machine.Machine.{Machine}
use Rattle.command_shape.specs.Machine.{first_is}
use Rattle.feeder.specs.declared.Fed.{Fed}
use Rattle.feeder.specs.Feed.{Feeds}
use Rattle.exports.specs.declared.feeding.FeederState.{FeederState}
use Rattle.exports.specs.declared.feeding.FedChunk.{FedChunk}
use Rattle.exports.specs.Outcomes.{as_number}
use Rattle.exports.specs.Feeding.{place_of, machine_of, cr_of, place_numbers, state_of, chunk_of, FeedsChunk}

pub place_back : (p : Place) → place_of (place_numbers p).place (place_numbers p).value ≡ p
unfolding place_of
place_back (Line Text) = refl
place_back (Line Cr) = refl
place_back (Line Open) = refl
place_back (Line (Digits n)) = refl
place_back (Line (Closed n)) = refl
place_back (Line (Ending n)) = refl
place_back (Literal n) = refl
place_back Dropping = refl

cr_back : (b : Bool) → cr_of (as_number b) ≡ b
unfolding as_number
cr_back true = refl
cr_back false = refl

-- C's form of a state loses nothing of it
pub state_back_lem : (m : Machine) → machine_of (state_of m) ≡ m
unfolding machine_of
state_back_lem m = λ i. record { place = place_back m.place i; size = m.size; cr = cr_back m.cr i }

-- the state before the first byte of a command is all zero
pub first_zero : machine_of (record { place = 0; cr = 0; value = 0; size = 0 }) ≡ first_is
unfolding machine_of place_of
first_zero = refl

pub feeds_chunk : (s : FeederState) {m : Machine} (d e chunk : List ℕ) {fed : Fed} (r : FedChunk) → m ≡ machine_of s → Feeds m d e chunk fed →
    r ≡ chunk_of fed → FeedsChunk s d e chunk r
feeds_chunk s d e chunk {fed = fed} r same promise form =
    record {
      fed = fed;
      promise = rw same at promise;
      form = form;
      back = ap machine_of (λ i. (form i).state) ∙ state_back_lem fed.state;
    }
