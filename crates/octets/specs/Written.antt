-- What a call that writes into a lent buffer answers, in document 01's terms.
use Rattle.std.specs.Prelude.{◌≡◌, List, ℕ, length, Result, Ok, Err}
use Rattle.listing_rules.specs.Server.{Reply, refusal, answered, limited, buffer_after}
use Rattle.octets.specs.declared.refusals.Refusal.{Refusal}
use Rattle.octets.specs.Refusals.{numbered}

-- a reply's case: the number of a refusal, or the length of the answer
unfoldable pub written_is : Reply → Result ℕ ℕ
written_is (refusal k) = Err k
written_is (answered a) = Ok (length a)

-- What a call that answers into a lent buffer owes: its result and every byte of the buffer, before and after, are the reply's, which
-- is refused where it is longer than the buffer.
abbrev pub Gives : Reply → List ℕ → List ℕ → Result ℕ Refusal → Type 0
Gives reply before after r = (numbered r ≡ written_is (limited (length before) reply)) × (after ≡ buffer_after before (limited (length before) reply))
