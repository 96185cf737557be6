-- What is known of a call of the system: how many bytes it moved, what is left of them, and which errors are tried again.
use Rattle.std.specs.Prelude.{◌≡◌, List, length, drop, Bool, true, false, ◌||◌, eqb, Result, Ok, Err, ℤ, pos, negsuc, ℕ, ◌≤◌, ◌<◌}
use Rattle.luspemaro.specs.declared.calls.Got.{Got}
use Rattle.luspemaro.specs.declared.calls.Got.TheVariants.{Bytes, End, Failed}
use Rattle.luspemaro.specs.declared.calls.Unsent.{Unsent}

-- the errors after which a call is made again: EINTR, which is 4, and EAGAIN, which is 11
abbrev pub is_repeated : ℤ → Bool
is_repeated (pos n) = eqb n 4 || eqb n 11
is_repeated (negsuc n) = false

-- what a call that is handed n bytes may answer: how many bytes it moved, at most n, or an error
abbrev pub Moved : ℕ → Result ℕ ℤ → Type 0
Moved n (Ok k) = k ≤ n
Moved n (Err error) = Unit

-- a call failed by an error after which it is not made again
abbrev pub Fails : Result ℕ ℤ → ℤ → Type 0
Fails moved error = (moved ≡ Err error) × (is_repeated error ≡ false)

-- a read that gave bytes gave one at least, and they lie in the buffer of so many
abbrev pub GotSome : ℕ → Got → Type 0
GotSome room (Bytes n) = (0 < n) × (n ≤ room)
GotSome room End = Unit
GotSome room (Failed error) = Unit

-- what is left of some bytes after a write: all but the first ones, which it took
abbrev pub Leaves : List ℕ → List ℕ → Type 0
Leaves bytes left = (n : ℕ) × ((n ≤ length bytes) × (left ≡ drop n bytes))

-- a write that was not given up took one at least
abbrev pub LeavesLess : List ℕ → List ℕ → Type 0
LeavesLess bytes left = Leaves bytes left × (length left < length bytes)

-- what came of bytes that were to be sent: how many the system took, and whether they were all
abbrev pub Sent : Type 0
Sent = Result ℕ Unsent

abbrev pub sent_bytes : Sent → ℕ
sent_bytes (Ok n) = n
sent_bytes (Err u) = u.bytes

abbrev pub is_whole : Sent → Bool
is_whole (Ok n) = true
is_whole (Err u) = false

-- of n bytes the system took so many, and all if it says so
abbrev pub Sends : ℕ → Sent → Type 0
Sends n r = (sent_bytes r ≤ n) × (is_whole r ≡ true → sent_bytes r ≡ n)
