-- Byte runs that hold items one behind the other, each as a length byte and its bytes.
use Rattle.std.specs.Prelude.{List, [], ◌∷◌, take, ℕ, zero, suc}

-- the items of the bytes, of which the first `skip` still belong to the item before
unfoldable pub unpacked_after : ℕ → List ℕ → List (List ℕ)
unpacked_after skip [] = []
unpacked_after zero (n ∷ t) = take n t ∷ unpacked_after n t
unpacked_after (suc k) (b ∷ t) = unpacked_after k t

-- the items of the bytes; a last item that runs past the end is cut short there
unfoldable pub unpacked : List ℕ → List (List ℕ)
unpacked l = unpacked_after 0 l

-- opens every definition of this file, for a proof by computation
unfoldable pub open_packed : Unit {0}
unfolding unpacked_after unpacked
open_packed = tt
