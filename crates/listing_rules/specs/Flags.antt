-- The flags of a row: document 01's table of bits, each bit a named test.
use Rattle.std.specs.Prelude.{List, [], ◌∷◌, Bool, ◌&&◌, ◌||◌, not, eqb, ℕ}
use Rattle.listing_rules.specs.Bytes.{bit}
use Rattle.listing_rules.specs.Lists.{any_of}

unfoldable pub exists : ℕ → Bool
exists f = bit 0 f

unfoldable pub subscribed : ℕ → Bool
subscribed f = bit 1 f

unfoldable pub remote : ℕ → Bool
remote f = bit 2 f

unfoldable pub no_select : ℕ → Bool
no_select f = bit 3 f

unfoldable pub no_inferiors : ℕ → Bool
no_inferiors f = bit 4 f

unfoldable pub marked : ℕ → Bool
marked f = bit 5 f

unfoldable pub unmarked : ℕ → Bool
unmarked f = bit 6 f

-- "8 to 14: All, Archive, Drafts, Flagged, Junk, Sent, Trash"
unfoldable pub uses : ℕ → List Bool
uses f = bit 8 f ∷ bit 9 f ∷ bit 10 f ∷ bit 11 f ∷ bit 12 f ∷ bit 13 f ∷ bit 14 f ∷ []

-- it "has a special use"
unfoldable pub has_use : ℕ → Bool
has_use f = any_of (λ b. b) (uses f)

-- "7, 15: must be 0"; "a row that does not exist has flags exactly 0002"; "marked and unmarked are not both set"
unfoldable pub lawful_flags : ℕ → Bool
lawful_flags f =
    not (bit 7 f) && not (bit 15 f)
    && (exists f || eqb f 0x0002)
    && not (marked f && unmarked f)
