-- Mailbox names: levels, proper ancestors and descendants, walk order, and the shape of a lawful name.
use Rattle.std.specs.Prelude.{List, [], ◌∷◌, map, Bool, true, false, cond, ◌&&◌, ◌||◌, not, eqb, leb, length}
use Prim.Native.Nat.{ℕ, compare, Ordering}
use Rattle.listing_rules.specs.Bytes.{text, slash, within, all, same, spells, percent, star}
use Rattle.listing_rules.specs.Lists.{every, on_first}
use Rattle.listing_rules.specs.Orders.{then_by, lex_by, byte_order}

-- "levels parted by '/'": what stands between the slashes
unfoldable pub levels : List ℕ → List (List ℕ)
levels [] = [] ∷ []
levels (b ∷ t) = let r = levels t in cond (eqb b slash) ([] ∷ r) (on_first b r)

-- "A name's proper ancestors are what stands before each of its '/'"
unfoldable pub proper_ancestors : List ℕ → List (List ℕ)
proper_ancestors [] = []
proper_ancestors (b ∷ t) = let r = map (λ a. b ∷ a) (proper_ancestors t) in cond (eqb b slash) ([] ∷ r) r

-- "it is their descendant": n lies below a, that is, n goes on with a slash behind a
unfoldable pub below : List ℕ → List ℕ → Bool
below [] [] = false
below [] (c ∷ n) = eqb c slash
below (b ∷ a) [] = false
below (b ∷ a) (c ∷ n) = eqb b c && below a n

-- "by the first level that differs, by bytes, a prefix first"
unfoldable pub level_order : List (List ℕ) → List (List ℕ) → Ordering
level_order a b = lex_by byte_order a b

-- "Walk order: fewer levels first, then by the first level that differs, by bytes, a prefix first."
unfoldable pub walk_order : List ℕ → List ℕ → Ordering
walk_order a b = then_by (compare (length (levels a)) (length (levels b))) (level_order (levels a) (levels b))

unfoldable pub inbox : List ℕ
inbox = text "INBOX"

-- "name bytes are 20 to 7E (hex), without % and *"
unfoldable pub name_byte : ℕ → Bool
name_byte b = within 0x20 0x7E b && not (eqb b percent) && not (eqb b star)

-- a level is "non-empty"
unfoldable pub is_full : List ℕ → Bool
is_full [] = false
is_full (b ∷ t) = true

-- "a first level that equals INBOX without regard to case is spelled INBOX"
unfoldable pub inbox_spelled : List (List ℕ) → Bool
inbox_spelled [] = true
inbox_spelled (l ∷ ls) = not (spells l inbox) || same l inbox

-- a name of the table's shape: "name length 1 to 200"; its bytes; "1 to 16 non-empty levels"; the INBOX rule
unfoldable pub lawful_name : List ℕ → Bool
lawful_name n =
    within 1 200 (length n)
    && all name_byte n
    && leb (length (levels n)) 16
    && every is_full (levels n)
    && inbox_spelled (levels n)
