-- An option's value, read without a bound on the steps: the bytes that are left are steps enough.
use Rattle.std.specs.Prelude.{cond, List, ℕ, length}
use Rattle.std.proofs.Math.Option.{Option, some}
use Rattle.listing_rules.specs.Bytes.{text}
use Rattle.listing_rules.specs.Tokens.{◌>>=◌, at, after, astring}
use Rattle.listing_rules.specs.Command.{value_rest}

-- what is left of the line behind the value whose opening parenthesis stands just before
unfoldable pub value_of : List ℕ → Option (List ℕ)
value_of t = value_rest (length t) t

-- an astring, as an item of a value
unfoldable pub string_item : List ℕ → Option (List ℕ)
string_item t = astring t >>= λ g. some g.rest

-- the first item: a value in parentheses or an astring
unfoldable pub first_item : (List ℕ → Option (List ℕ)) → List ℕ → Option (List ℕ)
first_item value t = cond (at 40 t) (after (text "(") t >>= value) (string_item t)

-- behind an item: a space and the next one, or the closing parenthesis
unfoldable pub behind_item : (List ℕ → Option (List ℕ)) → List ℕ → Option (List ℕ)
behind_item value u = cond (at 32 u) (after (text " ") u >>= value) (after (text ")") u)
