-- A series of commands over a store (document 02, W6): what it leaves, and what a plain set of names holds that is given the same accepted edits.
use Rattle.std.specs.Prelude.{List, [], ◌∷◌, Bool, ℕ}
use Rattle.listing_rules.specs.Command.{Parsed, refused, namespace, listing, root_of, subscriptions, editing, parsed}
use Rattle.listing_rules.specs.Subscriptions.{Store, set_edited}
use Rattle.listing_rules.specs.Server.{Reply, refusal, answered, Commanded, commanded}

-- a command as it is sent: its reader, the namespace list at that time, the line, and the answer buffer as it was lent
pub record Sent : Type 0 where
  pub reader : ℕ
  pub namespaces : List ℕ
  pub line : List ℕ
  pub buffer : List ℕ

unfoldable pub sent_to : Store → Sent → Commanded
sent_to s c = commanded c.reader s c.namespaces c.line c.buffer

-- each command over what the one before left
unfoldable pub commanded_all : Store → List Sent → Store
commanded_all s [] = s
commanded_all s (c ∷ cs) = commanded_all (sent_to s c).store cs

-- whether the set has the name m after the command: an edit that is answered is given to the set, and nothing else changes it
unfoldable pub set_commanded : (List ℕ → Bool) → Parsed → Reply → List ℕ → Bool
set_commanded has (editing tag e) (answered a) m = set_edited has e m
set_commanded has (editing tag e) (refusal k) m = has m
set_commanded has (refused k) r m = has m
set_commanded has (namespace tag) r m = has m
set_commanded has (listing tag o ps) r m = has m
set_commanded has (root_of tag) r m = has m
set_commanded has (subscriptions tag ps) r m = has m

-- "a plain set, starting with the table's and given the same accepted edits": a set that starts as `has` and is given a series of commands,
-- each accepted or not as it is over what the one before left stored
unfoldable pub set_sent : Store → (List ℕ → Bool) → List Sent → List ℕ → Bool
set_sent s has [] m = has m
set_sent s has (c ∷ cs) m = let done = sent_to s c in set_sent done.store (set_commanded has (parsed c.line) done.reply) cs m
