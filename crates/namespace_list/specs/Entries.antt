-- The code's entry, which names places of a list, in document 01's terms.
use Rattle.std.specs.Prelude.{◌≡◌, List, ◌∷◌, ℕ, ◌+◌, ◌-◌, ◌≤◌, length, take, drop, get_or}
use Rattle.listing_rules.specs.Namespaces as rules
use Rattle.namespace_list.specs.declared.Entry.{Entry}

abbrev pub entry_of : ℕ → List ℕ → ℕ → rules.Entry
entry_of c p d = record { class = c; prefix = p; delimiter = d }

-- the entry that the code's one stands for
abbrev pub meaning : List ℕ → Entry → rules.Entry
meaning l e = entry_of e.class (take (e.end - e.start) (drop e.start l)) e.delimiter

-- What is known of the entry that begins at a place of the list l.
pub record EntryAt (l : List ℕ) (at : ℕ) (e : Entry) : Type 0 where
  -- its prefix is a part of the list
  pub ordered : e.start ≤ e.end
  pub inside : e.end ≤ length l
  -- the next one begins behind its four parts, in the list or behind it
  pub onward : e.next ≡ at + 3 + get_or l (at + 1) 0
  -- it is the first of the entries from there on
  pub first : rules.entries (drop at l) ≡ meaning l e ∷ rules.entries (drop e.next l)
