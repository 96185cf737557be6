-- The namespace list: its entries, and check 2.
use Rattle.std.specs.Prelude.{List, [], ◌∷◌, Bool, true, false, ◌&&◌, ◌||◌, eqb, leb, length, take, drop, get_or, ℕ, zero, suc, ◌+◌}
use Rattle.listing_rules.specs.Bytes.{within, all}
use Rattle.listing_rules.specs.Lists.{every, keep}

pub record Entry : Type 0 where
  pub class : ℕ
  pub prefix : List ℕ
  pub delimiter : ℕ

-- "A namespace entry is class .., prefix length 0 to 64, prefix .., delimiter": the entry whose first byte is c, with t behind it
unfoldable pub entry_at : ℕ → List ℕ → Entry
entry_at c t = record { class = c; prefix = take (get_or t 0 0) (drop 1 t); delimiter = get_or t (1 + get_or t 0 0) 0 }

-- the entries of the bytes, of which the first `skip` still belong to the entry before
unfoldable pub entries_after : ℕ → List ℕ → List Entry
entries_after skip [] = []
entries_after zero (c ∷ t) = entry_at c t ∷ entries_after (suc (suc (get_or t 0 0))) t
entries_after (suc k) (c ∷ t) = entries_after k t

unfoldable pub entries : List ℕ → List Entry
entries l = entries_after 0 l

-- "entries fill the list exactly": no entry runs past the end
unfoldable pub entries_fill : ℕ → List ℕ → Bool
entries_fill zero [] = true
entries_fill (suc k) [] = false
entries_fill zero (c ∷ t) = entries_fill (suc (suc (get_or t 0 0))) t
entries_fill (suc k) (c ∷ t) = entries_fill k t

-- "class (0 personal, 1 other users, 2 shared), prefix length 0 to 64, prefix of bytes 20 to 7E, delimiter (0 for NIL, or 21 to 7E)"
unfoldable pub lawful_entry : Entry → Bool
lawful_entry e =
    leb e.class 2
    && leb (length e.prefix) 64
    && all (within 0x20 0x7E) e.prefix
    && (eqb e.delimiter 0 || within 0x21 0x7E e.delimiter)

-- "Classes do not descend": c is the class of the entry before
unfoldable pub classes_rise : ℕ → List Entry → Bool
classes_rise c [] = true
classes_rise c (e ∷ es) = leb c e.class && classes_rise e.class es

unfoldable pub of_class : ℕ → List Entry → List Entry
of_class c es = keep (λ e. eqb e.class c) es

-- Check 2.
unfoldable pub namespaces_pass : List ℕ → Bool
namespaces_pass l =
    entries_fill 0 l
    && every lawful_entry (entries l)
    && classes_rise 0 (entries l)
    -- "at most 4 entries a class"
    && leb (length (of_class 0 (entries l))) 4
    && leb (length (of_class 1 (entries l))) 4
    && leb (length (of_class 2 (entries l))) 4
