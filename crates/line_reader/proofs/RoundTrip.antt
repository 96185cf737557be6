-- The line writer and the reader undo each other, over their own parts: the number of a set of attributes, a name, and the number of a
-- set of criteria. Rests on the definitions' RoundTrip and on Members of `list_line`.
use Rattle.std.specs.Prelude.{Option as Maybe, Some, None, Ok, ok_or}
use Rattle.listing_rules.proofs.Prelude.{◌∙◌, ◌≡◌, ap, refl, subst, sym, ◌⊎◌, inl, inr, List, ◌++◌, ◌-◌, ◌<◌, ℕ, arith, length, replicate, take}
use Rattle.listing_rules.proofs.Prelude.{take-append_seam}
use Rattle.listing_rules.specs.Options.{criteria_number}
use Rattle.listing_rules.specs.Lines.{root_line}
use Rattle.listing_rules.specs.Server.{answered}
use Rattle.listing_rules.specs.LineReader.{Read, line, root, bad, read_line, attributes_read, name_read, child_info_of, read_number, name_bytes, line_from}
use Rattle.listing_rules.proofs.Keys.{open_options, open_reader}
use Rattle.listing_rules.proofs.ReaderWriter.{Taken, read_line_only}
use Rattle.listing_rules.proofs.RoundTrip.{written_is_read, read_is_written}
use Rattle.list_line.specs.Members.{members, set_of}
use Rattle.list_line.proofs.Members.{members_set_of, set_of_members, length_members}
use Rattle.line_reader.specs.Lines.{parts_of, line_is}
use Rattle.line_reader.specs.declared.Parts.{Parts}

-- these parts: the name in 200 bytes, zero after it
abbrev pub these_parts : ℕ → List ℕ → ℕ → Parts
these_parts a n k = record { attributes = record { bits = a }; name = n ++ replicate (200 - length n) 0; len = length n; criteria = record { bits = k } }

-- what is read has its parts
read_parts_of : (r : Read) → read_number r ≡ 0 → parts_of r ≡ Some (these_parts (set_of (attributes_read r)) (name_read r) (criteria_number (child_info_of r)))
unfolding parts_of read_number attributes_read name_read name_bytes child_info_of
read_parts_of (line bs n c) e = refl
read_parts_of root e = unfold open_reader open_options set_of in refl
read_parts_of bad e = absurd (omega (arith, e))

-- parts are those of a line that was read
parts_read : (r : Read) (p : Parts) → parts_of r ≡ Some p → read_number r ≡ 0
unfolding parts_of read_number
parts_read (line bs n c) p e = refl
parts_read root p e = refl
parts_read bad p e = cc

sixteen_read : (l : List ℕ) → read_number (read_line l) ≡ 0 → length (attributes_read (read_line l)) ≡ 16
unfolding read_number attributes_read
sixteen_read l h = go (read_line_only l)
  where
    go : (read_line l ≡ bad) ⊎ ((l ≡ root_line) × (read_line l ≡ root)) ⊎ Taken l (read_line l) → length (attributes_read (read_line l)) ≡ 16
    go (inl e) = absurd (omega (arith, ap read_number e))
    go (inr (inl w)) = rw w.1 (unfold open_reader in refl)
    go (inr (inr T)) = rw T.is T.sixteen

-- What the line writer writes, the reader gives back: the same three parts, the name in 200 bytes, zero after it.
pub writer_then_reader : (a k : ℕ) (n l : List ℕ) → a < 65536 → line_from (members a) n k ≡ answered l → line_is (read_line l) ≡ Ok (these_parts a n k)
unfolding line_is
writer_then_reader a k n l h e =
    let w = written_is_read (members a) n k l (length_members a) e in
    let is : set_of (attributes_read (read_line l)) ≡ a = ap set_of w.1 ∙ set_of_members a h in
    let parts : parts_of (read_line l) ≡ Some (these_parts a n k) = read_parts_of (read_line l) w.0 ∙ (λ i. Some (these_parts (is i) (w.2 i) (w.3 i))) in
    ap (λ (o : Maybe Parts). ok_or {E = ℕ} o 12) parts

-- What the reader takes, the line writer writes again from the parts that the reader gave.
pub reader_then_writer : (l : List ℕ) (p : Parts) → line_is (read_line l) ≡ Ok p → line_from (members p.attributes.bits) (take p.len p.name) p.criteria.bits ≡ answered l
unfolding line_is
reader_then_writer l p e = subst (λ (q : Parts). line_from (members q.attributes.bits) (take q.len q.name) q.criteria.bits ≡ answered l) same written
  where
    some_parts : (o : Maybe Parts) → ok_or {E = ℕ} o 12 ≡ Ok p → o ≡ Some p
    some_parts None f = cc
    some_parts (Some q) f = cc

    taken : parts_of (read_line l) ≡ Some p
    taken = some_parts (parts_of (read_line l)) e

    read : read_number (read_line l) ≡ 0
    read = parts_read (read_line l) p taken

    mine : Parts
    mine = these_parts (set_of (attributes_read (read_line l))) (name_read (read_line l)) (criteria_number (child_info_of (read_line l)))

    same : mine ≡ p
    same = let w : Some mine ≡ Some p = sym (read_parts_of (read_line l) read) ∙ taken in cc

    written : line_from (members mine.attributes.bits) (take mine.len mine.name) mine.criteria.bits ≡ answered l
    written =
        (λ i. line_from (members_set_of (attributes_read (read_line l)) (sixteen_read l read) i) (take-append_seam (name_read (read_line l)) (replicate (200 - length (name_read (read_line l))) 0) i) (criteria_number (child_info_of (read_line l)))) ∙
        read_is_written l read
