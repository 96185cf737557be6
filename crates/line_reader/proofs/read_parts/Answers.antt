-- `read_parts` meets its contract. At each place one equation says what the reader makes of the rest of the line (`Reading`), and a
-- missing part makes it nothing.
use Rattle.std.specs.Prelude.{Some}
use Rattle.listing_rules.proofs.Prelude.{◌∙◌, ◌≡◌, ap, refl, sym, cond, none, some, ◌-◌, ◌≤◌, List, ℕ, arith, drop, length, length-replicate, replicate, take}
use Rattle.listing_rules.specs.Bytes.{text}
use Rattle.listing_rules.specs.Names.{lawful_name}
use Rattle.listing_rules.specs.LineReader.{child_info_read, line, read_parts}
use Rattle.listing_rules.specs.Options.{criteria_of}
use Rattle.list_line.specs.declared.criteria.Criteria.{Criteria}
use Rattle.line_reader.specs.Parts.{Skips, Chooses, Names, tail_is}
use Rattle.line_reader.specs.declared.TheConstants.{NO_NAME}
use Rattle.line_reader.specs.declared.Chosen.{Chosen}
use Rattle.line_reader.proofs.Reading.{from_end, from_name, from_delimiter, chosen_at, start_read, start_missing, attributes_read_lem, delimiter_read}
use Rattle.line_reader.proofs.Reading.{delimiter_missing, name_read_lem, name_missing, tail_whole, end_read, end_missing, name_front}
use Rattle.line_reader.proofs.Reading.{parts_refused, parts_taken}
use Rattle.line_reader.proofs.read_parts.Goals as goal

-- what is left of the line l behind its attributes, its delimiter, its name and its end
module _ (l : List ℕ) (a : ℕ) (started : Skips l 0 (text "* LIST (") (Some a)) (r : Chosen) (chooses : Chooses l a r) where
  chosen : read_parts l ≡ from_delimiter (chosen_at l a) (drop r.at l)
  chosen = start_read l (drop a l) started.0 ∙ attributes_read_lem l a r chooses

  module _ (b : ℕ) (skips : Skips l r.at (text ") \"/\" \"") (Some b)) where
    delimited : read_parts l ≡ from_name (chosen_at l a) (drop b l)
    delimited = chosen ∙ delimiter_read (chosen_at l a) (drop r.at l) (drop b l) skips.0

    module _ (d e : List ℕ) (len j : ℕ) (name : Names l b d e (Some (len, j))) where
      named : read_parts l ≡ from_end (chosen_at l a) name.0 (drop j l)
      named = delimited ∙ name_read_lem (chosen_at l a) (drop b l) name.0 (drop j l) name.1

      ended : (s : Criteria) → tail_is (child_info_read (take (length l - j) (drop j l))) ≡ Some s →
          read_parts l ≡ cond (lawful_name name.0) (some (line (chosen_at l a) name.0 (criteria_of s.bits))) none
      ended s t = named ∙ end_read (chosen_at l a) name.0 l j s t

-- the name in a buffer of 200 zeros
module _ (l : List ℕ) (b : ℕ) (d e : List ℕ) (len j : ℕ) (zeros : d ≡ replicate 200 0) (name : Names l b d e (Some (len, j))) where
  room : len ≤ 200
  room = omega (arith, name.4, ap length zeros, length-replicate {A = ℕ} 200 0)

  front : take len e ≡ name.0
  front = name_front d name.0 zeros (omega (arith, room, name.3)) len e name.3 name.5

no_name : NO_NAME ≡ replicate 200 0
no_name = refl

pub returns-in_err-a : goal.returns-in_err-a
unfolding text
returns-in_err-a c = c.from_residual.ensures ∙ sym (parts_refused _ (start_missing _ c.in_err-a.ensures))

pub returns-in_err-b : goal.returns-in_err-b
unfolding text
returns-in_err-b c =
    let before = chosen c.args.line.now c.in_ok-a.a c.in_ok-a.ensures _ c.read_attributes-chosen.ensures in
    c.from_residual-in_err-b.ensures ∙ sym (parts_refused _ (before ∙ delimiter_missing _ _ c.in_err-b.ensures))

pub returns-in_err-len : goal.returns-in_err-len
unfolding text
returns-in_err-len c =
    let l = c.args.line.now in
    let before = delimited l c.in_ok-a.a c.in_ok-a.ensures _ c.read_attributes-chosen.ensures c.in_ok-b.b c.in_ok-b.ensures in
    c.from_residual-in_err-len.ensures ∙ sym (parts_refused l (before ∙ name_missing _ l c.in_ok-b.b _ c.read_name.new.name no_name c.in_err-len.ensures))

pub returns-in_err-criteria : goal.returns-in_err-criteria
unfolding text
returns-in_err-criteria c =
    let l = c.args.line.now in
    let name : Names l c.in_ok-b.b NO_NAME c.read_name.new.name (Some (c.in_ok-len.len, c.in_ok-len.end)) = c.in_ok-len.ensures in
    let before = named l c.in_ok-a.a c.in_ok-a.ensures _ c.read_attributes-chosen.ensures c.in_ok-b.b c.in_ok-b.ensures _ _ _ _ name in
    c.from_residual-in_err-criteria.ensures ∙ sym (parts_refused l (before ∙ end_missing _ _ _ c.in_ok-len.end (sym c.in_err-criteria.ensures)))

pub returns-then-not-lawful_name : goal.returns-then-not-lawful_name
unfolding text
returns-then-not-lawful_name c =
    let l = c.args.line.now in
    let name : Names l c.in_ok-b.b NO_NAME c.read_name.new.name (Some (c.in_ok-len.len, c.in_ok-len.end)) = c.in_ok-len.ensures in
    let whole =
    ended l c.in_ok-a.a c.in_ok-a.ensures _ c.read_attributes-chosen.ensures c.in_ok-b.b c.in_ok-b.ensures _ _ _ _ name _ (sym c.in_ok-criteria.ensures) in
    let lawful : c.lawful_name.result ≡ lawful_name name.0 =
    c.lawful_name.ensures ∙ ap lawful_name (front l c.in_ok-b.b _ _ _ _ no_name name) in
    sym (parts_refused l (whole ∙ rw (sym lawful ∙ c.if-not-lawful_name.true)))

pub returns : goal.returns
unfolding chosen_at text
returns c =
    let l = c.args.line.now in
    let name : Names l c.in_ok-b.b NO_NAME c.read_name.new.name (Some (c.in_ok-len.len, c.in_ok-len.end)) = c.in_ok-len.ensures in
    let tail = sym c.in_ok-criteria.ensures in
    let whole =
    ended l c.in_ok-a.a c.in_ok-a.ensures _ c.read_attributes-chosen.ensures c.in_ok-b.b c.in_ok-b.ensures _ _ _ _ name _ tail in
    let lawful : c.lawful_name.result ≡ lawful_name name.0 =
    c.lawful_name.ensures ∙ ap lawful_name (front l c.in_ok-b.b _ _ _ _ no_name name) in
    parts_taken l (chosen_at l c.in_ok-a.a) name.0 _ _ c.in_ok-len.len NO_NAME c.read_name.new.name
    (whole ∙ rw (sym lawful ∙ c.if-not-lawful_name.false)) (tail_whole _ _ tail)
    c.read_attributes-chosen.ensures.chosen name.3 (room l c.in_ok-b.b _ _ _ _ no_name name) no_name name.5
