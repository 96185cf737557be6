-- `mailbox_table::scan::some_below` meets its contract: where a scan begins at row i, it decides by its byte after the first bytes
-- and by its marks, or the rows after it do. Each way is a law of ScanLaws.
use Rattle.listing_rules.proofs.Prelude.{◌∙◌, ◌≡◌, sym, ◌&&◌, arith, eqb, get_or}
use Rattle.octets.specs.Sets.{contains}
use Rattle.mailbox_table.specs.Index.{name_at, nth_name}
use Rattle.mailbox_table.specs.Below.{marks_of}
use Rattle.mailbox_table.proofs.BelowLaws.{starts_take}
use Rattle.mailbox_table.proofs.ScanLaws.{scan_byte, scan_found, scan_on}
use Rattle.mailbox_table.proofs.scan.some_below.Goals as goal

pub returns-then-own-gt-SLASH : goal.returns-then-own-gt-SLASH
returns-then-own-gt-SLASH c =
    let byte : let a = c.args in c.byte_at-own.result ≡ get_or
    (nth_name a.area.now a.words.now a.i)
    a.len 0 = unfold name_at in c.byte_at-own.ensures ∙ rw (c.name_of.ensures, c.of_word.ensures) in
    λ from-i. sym (scan_byte from-i _ _ from-i.row (starts_take c.args.len _) (omega (arith, byte)))

pub returns-then-own-is_marked : goal.returns-then-own-is_marked
returns-then-own-is_marked c =
    let byte : let a = c.args in c.byte_at-own.result ≡ get_or
    (nth_name a.area.now a.words.now a.i)
    a.len 0 = unfold name_at in c.byte_at-own.ensures ∙ rw (c.name_of.ensures, c.of_word.ensures) in
    let test : let a = c.args in (eqb c.byte_at-own.result 47 &&
    c.is_marked.result) ≡ (eqb (get_or (nth_name a.area.now a.words.now a.i) a.len 0) 47 && contains
    (marks_of (get_or a.words.now a.i 0)) a.marks) = λ j. eqb (byte j) 47 && c.is_marked.ensures j in
    λ from-i. sym (scan_found from-i _ _ from-i.row (starts_take c.args.len _) (sym test ∙ c.if-own-is_marked.true))

pub returns : goal.returns
returns c =
    let byte : let a = c.args in c.byte_at-own.result ≡ get_or
    (nth_name a.area.now a.words.now a.i)
    a.len 0 = unfold name_at in c.byte_at-own.ensures ∙ rw (c.name_of.ensures, c.of_word.ensures) in
    let test : let a = c.args in (eqb c.byte_at-own.result 47 &&
    c.is_marked.result) ≡ (eqb (get_or (nth_name a.area.now a.words.now a.i) a.len 0) 47 && contains
    (marks_of (get_or a.words.now a.i 0)) a.marks) = λ j. eqb (byte j) 47 && c.is_marked.ensures j in
    λ from-i.
    c.some_after.ensures from-i
    ∙ sym (scan_on from-i _ _ from-i.row (starts_take c.args.len _) (sym test ∙ c.if-own-is_marked.false))
