-- W4 and W6, of what the entries over records promise (`commanded`): which form a table has, and where its names lie, says nothing. Rests on SeenAlike,
-- EditsAlike and CommandLaws.
use Rattle.listing_rules.proofs.Prelude.{◌∙◌, ◌≡◌, ap, sym, false, true, List, ℕ, arith, length}
use Rattle.listing_rules.specs.Names.{lawful_name}
use Rattle.listing_rules.specs.Table.{passes, packed_table}
use Rattle.listing_rules.specs.Records.{packed_records}
use Rattle.listing_rules.specs.Command.{is_edit, parsed}
use Rattle.listing_rules.specs.Readers.{visible, packed_seen}
use Rattle.listing_rules.specs.Subscriptions.{Store, store_table, store_seen, held, store_rows, Edited, denied, stored, insertion}
use Rattle.listing_rules.specs.Server.{refusal, answer, served_to, commanded}
use Rattle.listing_rules.proofs.CommandLaws.{refused_leaves}
use Rattle.listing_rules.proofs.SeenAlike.{ShowSame, command_reading, packed_beside_records}
use Rattle.listing_rules.proofs.EditsAlike.{Put, Ended, as_before, room_given, command_ended}

-- W4: "For every packed table that passes and its records, every command gives the same bytes and number": of every store that passes and shows a reader
-- the rows that the packed table shows it, its own records or others, laid out anyhow.
pub packed_as_commanded : (reader : ℕ) (t : List ℕ) (s : Store) → passes (packed_table t) ≡ true → passes (store_table s) ≡ true
    → ShowSame (visible reader t (packed_records t)) (visible reader s.area (held s)) → (spaces l buffer : List ℕ) → is_edit (parsed l) ≡ false
    → (commanded reader s spaces l buffer).reply ≡ served_to reader (packed_seen reader t) spaces l buffer
packed_as_commanded reader t s h g e spaces l buffer k =
    command_reading reader s spaces l buffer k ∙ sym ((packed_beside_records reader t s h g e).commands spaces l buffer)

-- the same room: a row that finds none in the one finds none in the other
pub record SameRoom (s c : Store) : Type 0 where
  pub there : (n : List ℕ) → insertion s n ≡ denied 15 → insertion c n ≡ denied 15
  pub back : (n : List ℕ) → insertion c n ≡ denied 15 → insertion s n ≡ denied 15

same_room_back : {s c : Store} → SameRoom s c → SameRoom c s
same_room_back r = record { there = r.back; back = r.there }

number : Edited → ℕ
number (denied k) = 1
number (stored t) = 0

keeps_room : (s c : Store) → SameRoom s c → (n : List ℕ) → lawful_name n ≡ true → Put s n → insertion c n ≡ denied 15 → ⊥
unfolding number
keeps_room s c r n l w e = let z : ◌≡◌ {A = ℕ} 0 1 = ap number (sym w.made ∙ r.back n e) in omega (arith, z)

-- What W6 adds: the reply to every command, an edit too, and the rows that it leaves hang on the rows and on the room alone.
pub record Decided (reader : ℕ) (s c : Store) (spaces l buffer : List ℕ) : Type 0 where
  pub reply : (commanded reader c spaces l buffer).reply ≡ (commanded reader s spaces l buffer).reply
  pub rows : store_rows (commanded reader c spaces l buffer).store ≡ store_rows (commanded reader s spaces l buffer).store

pub rows_decide : (reader : ℕ) (s c : Store) → passes (store_table s) ≡ true → passes (store_table c) ≡ true → store_rows c ≡ store_rows s
    → store_seen reader c ≡ store_seen reader s → SameRoom s c → (spaces l buffer : List ℕ) → Decided reader s c spaces l buffer
rows_decide reader s c h g same seen r spaces l buffer =
    go (command_ended s c h g same (keeps_room s c r) reader seen spaces l buffer)
    (command_ended c s g h (sym same) (keeps_room c s (same_room_back r)) reader (sym seen) spaces l buffer)
  where
    left : {k : ℕ} (v : Store) → (commanded reader v spaces l buffer).reply ≡ refusal k →
        store_rows (commanded reader v spaces l buffer).store ≡ store_rows v
    left {k} v e = ap store_rows (refused_leaves reader v spaces l buffer k e)

    go : Ended (parsed l) (length buffer) (answer (store_seen reader s) spaces l) (commanded reader s spaces l buffer)
        (commanded reader c spaces l buffer)
        → Ended (parsed l) (length buffer) (answer (store_seen reader c) spaces l) (commanded reader c spaces l buffer)
        (commanded reader s spaces l buffer)
        → Decided reader s c spaces l buffer
    go (as_before e f) x = record { reply = e; rows = f }
    go (room_given i d e) (as_before e' f') = record { reply = sym e'; rows = sym f' }
    go (room_given i d e) (room_given j d' e') = record { reply = d' ∙ sym d; rows = left c d' ∙ same ∙ sym (left s d) }
