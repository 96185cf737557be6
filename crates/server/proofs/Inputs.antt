-- The patterns of a command that lists, as they lie in the server's buffer. Rests on what command_patterns promises of them and on the match's packed form.
use Rattle.listing_rules.proofs.Prelude.{◌∙◌, ◌≡◌, ap, sym, List, ◌≤◌, ℕ, arith, drop, length, take, length-take-le, sets, take-append_seam, le-leb}
use Rattle.listing_rules.specs.Server.{answered, lsub_answer}
use Rattle.listing_rules.specs.Walk.{packed}
use Rattle.octets.specs.Put.{Put}
use Rattle.octets.proofs.Puts.{put_length, front}
use Rattle.command_line.specs.Commands.{packed_bytes, Few}
use Rattle.command_line.proofs.Packed.{packed_short, packed_few}
use Rattle.mailbox_table.specs.Index.{rows_at}
use Rattle.list_answer.specs.Shown.{lsub_reply}
use Rattle.pattern.specs.Packed.{unpacked}
use Rattle.pattern.proofs.Packed.{unpacked_packed}

-- The patterns as they lie in a buffer of 2,048 bytes
pub record Lying (ps : List (List ℕ)) (e : List ℕ) (r : ℕ) : Type 0 where
  pub within : r ≤ length e
  pub size : r ≡ length (take r e)
  pub patterns : unpacked (take r e) ≡ ps

pub lying : (d e : List ℕ) (ps : List (List ℕ)) (r : ℕ) → Put d e 0 (packed_bytes ps) r → length d ≡ 2048 → Few ps → Lying ps e r
lying d e ps r p h few =
    record {
      within = omega (arith, p.place, long, size, put_length p);
      size = sym (length-take-le r e (omega (arith, p.place, long, size, put_length p)));
      patterns =
          ap unpacked (ap (λ (n : ℕ). take n e) whole ∙ ap (take (length (packed ps)))
          (p.bytes ∙ ap (λ (l : List ℕ). sets d 0 l) same ∙ front d (packed ps) (omega (arith, long))) ∙ take-append_seam (packed ps)
          (drop (length (packed ps)) d)) ∙ unpacked_packed ps;
    }
  where
    same : packed_bytes ps ≡ packed ps
    same = packed_short ps few.brief

    size : length (packed_bytes ps) ≡ length (packed ps)
    size = ap length same

    long : length (packed ps) ≤ 2048
    long = omega (arith, packed_few ps few.brief, few.few)

    whole : r ≡ length (packed ps)
    whole = omega (arith, p.place, long, size)

-- one pattern of LSUB, or none, is answered
pub lsub_one : (area words patterns tag : List ℕ) (ps : List (List ℕ)) → unpacked patterns ≡ ps → length ps ≤ 1 →
    lsub_reply area words patterns tag ≡ answered (lsub_answer (rows_at area words) tag ps)
lsub_one area words patterns tag ps e h = rw (e, le-leb (length ps) 1 h)
