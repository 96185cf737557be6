-- One command over words of which some are lent: what the server promises of those is what is promised of all. Rests on AnswerLaws of server.
use Rattle.listing_rules.proofs.Prelude.{◌∙◌, ◌≡◌, ap, sym, List, ◌++◌, map, ◌≤◌, min, ℕ, arith, drop, length, length-take-le, take, take-append-le}
use Rattle.listing_rules.proofs.Prelude.{take-take}
use Rattle.listing_rules.specs.Command.{parsed}
use Rattle.listing_rules.specs.Server.{buffer_after, changes}
use Rattle.listing_rules.specs.Summary.{Summed, summed_command}
use Rattle.records.specs.Words.{record_of}
use Rattle.records.specs.Numbers.{summary_of}
use Rattle.records.specs.Lent.{lent_of, word_store, word_summed}
use Rattle.records.specs.Stores.{Handed, word_command, Between}
use Rattle.server.specs.declared.Stored.{Stored}
use Rattle.server.specs.Answering.{memory, Answers}
use Rattle.server.proofs.AnswerLaws.{between_front}
use Rattle.exports.specs.Outcomes.{as_number, written_case, handed_outcome, done_case}
use Rattle.exports.proofs.OutcomeLaws.{written_case_lem}

module _ (ws : List ℕ) (lent count reader : ℕ) (area sums spaces l out : List ℕ) (n : ℕ) (n-is : n ≡ min lent (length ws)) where
  pub inside : n ≤ length ws
  inside = omega (arith, n-is)

  pub size : n ≡ length (take n ws)
  size = sym (length-take-le n ws inside)

  -- as many are lent
  pub lent_same : lent_of (take n ws) (length (take n ws)) sums ≡ lent_of ws lent sums
  lent_same = omega (arith, n-is, size)

  pub summed_same : word_summed (take n ws) (length (take n ws)) count area sums ≡ word_summed ws lent count area sums
  summed_same =
      (λ i. record { store = word_store (take n ws) (lent_same i) count area; summary = map summary_of (take (lent_same i) sums) })
      ∙ (λ i. record {
        store = record { records = map record_of (take-take (lent_of ws lent sums) n ws (omega (arith, n-is)) i); count = count; area = area };
        summary = map summary_of (take (lent_of ws lent sums) sums);
      })

  -- so what is handed back is the same
  abbrev D : Handed
  D = word_command ws lent count reader area sums spaces l out

  abbrev handed : Summed → ℕ → Handed
  handed m k =
      let c = summed_command reader m spaces l out in
      record {
        reply = c.reply;
        changed = changes m.store (parsed l) c.reply;
        count = c.left.store.count;
        area = c.left.store.area;
        records = c.left.store.records;
        summary = c.left.summary ++ drop k (map summary_of sums);
      }

  handed_same : word_command (take n ws) (length (take n ws)) count reader area sums spaces l out ≡ D
  handed_same = λ i. handed (summed_same i) (lent_same i)

  module _ (es ts us out' : List ℕ) (r : Stored)
      (x : Answers (memory (take n ws) sums area out) (memory es ts us out') count reader spaces l r) where
    number : min (length (take n ws)) (length sums) ≡ lent_of ws lent sums
    number = omega (arith, n-is, size)

    pub result : (done_case r).answer ≡ handed_outcome D
    unfolding done_case
    result =
        (λ i. written_case (x.written i) (as_number (x.changed i)) (x.count_is i))
        ∙ written_case_lem _ _ _
        ∙ ap handed_outcome handed_same

    pub bytes : out' ≡ buffer_after out D.reply
    bytes = x.bytes ∙ ap (λ (h : Handed). buffer_after out h.reply) handed_same

    pub area_is : us ≡ D.area
    area_is = x.area_is ∙ ap (λ (h : Handed). h.area) handed_same

    pub summary_is : map summary_of ts ≡ D.summary
    summary_is = x.summary ∙ ap (λ (h : Handed). h.summary) handed_same

    pub words_are : map record_of (take (lent_of ws lent sums) (es ++ drop n ws)) ≡ D.records
    words_are =
        ap (map record_of)
        (take-append-le (lent_of ws lent sums) es (drop n ws) (omega (arith, n-is, size, x.between.size))
        ∙ ap (λ (k : ℕ). take k es) (sym number))
        ∙ x.records
        ∙ ap (λ (h : Handed). h.records) handed_same

    pub moved : Between ws (es ++ drop n ws) (lent_of ws lent sums) r.from r.to
    moved =
        between_front ws es n (min (length (take n ws)) (length sums)) (lent_of ws lent sums) r.from r.to inside (omega (arith, number))
        x.between
