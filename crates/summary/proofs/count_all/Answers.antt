-- `summary::count_all` meets its contract: the first i numbers are what counting afresh gives. By AgreeLaws.
use Rattle.listing_rules.proofs.Prelude.{◌∙◌, ◌≡◌, ap, sym, ◌+◌, ℕ, List, add-one, length-set, arith, get_or}
use Rattle.listing_rules.proofs.Prelude.{paste, paste-suc, set}
use Rattle.summary.specs.Counts.{fresh_words}
use Rattle.summary.proofs.AgreeLaws.{fresh_at, fresh_length}
use Rattle.summary.proofs.count_all.Goals as goal

pub loop-i-preserved : goal.loop-i-preserved
loop-i-preserved c =
    let a = c.args in
    let i = c.loop-i.i in
    let fresh = fresh_words a.rows.area.now a.rows.words.now in
    let zero_first : 0 + i ≡ i = omega arith in (
      ap (λ (x : ℕ). set c.loop-i.sums i x) (c.count_below.ensures ∙ sym
          (fresh_at a.rows.area.now a.rows.words.now i c.loop-i-test.true))
          ∙ ap (λ (l : List ℕ). set l i (get_or fresh i 0)) c.loop-i.invariant.0
          ∙ ap (λ (k : ℕ). set (paste a.sums.now 0 fresh i) k (get_or fresh i 0)) (sym zero_first)
          ∙ paste-suc a.sums.now 0 fresh i 0 (omega (arith, c.loop-i-test.true, c.requires))
          (omega (arith, c.loop-i-test.true, fresh_length a.rows.area.now a.rows.words.now))
          ∙ ap (λ (k : ℕ). paste a.sums.now 0 fresh k) (sym (add-one i)),
      omega (arith, c.loop-i-test.true),
      length-set c.loop-i.sums i c.count_below.result ∙ c.loop-i.invariant.2,
    )
