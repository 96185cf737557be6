-- What a caller has who indexed a table: the index of its rows, or, with room for every row that a table may have, that it does not pass. Rests on
-- the parts of check 1 in listing_rules.
use Rattle.std.specs.Prelude.{Option, Some, None, is_some}
use Rattle.listing_rules.proofs.Prelude.{◌∙◌, ◌≡◌, refl, subst, sym, Bool, ◌&&◌, false, false≢true, true, List, [], map, ◌≤◌, ℕ, arith, leb, length}
use Rattle.listing_rules.proofs.Prelude.{take, length-take-le, le-leb, leb-true}
use Rattle.listing_rules.specs.Table.{Table, rows, passes}
use Rattle.listing_rules.specs.Records.{Record}
use Rattle.records.specs.Words.{record_of}
use Rattle.listing_rules.proofs.Bools.{and_l, and_r, and_i}
use Rattle.listing_rules.proofs.Passes.{TableParts, passes_parts}
use Rattle.mailbox_table.specs.Index.{rows_at, linked_words, Lawful, Index, indexing_of, Found, Indexes}
use Rattle.mailbox_table.proofs.AnswerLaws.{rows_decided, fails_decided}

module _ {area : List ℕ} {t : Table} {records : List Record} {cells before after : List ℕ} {r : Option ℕ}
    (x : Indexes area t records cells before after r) where
  -- What a caller has who found n rows: the table passes, and the first n words are the index of its rows and mean its records; the words of these
  -- records decide every bit of them.
  pub record Held (n : ℕ) : Type 0 where
    pub table_passes : passes t ≡ true
    pub number : n ≡ length (rows t)
    pub inside : n ≤ length after
    pub size : n ≡ length (take n after)
    pub same : rows_at area (take n after) ≡ rows t
    pub index : Index area (take n after)
    pub told : map record_of (take n after) ≡ records
    pub linked : take n after ≡ linked_words area [] cells

  pub index_held : (n : ℕ) → r ≡ Some n → Held n
  unfolding indexing_of
  index_held n e =
      record {
        table_passes = passing;
        number = found.0;
        inside = fits;
        size = sym (length-take-le n after fits);
        same = found.1;
        index = record {
          indexed = found.2;
          few = omega (arith, length-take-le n after fits, found.0, parts.few);
          lawful = subst Lawful (sym found.1) parts.lawful_names;
        };
        told = found.3;
        linked = found.4;
      }
    where
      found : Found area (rows t) records cells after (Some n)
      found = subst (Found area (rows t) records cells after) e x.found

      roomy : (passes t && leb (length (rows t)) (length before)) ≡ true
      roomy = (rows_decided (passes t && leb (length (rows t)) (length before)) (length (rows t)) n (sym e ∙ x.answer)).0

      passing : passes t ≡ true
      passing = and_l (passes t) (leb (length (rows t)) (length before)) roomy

      parts : TableParts (rows t)
      parts = passes_parts t passing

      fits : n ≤ length after
      fits =
          omega
          (arith, found.0, x.room, leb-true (length (rows t)) (length before) (and_r (passes t) (leb (length (rows t)) (length before)) roomy))

  -- with room for every row that a table may have, the index fails exactly if the table does not pass
  pub index_refused : length before ≡ 512 → r ≡ None → passes t ≡ false
  unfolding indexing_of
  index_refused h e = go (passes t) refl
    where
      failed : (passes t && leb (length (rows t)) (length before)) ≡ false
      failed = fails_decided (passes t && leb (length (rows t)) (length before)) (length (rows t)) (sym e ∙ x.answer)

      go : (o : Bool) → passes t ≡ o → o ≡ false
      go false p = refl
      go true p =
          let few = (passes_parts t p).few in
          absurd (false≢true (sym failed ∙ and_i (passes t) (leb (length (rows t)) (length before)) p
          (le-leb (length (rows t)) (length before) (omega (arith, h)))))

  pub index_passes : length before ≡ 512 → is_some r ≡ passes t
  index_passes h = go r refl
    where
      go : (o : Option ℕ) → r ≡ o → is_some o ≡ passes t
      go (Some n) e = sym (index_held n e).table_passes
      go None e = sym (index_refused h e)
