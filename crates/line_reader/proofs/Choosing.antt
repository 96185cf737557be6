-- The attributes of a line one by one: what is read, and what is left to read.
use Rattle.listing_rules.proofs.Prelude.{◌∙◌, ◌≡◌, ap, refl, sym, Bool, false, true, ◌%◌, none, some, List, [], ◌++◌, ◌∷◌, append_assoc, append-nil, ◌*◌}
use Rattle.listing_rules.proofs.Prelude.{◌+◌, ◌<◌, ◌^◌, ◌≤◌, ℕ, arith, drop, drop_of_length-le, length, length-append}
use Rattle.listing_rules.specs.Lines.{attribute_names}
use Rattle.listing_rules.specs.Tokens.{Got, got, after, with_first}
use Rattle.listing_rules.specs.LineReader.{separated, read_chosen}
use Rattle.list_line.specs.Members.{set_of}
use Rattle.list_line.specs.Names.{name_of}
use Rattle.list_line.proofs.Members.{one_bit, set_of_below, set_of_in, set_of_out}
use Rattle.list_line.proofs.Writing.{from, from_name_lem}
use Rattle.line_reader.specs.Parts.{Chooses}

-- what is read, behind what was read before
unfoldable pub following : List Bool → Got (List Bool) → Got (List Bool)
following bs g = got (bs ++ g.val) g.rest

following_one : (bs : List Bool) (b : Bool) (g : Got (List Bool)) → following bs (with_first b g) ≡ following (bs ++ (b ∷ [])) g
unfolding following with_first got
following_one bs b g = ap (λ (x : List Bool). got x g.rest) (sym (append_assoc bs (b ∷ []) g.val))

-- the next name stands here or not
module _ (k : ℕ) (first : Bool) (h : k < 16) (t : List ℕ) where
  chosen_in : (u : List ℕ) → after (separated first (name_of k)) t ≡ some u → read_chosen first (from k) t ≡ with_first true (read_chosen false (from (k + 1)) u)
  unfolding read_chosen
  chosen_in u e = rw (from_name_lem k h, e, read_chosen)

  chosen_out : after (separated first (name_of k)) t ≡ none → read_chosen first (from k) t ≡ with_first false (read_chosen first (from (k + 1)) t)
  unfolding read_chosen
  chosen_out e = rw (from_name_lem k h, e, read_chosen)

-- the names before name k are read
pub record Choosing (l : List ℕ) (start at bits : ℕ) (first : Bool) (k : ℕ) : Type 0 where
  pub turns : k ≤ 16
  pub acc : List Bool
  pub counted : length acc ≡ k
  pub set : bits ≡ set_of acc
  pub inside : at ≤ length l
  pub whole : read_chosen true attribute_names (drop start l) ≡ following acc (read_chosen first (from k) (drop at l))

pub choosing_none : (l : List ℕ) (start : ℕ) → start ≤ length l → Choosing l start start 0 true 0
unfolding set_of following got
choosing_none l start h = record { turns = omega arith; acc = []; counted = refl; set = refl; inside = h; whole = refl }

module _ {l : List ℕ} {start at bits : ℕ} {first : Bool} {k : ℕ} (s : Choosing l start at bits first k) where
  -- what the set is below
  pub choosing_bits : bits < 2 ^ k
  choosing_bits = rw s.set (rw s.counted at (set_of_below s.acc))

  pub choosing_in : (j : ℕ) → k < 16 → after (separated first (name_of k)) (drop at l) ≡ some (drop j l) → j ≤ length l → Choosing l start j (bits + 1 * 2 ^ k % 65536) false (k + 1)
  choosing_in j h e g =
      record {
        turns = omega arith;
        acc = s.acc ++ (true ∷ []);
        counted = omega (arith, length-append s.acc (true ∷ []), s.counted);
        set = rw ((one_bit k h).0, set_of_in s.acc, s.set, s.counted);
        inside = g;
        whole = s.whole ∙ rw (chosen_in k first h (drop at l) (drop j l) e) (following_one s.acc true _);
      }

  pub choosing_out : k < 16 → after (separated first (name_of k)) (drop at l) ≡ none → Choosing l start at bits first (k + 1)
  choosing_out h e =
      record {
        turns = omega arith;
        acc = s.acc ++ (false ∷ []);
        counted = omega (arith, length-append s.acc (false ∷ []), s.counted);
        set = rw (set_of_out s.acc) s.set;
        inside = s.inside;
        whole = s.whole ∙ rw (chosen_out k first h (drop at l) e) (following_one s.acc false _);
      }

  all_read : 16 ≤ k → read_chosen true attribute_names (drop start l) ≡ got s.acc (drop at l)
  unfolding read_chosen following got attribute_names
  all_read h = s.whole ∙ rw (drop_of_length-le attribute_names h, append-nil)

  pub choosing_all : 16 ≤ k → Chooses l start (record { bits = bits; at = at })
  unfolding got
  choosing_all h = record { chosen = rw (all_read h) s.set; rest = rw (all_read h); inside = s.inside }
