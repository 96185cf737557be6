-- Patterns that count, one by one over a packed run. Rests on Packed and Folded.
use Rattle.listing_rules.proofs.Prelude.{◌∙◌, ◌≡◌, ap, refl, sym, Bool, ◌&&◌, ◌||◌, cond, false, false≢true, not, true, List, [], ◌∷◌, ◌+◌, ◌-◌, ◌<◌}
use Rattle.listing_rules.proofs.Prelude.{◌≤◌, min, suc, ℕ, arith, eqb, drop, drop_of_length-le, get_or, length, take, eqb-false, eqb-true, ne_eqb}
use Rattle.std.specs.List.{ends_with}
use Rattle.listing_rules.specs.Bytes.{same}
use Rattle.listing_rules.specs.Names.{inbox}
use Rattle.listing_rules.specs.Lists.{any_of, keep}
use Rattle.listing_rules.specs.Match.{wild_match, matches, matches_any}
use Rattle.listing_rules.specs.Listing.{ends_in_percent}
use Rattle.pattern.specs.Folded.{folded}
use Rattle.pattern.specs.Packed.{unpacked}
use Rattle.pattern.specs.Chosen.{chosen}
use Rattle.pattern.proofs.Folded.{matches_folded}
use Rattle.pattern.proofs.Packed.{unpacked_next, unpacked_none}

-- the last byte decides
percent_alone : (c : ℕ) → (eqb 37 c && true) ≡ eqb c 37
percent_alone c = go (eqb c 37) refl
  where
    go : (o : Bool) → eqb c 37 ≡ o → (eqb 37 c && true) ≡ o
    go true e = rw (eqb-true c 37 e)
    go false e = rw (ne_eqb 37 c (λ f. eqb-false c 37 e (sym f)))

-- as the library compares the end
pub percent_ends : (p : List ℕ) → ends_with eqb p (37 ∷ []) ≡ ends_in_percent p
unfolding ends_in_percent
percent_ends [] = refl
percent_ends (c ∷ []) = percent_alone c
percent_ends (c ∷ d ∷ t) =
    let w : length (c ∷ d ∷ t) - 1 ≡ suc (length t) = omega arith in
    let v : length (d ∷ t) - 1 ≡ length t = omega arith in
    rw w (rw v at (percent_ends (d ∷ t)))

-- without levels all patterns count, with them those that end in "%"
pub chosen_all : (ps : List (List ℕ)) → chosen false ps ≡ ps
unfolding chosen
chosen_all ps = refl

pub chosen_levels : (ps : List (List ℕ)) → chosen true ps ≡ keep ends_in_percent ps
unfolding chosen
chosen_levels ps = refl

-- a pattern that does not count matches nothing, one that counts matches by its bytes
pub chosen_out : (levels b e w : Bool) → b ≡ e → (levels && not b) ≡ true → false ≡ ((not levels || e) && w)
chosen_out true true e w f h = absurd (false≢true h)
chosen_out true false e w f h = rw (← f)
chosen_out false b e w f h = absurd (false≢true h)

pub chosen_in : (levels b e w : Bool) → b ≡ e → (levels && not b) ≡ false → w ≡ ((not levels || e) && w)
chosen_in true true e w f h = rw (← f)
chosen_in true false e w f h = absurd (false≢true (sym h))
chosen_in false b e w f h = refl

-- a match is one of the first pattern, if that counts, or of one after it
chosen_step : (levels : Bool) (p : List ℕ) (ps : List (List ℕ)) (n : List ℕ)
    → matches_any (chosen levels (p ∷ ps)) n ≡ (((not levels || ends_in_percent p) && matches p n) || matches_any (chosen levels ps) n)
unfolding matches_any any_of chosen keep
chosen_step false p ps n = refl
chosen_step true p ps n = go (ends_in_percent p)
  where
    rest : List (List ℕ)
    rest = keep ends_in_percent ps

    go : (b : Bool) → any_of (λ q. matches q n) (cond b (p ∷ rest) rest) ≡ ((b && matches p n) || any_of (λ q. matches q n) rest)
    go true = refl
    go false = refl

-- the pattern at a place of the run decides, or those after it
module _ (l : List ℕ) (at e : ℕ) (h : at < length l) (q : e ≡ min (at + 1 + get_or l at 0) (length l)) where
  abbrev item : List ℕ
  item = take (e - (at + 1)) (drop (at + 1) l)

  module _ (levels : Bool) (name : List ℕ) (fold : Bool) (i : fold ≡ same name inbox) (b : Bool) (f : b ≡ ((not levels || ends_in_percent item) && wild_match (folded fold item) name)) where
    abbrev later : Bool
    later = matches_any (chosen levels (unpacked (drop e l))) name

    match_next : matches_any (chosen levels (unpacked (drop at l))) name ≡ (b || later)
    match_next =
        ap (λ (ps : List (List ℕ)). matches_any (chosen levels ps) name) (unpacked_next l at e h q)
        ∙ chosen_step levels item (unpacked (drop e l)) name
        ∙ ap (λ (x : Bool). x || later) (sym (f ∙ ap (λ (m : Bool). (not levels || ends_in_percent item) && m) (matches_folded fold item name i)))

    pub match_here : b ≡ true → matches_any (chosen levels (unpacked (drop at l))) name ≡ true
    match_here g = match_next ∙ ap (λ (x : Bool). x || later) g

    pub match_later : b ≡ false → matches_any (chosen levels (unpacked (drop at l))) name ≡ matches_any (chosen levels (unpacked (drop e l))) name
    match_later g = match_next ∙ ap (λ (x : Bool). x || later) g

  module _ (b : Bool) (f : b ≡ ends_in_percent item) where
    percent_next : any_of ends_in_percent (unpacked (drop at l)) ≡ (b || any_of ends_in_percent (unpacked (drop e l)))
    unfolding any_of
    percent_next =
        ap (any_of ends_in_percent) (unpacked_next l at e h q) ∙ ap (λ (x : Bool). x || any_of ends_in_percent (unpacked (drop e l))) (sym f)

    pub percent_here : b ≡ true → any_of ends_in_percent (unpacked (drop at l)) ≡ true
    percent_here g = percent_next ∙ ap (λ (x : Bool). x || any_of ends_in_percent (unpacked (drop e l))) g

    pub percent_later : b ≡ false → any_of ends_in_percent (unpacked (drop at l)) ≡ any_of ends_in_percent (unpacked (drop e l))
    percent_later g = percent_next ∙ ap (λ (x : Bool). x || any_of ends_in_percent (unpacked (drop e l))) g

-- after the last there is none
module _ (l : List ℕ) (at : ℕ) (h : length l ≤ at) where
  pub match_end : (levels : Bool) (name : List ℕ) → matches_any (chosen levels (unpacked (drop at l))) name ≡ false
  unfolding matches_any any_of chosen keep
  match_end true name = rw (drop_of_length-le l h, unpacked_none)
  match_end false name = rw (drop_of_length-le l h, unpacked_none)

  pub percent_end : any_of ends_in_percent (unpacked (drop at l)) ≡ false
  unfolding any_of
  percent_end = rw (drop_of_length-le l h, unpacked_none)
