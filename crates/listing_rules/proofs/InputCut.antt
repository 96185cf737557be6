-- How the input is cut into pieces does not matter: the answers to two pieces, fed one after the other, are those to the whole. Rests on the library alone.
use Rattle.listing_rules.proofs.Prelude.{◌∙◌, ◌≡◌, ap, refl, sym, List, [], ◌++◌, ◌∷◌, append_assoc, ℕ}
use Rattle.listing_rules.specs.Frames.{Session, Fed, fed, behind, fed_all}

-- answers behind answers
behind_none : (f : Fed) → behind [] f ≡ f
unfolding behind
behind_none f = refl

behind_behind : (a b : List ℕ) (f : Fed) → behind a (behind b f) ≡ behind (a ++ b) f
unfolding behind
behind_behind a b f = ap (λ (o : List ℕ). record { session = f.session; output = o }) (sym (append_assoc a b f.output))

-- the pieces a and b, one after the other
pub fed_all_append : (s : Session) (a b : List ℕ) → fed_all s (a ++ b) ≡ behind (fed_all s a).output (fed_all (fed_all s a).session b)
unfolding fed_all behind
fed_all_append s [] b = sym (behind_none (fed_all s b))
fed_all_append s (c ∷ a) b =
    let f = fed s c in
    let g = fed_all f.session a in
    ap (behind f.output) (fed_all_append f.session a b) ∙ behind_behind f.output g.output (fed_all g.session b)
