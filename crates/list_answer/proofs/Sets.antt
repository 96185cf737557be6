-- Members put together one by one make the set of them all.
use Rattle.listing_rules.proofs.Prelude.{◌∙◌, ◌≡◌, ap, refl, sym, Bool, false, true, List, [], ◌++◌, ◌∷◌, append_assoc, append-nil, ◌*◌, ◌^◌}
use Rattle.listing_rules.proofs.Prelude.{suc, ℕ, pow-suc, arith, length, length-append}
use lib.Bits.{or_shifted_r}
use Rattle.listing_rules.specs.Listing.{in_order}
use Rattle.listing_rules.specs.Lsub.{lsub_attributes}
use Rattle.list_line.specs.Members.{set_of}
use Rattle.list_line.proofs.Members.{set_of_below, set_of_in, set_of_out}
use Rattle.list_answer.specs.Sets.{with_member, adds}
use Rattle.list_answer.specs.Attributes.{own_attributes, use_attributes}

-- one member more, above all others
set_member : (bs : List Bool) (b : Bool) → with_member (set_of bs) b (2 ^ length bs) ≡ set_of (bs ++ (b ∷ []))
set_member bs true =
    let once : 1 * 2 ^ length bs ≡ 2 ^ length bs = omega arith in
    rw once at (or_shifted_r 1 (length bs) (set_of bs) (set_of_below bs)) ∙ omega (arith, set_of_in bs)
set_member bs false = sym (set_of_out bs)

next_member : (bs : List Bool) (b : Bool) → 2 * 2 ^ length bs ≡ 2 ^ length (bs ++ (b ∷ []))
next_member bs b = let w : length (bs ++ (b ∷ [])) ≡ suc (length bs) = omega (arith, length-append bs (b ∷ [])) in rw w (omega (arith, pow-suc 2 (length bs)))

-- members after those of a set
set_adds : (bs cs : List Bool) → adds (set_of bs) (2 ^ length bs) cs ≡ set_of (bs ++ cs)
unfolding adds
set_adds bs [] = ap set_of (sym (append-nil bs))
set_adds bs (c ∷ cs) =
    ap (λ (s : ℕ). adds s (2 * 2 ^ length bs) cs) (set_member bs c)
    ∙ ap (λ (m : ℕ). adds (set_of (bs ++ (c ∷ []))) m cs) (next_member bs c)
    ∙ set_adds (bs ++ (c ∷ [])) cs
    ∙ ap set_of (append_assoc bs (c ∷ []) cs)

-- all members, from the empty set on
pub adds_all : (bs : List Bool) → adds 0 1 bs ≡ set_of bs
unfolding set_of
adds_all bs = set_adds [] bs

-- one step of the code: a member more of a set that is known
pub more : (m : ℕ) {r s t : ℕ} {b c : Bool} → s ≡ t → b ≡ c → r ≡ with_member s b m → r ≡ with_member t c m
more m e f g = g ∙ (λ i. with_member (e i) (f i) m)

-- the set of an LSUB line's attributes: \Noselect or none
pub noselect_alone : (b : Bool) → with_member 0 b 4 ≡ set_of (lsub_attributes b)
unfolding set_of lsub_attributes in_order
noselect_alone true = refl
noselect_alone false = refl

-- the sixteen attributes in three groups
pub sixteen_adds : (f : ℕ) (s u c d : Bool) → adds (adds (adds 0 1 (own_attributes f s)) 128 (use_attributes f u)) 16384 (c ∷ d ∷ []) ≡ set_of (own_attributes f s ++ (use_attributes f u ++ (c ∷ d ∷ [])))
unfolding own_attributes use_attributes in_order
sixteen_adds f s u c d =
    ap (λ (x : ℕ). adds (adds x 128 (use_attributes f u)) 16384 (c ∷ d ∷ [])) (adds_all (own_attributes f s))
    ∙ ap (λ (x : ℕ). adds x 16384 (c ∷ d ∷ [])) (set_adds (own_attributes f s) (use_attributes f u))
    ∙ set_adds (own_attributes f s ++ use_attributes f u) (c ∷ d ∷ [])
