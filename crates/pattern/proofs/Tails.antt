-- Tails of a name that match a rest of the pattern: what "*" and "%" take of a run of plain bytes. Rests on the definitions alone.
use Rattle.listing_rules.proofs.Prelude.{◌∙◌, ◌≡◌, ap, refl, sym, Bool, ◌&&◌, ◌||◌, cond, false, false≢true, not, or_assoc, or-false, or_self, true}
use Rattle.listing_rules.proofs.Prelude.{⊎_elim, List, [], ◌++◌, ◌∷◌, ℕ, eqb, eq-eqb, eqb-true}
use Rattle.listing_rules.specs.Bytes.{slash, is_empty}
use Rattle.listing_rules.specs.Match.{any_tail, any_tail_in_level, head_then, wild_match}
use Rattle.listing_rules.proofs.Bools.{and_l, and_r, or_cases, or_l, or_r, or_none_l, or_none_r, bools_equal}
use Rattle.pattern.specs.Folded.{is_wildcard}
use Rattle.pattern.specs.Steps.{last_byte, apart}

-- ---- plain bytes

-- neither a wildcard nor a slash
pub record PlainByte (c : ℕ) : Type 0 where
  pub tame : is_wildcard c ≡ false
  pub within : eqb c slash ≡ false

abbrev pub Plainly : List ℕ → Type 0
Plainly [] = Unit {0}
Plainly (c ∷ q) = PlainByte c × Plainly q

pub plainly_more : (q : List ℕ) (c : ℕ) → Plainly q → PlainByte c → Plainly (q ++ (c ∷ []))
plainly_more [] c h p = (p, tt)
plainly_more (b ∷ q) c h p = (h.0, plainly_more q c h.1 p)

-- ---- one byte of the pattern

-- a byte that stands for itself
pub byte_match : (c : ℕ) (ps n : List ℕ) → is_wildcard c ≡ false → wild_match (c ∷ ps) n ≡ head_then c (wild_match ps) n
unfolding wild_match
byte_match c ps n w = rw (or_none_l (eqb c 42) (eqb c 37) w, or_none_r (eqb c 42) (eqb c 37) w)

byte_is_lem : (c : ℕ) (ps : List ℕ) → is_wildcard c ≡ false → wild_match (c ∷ ps) ≡ head_then c (wild_match ps)
byte_is_lem c ps w = λ i n. byte_match c ps n w i

pub star_is_lem : (ps n : List ℕ) → wild_match (42 ∷ ps) n ≡ any_tail (wild_match ps) n
unfolding wild_match
star_is_lem ps n = refl

pub level_is_lem : (ps n : List ℕ) → wild_match (37 ∷ ps) n ≡ any_tail_in_level (wild_match ps) n
unfolding wild_match
level_is_lem ps n = refl

pub byte_same : (c : ℕ) (ps n : List ℕ) → is_wildcard c ≡ false → wild_match (c ∷ ps) (c ∷ n) ≡ wild_match ps n
unfolding head_then
byte_same c ps n w = byte_match c ps (c ∷ n) w ∙ rw (eq-eqb c c refl)

pub byte_other : (c d : ℕ) (ps n : List ℕ) → is_wildcard c ≡ false → eqb c d ≡ false → wild_match (c ∷ ps) (d ∷ n) ≡ false
unfolding head_then
byte_other c d ps n w e = byte_match c ps (d ∷ n) w ∙ rw e

pub byte_none : (c : ℕ) (ps : List ℕ) → is_wildcard c ≡ false → wild_match (c ∷ ps) [] ≡ false
unfolding head_then
byte_none c ps w = byte_match c ps [] w

-- ---- tails

-- the tails after the first slash
unfoldable pub after_slash : (List ℕ → Bool) → List ℕ → Bool
after_slash f [] = false
after_slash f (c ∷ n) =
    let all = any_tail f n in
    let later = after_slash f n in
    cond (eqb c slash) all later

-- a tail lies in the level, or after its slash
pub any_level : (f : List ℕ → Bool) (n : List ℕ) → any_tail f n ≡ (any_tail_in_level f n || after_slash f n)
unfolding any_tail any_tail_in_level after_slash
any_level f [] = sym (or-false (f []))
any_level f (c ∷ n) = go (eqb c slash) (any_level f n)
  where
    go : (s : Bool) → any_tail f n ≡ (any_tail_in_level f n || after_slash f n)
        → (f (c ∷ n) || any_tail f n) ≡ ((f (c ∷ n) || (not s && any_tail_in_level f n)) || cond s (any_tail f n) (after_slash f n))
    go true e = rw (or-false (f (c ∷ n)))
    go false e = rw (or_assoc (f (c ∷ n)) (any_tail_in_level f n) (after_slash f n)) (ap (λ (b : Bool). f (c ∷ n) || b) e)

pub here_any : (f : List ℕ → Bool) (n : List ℕ) → f n ≡ true → any_tail f n ≡ true
unfolding any_tail
here_any f [] e = e
here_any f (c ∷ n) e = or_l (f (c ∷ n)) (any_tail f n) e

pub here_level : (f : List ℕ → Bool) (n : List ℕ) → f n ≡ true → any_tail_in_level f n ≡ true
unfolding any_tail_in_level
here_level f [] e = e
here_level f (c ∷ n) e = or_l (f (c ∷ n)) (not (eqb c slash) && any_tail_in_level f n) e

pub level_any : (f : List ℕ → Bool) (n : List ℕ) → any_tail_in_level f n ≡ true → any_tail f n ≡ true
level_any f n e = any_level f n ∙ or_l (any_tail_in_level f n) (after_slash f n) e

-- one byte on: past a slash, or not
pub after_slash_lem : (f : List ℕ → Bool) (c : ℕ) (n : List ℕ) → eqb c slash ≡ true → after_slash f (c ∷ n) ≡ any_tail f n
unfolding after_slash
after_slash_lem f c n e = rw e

pub after_byte : (f : List ℕ → Bool) (c : ℕ) (n : List ℕ) → eqb c slash ≡ false → after_slash f (c ∷ n) ≡ after_slash f n
unfolding after_slash
after_byte f c n e = rw e

pub any_next : (f : List ℕ → Bool) (c : ℕ) (n : List ℕ) → f (c ∷ n) ≡ false → any_tail f (c ∷ n) ≡ any_tail f n
unfolding any_tail
any_next f c n e = rw e

pub level_next : (f : List ℕ → Bool) (c : ℕ) (n : List ℕ) → f (c ∷ n) ≡ false → eqb c slash ≡ false → any_tail_in_level f (c ∷ n) ≡ any_tail_in_level f n
unfolding any_tail_in_level
level_next f c n e s = rw (e, s)

pub level_end : (f : List ℕ → Bool) (c : ℕ) (n : List ℕ) → eqb c slash ≡ true → any_tail_in_level f (c ∷ n) ≡ f (c ∷ n)
unfolding any_tail_in_level
level_end f c n s = rw s (or-false (f (c ∷ n)))

-- ---- wildcards one after the other

pub star_twice : (f : List ℕ → Bool) (n : List ℕ) → any_tail (any_tail f) n ≡ any_tail f n
unfolding any_tail
star_twice f [] = refl
star_twice f (c ∷ n) = rw (star_twice f n, or_assoc (f (c ∷ n)) (any_tail f n) (any_tail f n), or_self (any_tail f n))

pub level_twice : (f : List ℕ → Bool) (n : List ℕ) → any_tail_in_level (any_tail_in_level f) n ≡ any_tail_in_level f n
unfolding any_tail_in_level
level_twice f [] = refl
level_twice f (c ∷ n) =
    let later = not (eqb c slash) && any_tail_in_level f n in
    rw (level_twice f n, or_assoc (f (c ∷ n)) later later, or_self later)

pub star_level : (f : List ℕ → Bool) (n : List ℕ) → any_tail (any_tail_in_level f) n ≡ true → any_tail f n ≡ true
unfolding any_tail
star_level f [] e = level_any f [] e
star_level f (c ∷ n) e = ⊎_elim
    (λ h. level_any f (c ∷ n) h)
    (λ h. or_r (f (c ∷ n)) (any_tail f n) (star_level f n h))
    (or_cases (any_tail_in_level f (c ∷ n)) (any_tail (any_tail_in_level f) n) e)

-- ---- a run of bytes

-- where a byte and a rest match some tail, the rest matches a tail after the first byte
pub head_any : (c b : ℕ) (f : List ℕ → Bool) (n : List ℕ) → any_tail (head_then c f) (b ∷ n) ≡ true → any_tail f n ≡ true
unfolding any_tail head_then
head_any c b f [] e = ⊎_elim (λ h. and_r (eqb c b) (f []) h) (λ h. absurd (false≢true h)) (or_cases (eqb c b && f []) false e)
head_any c b f (d ∷ n) e = ⊎_elim
    (λ h. or_l (f (d ∷ n)) (any_tail f n) (and_r (eqb c b) (f (d ∷ n)) h))
    (λ h. or_r (f (d ∷ n)) (any_tail f n) (head_any c d f n h))
    (or_cases (eqb c b && f (d ∷ n)) (any_tail (head_then c f) (d ∷ n)) e)

not-false : (s : Bool) → not s ≡ true → s ≡ false
not-false true e = sym e
not-false false e = refl

-- the same within a level; the byte is no slash, so the first byte of the level is none
head_within : (c d : ℕ) (f : List ℕ → Bool) (n : List ℕ) → eqb c slash ≡ false → any_tail_in_level (head_then c f) (d ∷ n) ≡ true → eqb d slash ≡ false
unfolding any_tail_in_level head_then
head_within c d f n w e = ⊎_elim
    (λ h. rw (← eqb-true c d (and_l (eqb c d) (f n) h)) w)
    (λ h. not-false (eqb d slash) (and_l (not (eqb d slash)) (any_tail_in_level (head_then c f) n) h))
    (or_cases (eqb c d && f n) (not (eqb d slash) && any_tail_in_level (head_then c f) n) e)

pub head_level : (c b : ℕ) (f : List ℕ → Bool) (n : List ℕ) → eqb c slash ≡ false → any_tail_in_level (head_then c f) (b ∷ n) ≡ true → any_tail_in_level f n ≡ true
unfolding any_tail_in_level head_then
head_level c b f [] w e =
    ⊎_elim (λ h. and_r (eqb c b) (f []) h) (λ h. absurd (false≢true (and_r (not (eqb b slash)) false h))) (or_cases (eqb c b && f []) (not (eqb b slash) && false) e)
head_level c b f (d ∷ n) w e = ⊎_elim
    (λ h. or_l (f (d ∷ n)) (not (eqb d slash) && any_tail_in_level f n) (and_r (eqb c b) (f (d ∷ n)) h))
    (λ h.
    let k = and_r (not (eqb b slash)) (any_tail_in_level (head_then c f) (d ∷ n)) h in
    rw (head_within c d f n w k) (or_r (f (d ∷ n)) (any_tail_in_level f n) (head_level c d f n w k)))
    (or_cases (eqb c b && f (d ∷ n)) (not (eqb b slash) && any_tail_in_level (head_then c f) (d ∷ n)) e)

-- the run stands at the front of the name
pub run_match : (q ps m : List ℕ) → Plainly q → wild_match (q ++ ps) (q ++ m) ≡ wild_match ps m
run_match [] ps m h = refl
run_match (c ∷ q) ps m h = byte_same c (q ++ ps) (q ++ m) h.0.tame ∙ run_match q ps m h.1

pub run_any : (q ps m : List ℕ) → Plainly q → any_tail (wild_match (q ++ ps)) (q ++ m) ≡ true → any_tail (wild_match ps) m ≡ true
run_any [] ps m h e = e
run_any (c ∷ q) ps m h e =
    run_any q ps m h.1 (head_any c c (wild_match (q ++ ps)) (q ++ m) (rw (byte_is_lem c (q ++ ps) h.0.tame) at e))

pub run_level : (q ps m : List ℕ) → Plainly q → any_tail_in_level (wild_match (q ++ ps)) (q ++ m) ≡ true → any_tail_in_level (wild_match ps) m ≡ true
run_level [] ps m h e = e
run_level (c ∷ q) ps m h e =
    run_level q ps m h.1 (head_level c c (wild_match (q ++ ps)) (q ++ m) h.0.within (rw (byte_is_lem c (q ++ ps) h.0.tame) at e))

pub run_after : (f : List ℕ → Bool) (q m : List ℕ) → Plainly q → after_slash f (q ++ m) ≡ after_slash f m
run_after f [] m h = refl
run_after f (c ∷ q) m h = after_byte f c (q ++ m) h.0.within ∙ run_after f q m h.1

-- any byte that stands for itself, a slash too
pub byte_any : (c : ℕ) (ps n : List ℕ) → is_wildcard c ≡ false → any_tail (wild_match (c ∷ ps)) (c ∷ n) ≡ true → any_tail (wild_match ps) n ≡ true
byte_any c ps n w e = head_any c c (wild_match ps) n (rw (byte_is_lem c ps w) at e)

-- a last "*" matches all
pub star_all : (n : List ℕ) → any_tail (wild_match []) n ≡ true
unfolding any_tail wild_match is_empty
star_all [] = refl
star_all (c ∷ n) = star_all n

-- ---- the last byte

-- nothing that ends in the byte d passes, and neither does the empty name
record Shuns (d : ℕ) (f : List ℕ → Bool) : Type 0 where
  none : f [] ≡ false
  ended : (b : ℕ) (n : List ℕ) → last_byte b n ≡ d → f (b ∷ n) ≡ false

any_shuns : (d : ℕ) (f : List ℕ → Bool) → Shuns d f → Shuns d (any_tail f)
unfolding any_tail last_byte
any_shuns d f s = record { none = s.none; ended = go }
  where
    go : (b : ℕ) (n : List ℕ) → last_byte b n ≡ d → (f (b ∷ n) || any_tail f n) ≡ false
    go b [] e = rw (s.ended b [] e, s.none)
    go b (c ∷ n) e = rw (s.ended b (c ∷ n) e) (go c n e)

level_shuns : (d : ℕ) (f : List ℕ → Bool) → Shuns d f → Shuns d (any_tail_in_level f)
level_shuns d f s = let r = any_shuns d f s in record { none = go [] r.none; ended = λ b n e. go (b ∷ n) (r.ended b n e) }
  where
    go : (n : List ℕ) → any_tail f n ≡ false → any_tail_in_level f n ≡ false
    go n e = bools_equal (any_tail_in_level f n) false (λ h. sym e ∙ level_any f n h) (λ h. absurd (false≢true h))

and-false : (b : Bool) → (b && false) ≡ false
and-false true = refl
and-false false = refl

head_shuns : (d c : ℕ) (f : List ℕ → Bool) → Shuns d f → Shuns d (head_then c f)
unfolding head_then last_byte
head_shuns d c f s = record { none = refl; ended = go }
  where
    go : (b : ℕ) (n : List ℕ) → last_byte b n ≡ d → (eqb c b && f n) ≡ false
    go b [] e = rw s.none (and-false (eqb c b))
    go b (h ∷ n) e = rw (s.ended h n e) (and-false (eqb c b))

-- a last byte other than d
other_shuns : (d c : ℕ) → eqb c d ≡ false → Shuns d (head_then c (wild_match []))
unfolding head_then wild_match is_empty last_byte
other_shuns d c w = record { none = refl; ended = go }
  where
    go : (b : ℕ) (n : List ℕ) → last_byte b n ≡ d → (eqb c b && is_empty n) ≡ false
    go b [] e = rw (e, w)
    go b (h ∷ n) e = and-false (eqb c b)

last_shuns : (d c : ℕ) (ps : List ℕ) → is_wildcard (last_byte c ps) ≡ false → eqb (last_byte c ps) d ≡ false → Shuns d (wild_match (c ∷ ps))
unfolding last_byte wild_match
last_shuns d c [] w e = rw (byte_is_lem c [] w) (other_shuns d c e)
last_shuns d c (b ∷ ps) w e = let r = go (wild_match (b ∷ ps)) (last_shuns d b ps w e) (eqb c 42) (eqb c 37) in record { none = r.none; ended = r.ended }
  where
    go : (f : List ℕ → Bool) → Shuns d f → (u v : Bool) → Shuns d (λ n. cond u (any_tail f n) (cond v (any_tail_in_level f n) (head_then c f n)))
    go f s true v = any_shuns d f s
    go f s false true = level_shuns d f s
    go f s false false = head_shuns d c f s

-- the last bytes are apart
pub last_misses : (c : ℕ) (ps : List ℕ) (d : ℕ) (m : List ℕ) → apart (last_byte c ps) (last_byte d m) ≡ true → wild_match (c ∷ ps) (d ∷ m) ≡ false
unfolding apart
last_misses c ps d m e =
    let other = not (eqb (last_byte c ps) (last_byte d m)) in
    let tame = not (is_wildcard (last_byte c ps)) in
    (last_shuns (last_byte d m) c ps (not-false (is_wildcard (last_byte c ps)) (and_r other tame e)) (not-false (eqb (last_byte c ps) (last_byte d m)) (and_l other tame e))).ended d m refl
