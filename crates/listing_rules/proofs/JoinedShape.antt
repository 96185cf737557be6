-- The line of a joined command has the shape of a line (check 3): it is one command, with literals too, and all before its last CR LF is read.
-- Rests on FeederLaws, TokenLaws and AnswerLines.
use Rattle.listing_rules.proofs.Prelude.{◌∙◌, ◌≡◌, ap, refl, subst, sym, Bool, ◌&&◌, ◌||◌, cond, false, not, true, and-false, none, some, ◌⊎◌}
use Rattle.listing_rules.proofs.Prelude.{⊎_elim, List, [], ◌++◌, ◌∷◌, append_assoc, append-nil, map, ℕ, suc, ◌+◌, ◌-◌, ◌*◌, ◌/◌, ◌%◌, ◌≤◌, ◌<◌}
use Rattle.listing_rules.proofs.Prelude.{arith, eqb, leb, length, length-append, take, take-append_seam, eqb-true, le-leb, leb-true, leb-false}
use Rattle.listing_rules.proofs.Prelude.{ne_eqb, not-true, div-div-eq-div-mul}
use Rattle.listing_rules.specs.Bytes.{text, crlf, same, all, one_of, within, is_empty}
use Rattle.listing_rules.specs.Lists.{every}
use Rattle.listing_rules.specs.Tokens.{Got, got, ◌>>=◌, with_first, run, run₁, unless_empty, atom_byte, tag_byte, digit_byte, decimal, number}
use Rattle.listing_rules.specs.Tokens.{line_byte}
use Rattle.listing_rules.specs.Feeder.{still_one, gives, offends, line_ended, awaiting, last_is, announced_at, or_else, announced, reading}
use Rattle.listing_rules.specs.Feeder.{in_literal, first, fed_byte, allowed, one_command}
use Rattle.listing_rules.specs.Options.{Options}
use Rattle.listing_rules.specs.Command.{line_text}
use Rattle.listing_rules.specs.Lines.{chosen, spaced, spaced_tail, escaped, quoted}
use Rattle.listing_rules.specs.Walk.{when}
use Rattle.listing_rules.specs.Joining.{digit_of, decimal_text, string_text, can_stand, selection_text, returns_any, return_text, joined_text}
use Rattle.listing_rules.proofs.Keys.{open_bytes, open_lists}
use Rattle.listing_rules.proofs.Bools.{and_l, and_r, and_i, or_cases}
use Rattle.listing_rules.proofs.ListLaws.{all_append, all_imp}
use Rattle.listing_rules.proofs.TokenLaws.{run₁_ends, all_escaped}
use Rattle.listing_rules.proofs.AnswerLines.{every_chosen, all_spaced}
use Rattle.listing_rules.proofs.FeederLaws.{within_room, text_runs, crlf_ends, run_out, other_announces_none}

-- A number in decimal digits is read as that number.
digit_byte_lem : (d : ℕ) → digit_byte (48 + d % 10) ≡ true
unfolding digit_byte within
digit_byte_lem d = simp (le-leb 48 (48 + d % 10) (omega arith), le-leb (48 + d % 10) 57 (omega arith))

when_all : (p : ℕ → Bool) (b : Bool) (d : ℕ) (t : List ℕ) → p (48 + d % 10) ≡ true → all p t ≡ true → all p (when b (digit_of d) ++ t) ≡ true
unfolding when digit_of all
when_all p true d t e h = and_i (p (48 + d % 10)) (all p t) e h
when_all p false d t e h = h

digits_all : (p : ℕ → Bool) → ((d : ℕ) → p (48 + d % 10) ≡ true) → (n : ℕ) → all p (decimal_text n) ≡ true
unfolding decimal_text
digits_all p h n =
    when_all p (leb 1000 n) (n / 1000) _ (h (n / 1000)) (when_all p (leb 100 n) (n / 100) _ (h (n / 100))
    (when_all p (leb 10 n) (n / 10) _ (h (n / 10)) (one n)))
  where
    one : (d : ℕ) → all p (digit_of d) ≡ true
    one d = unfold digit_of all in and_i (p (48 + d % 10)) true (h d) refl

digits_some : (n : ℕ) → is_empty (decimal_text n) ≡ false
unfolding decimal_text digit_of is_empty when
digits_some n = go (leb 1000 n) (leb 100 n) (leb 10 n)
  where
    go : (a b c : Bool) → is_empty (when a (digit_of (n / 1000)) ++ (when b (digit_of (n / 100)) ++ (when c (digit_of (n / 10)) ++ digit_of n))) ≡ false
    go true b c = refl
    go false true c = refl
    go false false true = refl
    go false false false = refl

digits_value : (n : ℕ) → n < 10000 → decimal 0 (decimal_text n) ≡ n
unfolding decimal_text digit_of decimal when
digits_value n h = go (leb 1000 n) (leb 100 n) (leb 10 n) refl refl refl
  where
    less : (d : ℕ) → (48 + d) - 48 ≡ d
    less d = omega arith

    go : (a b c : Bool) → leb 1000 n ≡ a → leb 100 n ≡ b → leb 10 n ≡ c
        → decimal 0 (when a (digit_of (n / 1000)) ++ (when b (digit_of (n / 100)) ++ (when c (digit_of (n / 10)) ++ digit_of n))) ≡ n
    go true true true ea eb ec =
        let tens : n / 10 ≡ 10 * (n / 100) + n / 10 % 10 = omega (arith, div-div-eq-div-mul n 10 10) in
        let hundreds : n / 100 ≡ 10 * (n / 1000) + n / 100 % 10 = omega (arith, div-div-eq-div-mul n 100 10) in
        let thousands : n / 1000 % 10 ≡ n / 1000 = omega arith in
        omega (arith, less (n / 1000 % 10), less (n / 100 % 10), less (n / 10 % 10), less (n % 10))
    go true true false ea eb ec = absurd (omega (arith, leb-true 1000 n ea, leb-false 10 n ec))
    go true false c ea eb ec = absurd (omega (arith, leb-true 1000 n ea, leb-false 100 n eb))
    go false true true ea eb ec = omega (arith, leb-false 1000 n ea)
    go false true false ea eb ec = absurd (omega (arith, leb-true 100 n eb, leb-false 10 n ec))
    go false false true ea eb ec = omega (arith, leb-false 100 n eb)
    go false false false ea eb ec = omega (arith, leb-false 10 n ec)

pub number_reads : (n : ℕ) (t : List ℕ) → n < 10000 → number (decimal_text n ++ (125 ∷ t)) ≡ some (got n (125 ∷ t))
unfolding number ◌>>=◌
number_reads n t h =
    rw (run₁_ends digit_byte (decimal_text n) 125 t (digits_some n) (digits_all digit_byte digit_byte_lem n) (unfold digit_byte within in refl))
    (unfold got in ap (λ (k : ℕ). some (record { val = k; rest = 125 ∷ t })) (digits_value n h))

-- The header of a literal announces its number, whatever the line holds before it: where an earlier "{" stands, a "{" comes after it.
brace_differs : (u v : List ℕ) → same (run digit_byte (u ++ (123 ∷ v))).rest (125 ∷ 13 ∷ 10 ∷ []) ≡ false
unfolding run digit_byte got with_first open_bytes
brace_differs [] v = refl
brace_differs (b ∷ u) v = go (within 48 57 b) (brace_differs u v)
  where
    no_header : (b : ℕ) (u : List ℕ) → same (b ∷ (u ++ (123 ∷ v))) (125 ∷ 13 ∷ 10 ∷ []) ≡ false
    no_header b [] = simp and-false
    no_header b (c ∷ []) = simp and-false
    no_header b (c ∷ d ∷ []) = simp and-false
    no_header b (c ∷ d ∷ e ∷ u) = simp and-false

    go : (o : Bool) → same (run digit_byte (u ++ (123 ∷ v))).rest (125 ∷ 13 ∷ 10 ∷ []) ≡ false
        → same (cond o (with_first b (run digit_byte (u ++ (123 ∷ v)))) (got [] (b ∷ (u ++ (123 ∷ v))))).rest (125 ∷ 13 ∷ 10 ∷ []) ≡ false
    go true ih = ih
    go false ih = no_header b u

brace_announces_none : (u v : List ℕ) → announced_at (u ++ (123 ∷ v)) ≡ none
unfolding announced_at number run₁ unless_empty ◌>>=◌ got open_bytes
brace_announces_none u v = go (is_empty g.val)
  where
    g : Got (List ℕ)
    g = run digit_byte (u ++ (123 ∷ v))

    go : (o : Bool)
        → (cond o none (some g) >>= (λ h. some (got (decimal 0 h.val) h.rest))
        >>= λ n. cond (same n.rest (125 ∷ 13 ∷ 10 ∷ [])) (some n.val) none) ≡ none
    go true = refl
    go false = rw (brace_differs u v)

-- the header of a literal of n bytes
abbrev header : ℕ → List ℕ
header n = 123 ∷ (decimal_text n ++ (125 ∷ []))

header_announced : (n : ℕ) → n < 10000 → announced_at (decimal_text n ++ (125 ∷ crlf)) ≡ some n
unfolding announced_at ◌>>=◌ open_bytes
header_announced n h = rw (number_reads n (13 ∷ 10 ∷ []) h) (unfold got in refl)

brace_announces : (w : List ℕ) (n : ℕ) → announced_at w ≡ some n → (line : List ℕ) → announced (line ++ (123 ∷ w)) ≡ some n
unfolding announced or_else
brace_announces w n e [] = rw e
brace_announces w n e (b ∷ line) = go (eqb b 123) (brace_announces w n e line)
  where
    go : (o : Bool) → announced (line ++ (123 ∷ w)) ≡ some n
        → cond o (or_else (announced_at (line ++ (123 ∷ w))) (announced (line ++ (123 ∷ w)))) (announced (line ++ (123 ∷ w))) ≡ some n
    go false ih = ih
    go true ih = rw (brace_announces_none line w, ih)

header_announces : (line : List ℕ) (n : ℕ) → n < 10000 → announced ((line ++ header n) ++ crlf) ≡ some n
header_announces line n h =
    ap announced (append_assoc line (header n) crlf ∙ ap (λ (l : List ℕ). line ++ (123 ∷ l)) (append_assoc (decimal_text n) (125 ∷ []) crlf))
    ∙ brace_announces (decimal_text n ++ (125 ∷ crlf)) n (header_announced n h) line

-- What carries the feeder on within a command: text of a line, and literals.
abbrev Carries : List ℕ → Type 0
Carries u =
    (kept line t : List ℕ) → last_is 13 line ≡ false → length kept + length u ≤ 2048
    → (line' : List ℕ) × (last_is 13 line' ≡ false) × (one_command (reading kept line) (u ++ t) ≡ one_command (reading (kept ++ u) line') t)

carries_append : (u v : List ℕ) → Carries u → Carries v → Carries (u ++ v)
carries_append u v cu cv kept line t n s =
    let a = cu kept line (v ++ t) n (omega (arith, length-append u v)) in
    let b = cv (kept ++ u) a.0 t a.1 (omega (arith, length-append u v, length-append kept u)) in
    let on = ap (one_command (reading kept line)) (append_assoc u v t) ∙ a.2 ∙ b.2 in
    (b.0, b.1, on ∙ ap (λ (k : List ℕ). one_command (reading k b.0) t) (append_assoc kept u v))

text_carries : (u : List ℕ) → all line_byte u ≡ true → Carries u
text_carries u h kept line t n s = let w = text_runs u kept line t h n s in (line ++ u, w.0, w.1)

-- the bytes of a literal, none of which is 00, add to the command alone
abbrev pub nonzero : ℕ → Bool
nonzero b = not (eqb b 0)

literal_step : (kept : List ℕ) (n c : ℕ) (t : List ℕ) → offends kept c ≡ false
    → one_command (in_literal kept (suc n)) (c ∷ t) ≡ one_command (awaiting (kept ++ (c ∷ [])) n) t
unfolding one_command allowed still_one gives fed_byte
literal_step kept n c t o = rw (o, one_less)
  where
    one_less : suc n - 1 ≡ n
    one_less = omega arith

literal_runs : (x kept t : List ℕ) → all nonzero x ≡ true → length kept + length x ≤ 2048
    → one_command (awaiting kept (length x)) (x ++ t) ≡ one_command (reading (kept ++ x) []) t
unfolding awaiting all
literal_runs [] kept t h s = ap (λ (k : List ℕ). one_command (reading k []) t) (sym (append-nil kept))
literal_runs (c ∷ x) kept t h s =
    rw (ne_eqb (suc (length x)) 0 (λ e. omega (arith, e)))
    (literal_step kept (length x) c (x ++ t) (within_room kept c (omega arith) (not-true (eqb c 0) (and_l (nonzero c) (all nonzero x) h)))
    ∙ literal_runs x (kept ++ (c ∷ [])) t (and_r (nonzero c) (all nonzero x) h) (omega (arith, length-append kept (c ∷ [])))
    ∙ ap (λ (k : List ℕ). one_command (reading k []) t) (append_assoc kept (c ∷ []) x))

-- the end of a line that announces a literal of at most 1,024 bytes
header_ends : (kept line t : List ℕ) (n : ℕ) → last_is 13 line ≡ false → announced (line ++ crlf) ≡ some n → n ≤ 1024 → length kept + 2 ≤ 2048
    → one_command (reading kept line) (crlf ++ t) ≡ one_command (awaiting (kept ++ crlf) n) t
unfolding line_ended gives still_one
header_ends kept line t n l a h s = crlf_ends kept line t l s ∙ rw (a, le-leb n 1024 h)

-- digits stand in a line, and so does a header
digit_line : (d : ℕ) → line_byte (48 + d % 10) ≡ true
unfolding line_byte within
digit_line d =
    let b = 48 + d % 10 in
    simp (le-leb 1 b (omega arith), le-leb b 127 (omega arith), ne_eqb b 13 (λ e. omega (arith, e)), ne_eqb b 10 (λ e. omega (arith, e)))

header_line : (n : ℕ) → all line_byte (header n) ≡ true
unfolding all line_byte within
header_line n = all_append line_byte (decimal_text n) (125 ∷ []) (digits_all line_byte digit_line n) refl

literal_carries : (x : List ℕ) → length x ≤ 1024 → all nonzero x ≡ true → Carries (header (length x) ++ (crlf ++ x))
literal_carries x h z kept line t n s =
    let k = length x in
    let front = text_runs (header k) kept line (crlf ++ (x ++ t)) (header_line k) n (omega (arith, sizes)) in (
      [],
      (unfold last_is in refl),
      ap (one_command (reading kept line)) (append_assoc (header k) (crlf ++ x) t ∙ ap (λ (l : List ℕ). header k ++ l) (append_assoc crlf x t))
          ∙ front.1
          ∙ header_ends (kept ++ header k) (line ++ header k) (x ++ t) k front.0 (header_announces line k (omega arith)) h
          (omega (arith, sizes, length-append kept (header k)))
          ∙ literal_runs x ((kept ++ header k) ++ crlf) t z
          (omega (arith, sizes, length-append kept (header k), length-append (kept ++ header k) crlf, two))
          ∙ ap (λ (l : List ℕ). one_command (reading l []) t) (append_assoc (kept ++ header k) crlf x ∙ append_assoc kept (header k) (crlf ++ x)),
    )
  where
    two : length crlf ≡ 2
    two = unfold crlf in refl

    sizes : length (header (length x) ++ (crlf ++ x)) ≡ length (header (length x)) + suc (suc (length x))
    sizes = length-append (header (length x)) (crlf ++ x) ∙ ap (λ (m : ℕ). length (header (length x)) + m) (unfold crlf in refl)

-- a string as it is written
quoted_line : (x : List ℕ) → all line_byte x ≡ true → all line_byte (quoted x) ≡ true
unfolding quoted open_bytes line_byte
quoted_line x e = all_append line_byte (escaped x) (34 ∷ []) (all_escaped line_byte refl x e) refl

-- what cannot stand in quotes can stand as a literal
pub stands_literal : (x : List ℕ) → can_stand x ≡ true → all line_byte x ≡ false → (length x ≤ 1024) × (all nonzero x ≡ true)
unfolding can_stand
stands_literal x h e =
    let w : (leb (length x) 1024 && all nonzero x) ≡ true = rw e at h in
    (leb-true (length x) 1024 (and_l (leb (length x) 1024) (all nonzero x) w), and_r (leb (length x) 1024) (all nonzero x) w)

string_carries : (x : List ℕ) → can_stand x ≡ true → Carries (string_text x)
unfolding string_text open_bytes
string_carries x h = go (all line_byte x) refl
  where
    go : (o : Bool) → all line_byte x ≡ o → Carries (cond o (quoted x) (123 ∷ (decimal_text (length x) ++ (125 ∷ (crlf ++ x)))))
    go true e = text_carries (quoted x) (quoted_line x e)
    go false e =
        let w = stands_literal x h e in
        subst Carries (ap (λ (l : List ℕ). 123 ∷ l) (append_assoc (decimal_text (length x)) (125 ∷ []) (crlf ++ x))) (literal_carries x w.0 w.1)

-- strings parted by spaces
strings_carry : (ps : List (List ℕ)) → every can_stand ps ≡ true → Carries (spaced_tail (map string_text ps))
unfolding spaced_tail every
strings_carry [] h = text_carries [] (unfold all in refl)
strings_carry (p ∷ ps) h =
    carries_append (32 ∷ []) (string_text p ++ spaced_tail (map string_text ps)) (text_carries (32 ∷ []) (unfold all line_byte within in refl))
    (carries_append (string_text p) (spaced_tail (map string_text ps)) (string_carries p (and_l (can_stand p) (every can_stand ps) h))
    (strings_carry ps (and_r (can_stand p) (every can_stand ps) h)))

spaced_carry : (ps : List (List ℕ)) → every can_stand ps ≡ true → Carries (spaced (map string_text ps))
unfolding spaced every
spaced_carry [] h = text_carries [] (unfold all in refl)
spaced_carry (p ∷ ps) h =
    carries_append (string_text p) (spaced_tail (map string_text ps)) (string_carries p (and_l (can_stand p) (every can_stand ps) h))
    (strings_carry ps (and_r (can_stand p) (every can_stand ps) h))

-- a tag and the words of options stand in a line
tag_line : (b : ℕ) → tag_byte b ≡ true → line_byte b ≡ true
unfolding tag_byte atom_byte line_byte within
tag_line b h = ⊎_elim of_atom of_bracket (or_cases (atom_byte b) (eqb b 93) (and_l (atom_byte b || eqb b 93) (not (eqb b 43)) h))
  where
    of_bracket : eqb b 93 ≡ true → line_byte b ≡ true
    of_bracket e = rw (eqb-true b 93 e)

    of_atom : atom_byte b ≡ true → line_byte b ≡ true
    of_atom e =
        let w = and_l (leb 33 b && leb b 126) (not (one_of (text "(){%*\"\\]") b)) e in
        let low = leb-true 33 b (and_l (leb 33 b) (leb b 126) w) in
        let high = leb-true b 126 (and_r (leb 33 b) (leb b 126) w) in
        let no13 = ne_eqb b 13 (λ e. omega (arith, low)) in
        let no10 = ne_eqb b 10 (λ e. omega (arith, low)) in
        simp (le-leb 1 b (omega (arith, low)), le-leb b 127 (omega (arith, high)), no13, no10)

words_line : (bs : List Bool) (ws : List (List ℕ)) → every (all line_byte) ws ≡ true → all line_byte (spaced (chosen bs ws)) ≡ true
words_line bs ws h = all_spaced line_byte (unfold line_byte within in refl) (chosen bs ws) (every_chosen (all line_byte) bs ws h)

selection_line : (o : Options) → all line_byte (selection_text o) ≡ true
unfolding selection_text open_bytes open_lists line_byte
selection_line o = words_line (o.sel_subscribed ∷ o.sel_recursive ∷ o.sel_special ∷ o.sel_remote ∷ []) _ refl

-- the line up to the ")" that closes the patterns
abbrev pub upto_patterns : List ℕ → Options → List ℕ → List (List ℕ) → List ℕ
upto_patterns tag o r ps =
    tag ++ (text " LIST (" ++ (selection_text o ++ (text ") " ++ (string_text r ++ (text " (" ++ spaced (map string_text ps))))))

opening_carries : (tag : List ℕ) (o : Options) (r : List ℕ) (ps : List (List ℕ)) → all tag_byte tag ≡ true → can_stand r ≡ true
    → every can_stand ps ≡ true → Carries (upto_patterns tag o r ps)
opening_carries tag o r ps t h hs =
    carries_append tag _ (text_carries tag (all_imp tag_byte line_byte tag_line tag t))
    (carries_append (text " LIST (") _ (text_carries (text " LIST (") (unfold open_bytes line_byte in refl))
    (carries_append (selection_text o) _ (text_carries (selection_text o) (selection_line o))
    (carries_append (text ") ") _ (text_carries (text ") ") (unfold open_bytes line_byte in refl))
    (carries_append (string_text r) _ (string_carries r h)
    (carries_append (text " (") _ (text_carries (text " (") (unfold open_bytes line_byte in refl)) (spaced_carry ps hs))))))

-- Where a ")" ends the command, all before the last CR LF is read; so it is where the patterns end the command and where RETURN does.
closes_line : (u : List ℕ) → Carries u → length (u ++ (41 ∷ crlf)) ≤ 2048 → line_text (u ++ (41 ∷ crlf)) ≡ some (u ++ (41 ∷ []))
unfolding line_text first
closes_line u c s =
    let w = c [] [] (41 ∷ crlf) (unfold last_is in refl) (omega (arith, size)) in
    let one = w.2 ∙ ends w.0 w.1 in
    let n : length (u ++ (41 ∷ crlf)) - 2 ≡ length (u ++ (41 ∷ [])) = omega (arith, size, length-append u (41 ∷ [])) in
    rw (one, n)
    (ap (λ (l : List ℕ). some (take (length (u ++ (41 ∷ []))) l)) (sym (append_assoc u (41 ∷ []) crlf))
    ∙ ap some (take-append_seam (u ++ (41 ∷ [])) crlf))
  where
    size : length (u ++ (41 ∷ crlf)) ≡ length u + 3
    size = length-append u (41 ∷ crlf) ∙ ap (λ (k : ℕ). length u + k) (unfold crlf in refl)

    ends : (line : List ℕ) → last_is 13 line ≡ false → one_command (reading u line) (41 ∷ crlf) ≡ true
    ends line n =
        run_out u line (41 ∷ []) (unfold all line_byte within in refl) n (omega (arith, size))
        (ap announced (append_assoc line (41 ∷ []) crlf) ∙ other_announces_none 41 refl line)

pub joined_shape : (tag : List ℕ) (o : Options) (r : List ℕ) (ps : List (List ℕ)) → all tag_byte tag ≡ true → can_stand r ≡ true
    → every can_stand ps ≡ true → length (joined_text tag o r ps) ≤ 2048
    → line_text (joined_text tag o r ps) ≡ some (upto_patterns tag o r ps ++ (41 ∷ return_text o))
joined_shape tag o r ps t h hs s = go (returns_any o) refl
  where
    u : List ℕ
    u = upto_patterns tag o r ps

    carried : Carries u
    carried = opening_carries tag o r ps t h hs

    splits : joined_text tag o r ps ≡ u ++ (41 ∷ (return_text o ++ crlf))
    splits = unfold joined_text open_bytes in simp append_assoc

    short : (l : List ℕ) → joined_text tag o r ps ≡ l → length l ≤ 2048
    short l e = rw e at s

    words : List ℕ
    words =
        spaced (chosen (o.ret_subscribed ∷ o.ret_children ∷ o.ret_special ∷ []) (text "SUBSCRIBED" ∷ text "CHILDREN" ∷ text "SPECIAL-USE" ∷ []))

    -- from the ")" of the patterns to the last option
    asking : List ℕ
    asking = 41 ∷ (text " RETURN (" ++ words)

    asking_line : all line_byte asking ≡ true
    asking_line = unfold open_bytes open_lists line_byte in words_line (o.ret_subscribed ∷ o.ret_children ∷ o.ret_special ∷ []) _ refl

    go : (b : Bool) → returns_any o ≡ b → line_text (joined_text tag o r ps) ≡ some (u ++ (41 ∷ return_text o))
    go false e =
        let nothing : return_text o ≡ [] = unfold return_text when in rw e in
        let is : joined_text tag o r ps ≡ u ++ (41 ∷ crlf) = splits ∙ ap (λ (l : List ℕ). u ++ (41 ∷ (l ++ crlf))) nothing in
        ap line_text is ∙ closes_line u carried (short _ is) ∙ ap (λ (l : List ℕ). some (u ++ (41 ∷ l))) (sym nothing)
    go true e =
        let asked : 41 ∷ return_text o ≡ asking ++ (41 ∷ []) = unfold return_text when open_bytes in rw e in
        let is : joined_text tag o r ps ≡ (u ++ asking) ++ (41 ∷ crlf) =
        splits ∙ ap (λ (l : List ℕ). u ++ (l ++ crlf)) asked ∙ ap (λ (l : List ℕ). u ++ l) (append_assoc asking (41 ∷ []) crlf)
        ∙ sym (append_assoc u asking (41 ∷ crlf)) in
        ap line_text is ∙ closes_line (u ++ asking) (carries_append u asking carried (text_carries asking asking_line)) (short _ is)
        ∙ ap some (append_assoc u asking (41 ∷ []) ∙ ap (λ (l : List ℕ). u ++ l) (sym asked))
