-- Frames of a log: what the program writes is read again, a log falls into its frames at its line feeds, and a frame that the program reads as a
-- command is that command in a log (W14). Rests on AnswerBytes and AnswerLines.
use Rattle.listing_rules.proofs.Prelude.{◌∙◌, ◌≡◌, ap, refl, subst, sym, Bool, ◌&&◌, cond, false, not, true, Option, none, some}
use Rattle.listing_rules.proofs.Prelude.{option_none_ne_some, List, [], ◌∷◌, ◌++◌, append_assoc, map, ◌%◌, ◌*◌, ◌+◌, ◌-◌, ◌/◌, ◌≤◌, ℕ, arith}
use Rattle.listing_rules.proofs.Prelude.{eqb, leb, length, length-append, take_at, eqb-true, le-leb, leb-true, leb-false, lt-leb}
use Rattle.listing_rules.specs.Bytes.{all, within, is_empty, LF}
use Rattle.listing_rules.specs.Tokens.{◌>>=◌}
use Rattle.listing_rules.specs.Feeder.{last_is}
use Rattle.listing_rules.specs.Server.{Reply, refusal, answered}
use Rattle.listing_rules.specs.Walk.{lines_of}
use Rattle.listing_rules.specs.Frames.{digit, bytes_of, Frame, table_bytes, namespace_bytes, command, walk_with, bad_frame, command_frame, walk_frame}
use Rattle.listing_rules.specs.Frames.{frame_of, read_frame, hex_digit, hex, answer_line, refusal_line, reply_line}
use Rattle.listing_rules.specs.Replay.{Logged, asked, recorded, unreadable, asked_in, number_in, logged_of, log_limit, read_logged, logged_line}
use Rattle.listing_rules.specs.Replay.{logged_frames}
use Rattle.listing_rules.proofs.Bools.{and_l, and_r, and_i}
use Rattle.listing_rules.proofs.TokenLaws.{bind_some}
use Rattle.listing_rules.proofs.AnswerLines.{not_lf, line_split}
use Rattle.listing_rules.proofs.AnswerBytes.{is_byte, Bytes, Loggable}

-- Digits: what is written is read again, and no digit is a line feed.
digit_hex : (d : ℕ) → d ≤ 15 → digit (hex_digit d) ≡ some d
unfolding digit hex_digit within
digit_hex d h = go (leb d 9) refl
  where
    go : (b : Bool) → leb d 9 ≡ b → digit (cond b (48 + d) (55 + d)) ≡ some d
    go true e =
        let k = leb-true d 9 e in
        let z : 48 + d - 48 ≡ d = omega arith in
        rw (le-leb 48 (48 + d) (omega arith), le-leb (48 + d) 57 (omega (arith, k))) (ap some z)
    go false e =
        let k = leb-false d 9 e in
        let z : 55 + d - 55 ≡ d = omega arith in
        rw (le-leb 48 (55 + d) (omega arith), lt-leb (55 + d) 57 (omega (arith, k)), le-leb 65 (55 + d) (omega (arith, k)), le-leb (55 + d) 70 (omega (arith, h)))
        (ap some z)

pub bytes_hex : (bs : List ℕ) → Bytes bs → bytes_of (hex bs) ≡ some bs
unfolding bytes_of hex all ◌>>=◌
bytes_hex [] h = refl
bytes_hex (b ∷ t) h =
    let k = leb-true b 255 (and_l (is_byte b) (all is_byte t) h) in
    let z : 16 * (b / 16) + b % 16 ≡ b = omega arith in
    rw (digit_hex (b / 16) (omega (arith, k)), digit_hex (b % 16) (omega arith), bytes_hex t (and_r (is_byte b) (all is_byte t) h))
    (ap (λ (x : ℕ). some (x ∷ t)) z)

hex_digit_high : (d : ℕ) → 48 ≤ hex_digit d
unfolding hex_digit
hex_digit_high d = go (leb d 9)
  where
    go : (b : Bool) → 48 ≤ cond b (48 + d) (55 + d)
    go true = omega arith
    go false = omega arith

high_not_lf : (c : ℕ) → 48 ≤ c → not_lf c ≡ true
high_not_lf c h = go (eqb c 10) refl
  where
    go : (b : Bool) → eqb c 10 ≡ b → not b ≡ true
    go true e = absurd (omega (arith, h, eqb-true c 10 e))
    go false e = refl

hex_not_lf : (bs : List ℕ) → all not_lf (hex bs) ≡ true
unfolding hex all
hex_not_lf [] = refl
hex_not_lf (b ∷ t) =
    and_i (not_lf (hex_digit (b / 16))) (not_lf (hex_digit (b % 16)) && all not_lf (hex t)) (high_not_lf (hex_digit (b / 16)) (hex_digit_high (b / 16)))
    (and_i (not_lf (hex_digit (b % 16))) (all not_lf (hex t)) (high_not_lf (hex_digit (b % 16)) (hex_digit_high (b % 16))) (hex_not_lf t))

hex_length : (bs : List ℕ) → length (hex bs) ≡ 2 * length bs
unfolding hex
hex_length [] = refl
hex_length (b ∷ t) = omega (arith, hex_length t)

digit_not_lf : (c a : ℕ) → digit c ≡ some a → not_lf c ≡ true
unfolding digit within
digit_not_lf c a e = go (eqb c 10) refl
  where
    go : (b : Bool) → eqb c 10 ≡ b → not b ≡ true
    go true k = absurd (option_none_ne_some a (subst (λ (x : ℕ). digit x ≡ some a) (eqb-true c 10 k) e))
    go false k = refl

pub read_not_lf : (f bs : List ℕ) → bytes_of f ≡ some bs → all not_lf f ≡ true
unfolding bytes_of all
read_not_lf [] bs e = refl
read_not_lf (h ∷ []) bs e = absurd (option_none_ne_some bs e)
read_not_lf (h ∷ l ∷ t) bs e =
    let a = bind_some (digit h) _ bs e in
    let b = bind_some (digit l) _ bs a.2 in
    let r = bind_some (bytes_of t) _ bs b.2 in
    and_i (not_lf h) (not_lf l && all not_lf t) (digit_not_lf h a.0 a.1)
    (and_i (not_lf l) (all not_lf t) (digit_not_lf l b.0 b.1) (read_not_lf t r.0 r.1))

-- Lines of a log: a line with its LF is the frame of what stands before it.
last_LF : (y : List ℕ) → last_is LF (y ++ (10 ∷ [])) ≡ true
unfolding last_is is_empty
last_LF [] = refl
last_LF (b ∷ []) = refl
last_LF (b ∷ c ∷ y) = last_LF (c ∷ y)

line_frame : (y : List ℕ) → logged_line (y ++ (10 ∷ [])) ≡ read_logged y
unfolding logged_line
line_frame y =
    let n : length (y ++ (10 ∷ [])) - 1 ≡ length y = omega (arith, length-append y (10 ∷ [])) in
    rw (last_LF y, n) (ap read_logged (take_at y (10 ∷ []) (length y) refl))

pub frames_split : (y rest : List ℕ) → all not_lf y ≡ true → logged_frames (y ++ (10 ∷ rest)) ≡ read_logged y ∷ logged_frames rest
unfolding logged_frames
frames_split y rest h = ap (map logged_line) (line_split y rest h) ∙ ap (λ (x : Logged). x ∷ map logged_line (lines_of rest)) (line_frame y)

-- Frames of a log: a frame that the program reads as a command, and the line of a reply.
abbrev command_code : Frame → Type 0
command_code (command r l) = Unit {0}
command_code (table_bytes bs) = ⊥
command_code (namespace_bytes bs) = ⊥
command_code (walk_with r o) = ⊥
command_code bad_frame = ⊥

abbrev reader_in : Frame → ℕ
reader_in (command r l) = r
reader_in (table_bytes bs) = 0
reader_in (namespace_bytes bs) = 0
reader_in (walk_with r o) = 0
reader_in bad_frame = 0

abbrev line_in : Frame → List ℕ
line_in (command r l) = l
line_in (table_bytes bs) = []
line_in (namespace_bytes bs) = []
line_in (walk_with r o) = []
line_in bad_frame = []

no_walk : (bs : List ℕ) (r : ℕ) (l : List ℕ) → walk_frame bs ≡ command r l → ⊥
unfolding walk_frame
no_walk [] r l e = subst command_code (sym e) tt
no_walk (x ∷ []) r l e = subst command_code (sym e) tt
no_walk (x ∷ y ∷ []) r l e = subst command_code (sym e) tt
no_walk (x ∷ y ∷ z ∷ t) r l e = subst command_code (sym e) tt

read_asked : (bs : List ℕ) (r : ℕ) (l : List ℕ) → command_frame bs ≡ command r l → asked_in bs ≡ asked r l
unfolding command_frame asked_in
read_asked [] r l e = absurd (subst command_code (sym e) tt)
read_asked (q ∷ m) r l e = λ i. asked (reader_in (e i)) (line_in (e i))

of_command : (k : ℕ) (bs : List ℕ) (r : ℕ) (l : List ℕ) → frame_of (some (k ∷ bs)) ≡ command r l → logged_of (some (k ∷ bs)) ≡ asked r l
unfolding frame_of logged_of
of_command k bs r l e = go (eqb k 0x4D) (eqb k 0x4E) (eqb k 0x43) refl (eqb k 0x57) e
  where
    go : (a b c : Bool) → eqb k 0x43 ≡ c → (d : Bool)
        → cond a (table_bytes bs) (cond b (namespace_bytes bs) (cond c (command_frame bs) (cond d (walk_frame bs) bad_frame))) ≡ command r l
        → cond (eqb k 0x43) (asked_in bs) (cond (eqb k 0x41) (recorded (answered bs)) (cond (eqb k 0x52) (number_in bs) unreadable)) ≡ asked r l
    go true b c h d e = absurd (subst command_code (sym e) tt)
    go false true c h d e = absurd (subst command_code (sym e) tt)
    go false false true h d e = rw h (read_asked bs r l e)
    go false false false h true e = absurd (no_walk bs r l e)
    go false false false h false e = absurd (subst command_code (sym e) tt)

pub command_logged : (f : List ℕ) (r : ℕ) (l : List ℕ) → read_frame f ≡ command r l → (read_logged f ≡ asked r l) × (all not_lf f ≡ true)
unfolding read_frame read_logged log_limit
command_logged f r l e = go (leb (length f) 4102) refl (bytes_of f) refl e
  where
    go : (b : Bool) → leb (length f) 4102 ≡ b → (o : Option (List ℕ)) → bytes_of f ≡ o → cond b (frame_of o) bad_frame ≡ command r l
        → (read_logged f ≡ asked r l) × (all not_lf f ≡ true)
    go false h o k e = absurd (subst command_code (sym e) tt)
    go true h none k e = absurd (unfold frame_of in subst command_code (sym e) tt)
    go true h (some []) k e = absurd (unfold frame_of in subst command_code (sym e) tt)
    go true h (some (x ∷ bs)) k e =
        let q : logged_of (bytes_of f) ≡ asked r l = ap logged_of k ∙ of_command x bs r l e in
        (ap (λ (y : Logged). cond (leb (length f) (log_limit y)) y unreadable) q ∙ ap (λ (b : Bool). cond b (asked r l) unreadable) h, read_not_lf f (x ∷ bs) k)

answer_logged : (a : List ℕ) → Bytes a → length a ≤ 16384 → read_logged (hex (0x41 ∷ a)) ≡ recorded (answered a)
unfolding read_logged log_limit
answer_logged a h l =
    let fits : length (hex (0x41 ∷ a)) ≤ 32770 = omega (arith, hex_length (0x41 ∷ a)) in
    ap (λ (y : Logged). cond (leb (length (hex (0x41 ∷ a))) (log_limit y)) y unreadable) read
    ∙ ap (λ (b : Bool). cond b (recorded (answered a)) unreadable) (le-leb (length (hex (0x41 ∷ a))) 32770 fits)
  where
    read : logged_of (bytes_of (hex (0x41 ∷ a))) ≡ recorded (answered a)
    read = ap logged_of (bytes_hex (0x41 ∷ a) (unfold all in h)) ∙ (unfold logged_of in refl)

refusal_logged : (k : ℕ) → k ≤ 255 → read_logged (hex (0x52 ∷ k ∷ [])) ≡ recorded (refusal k)
unfolding read_logged log_limit
refusal_logged k l =
    ap (λ (y : Logged). cond (leb (length (hex (0x52 ∷ k ∷ []))) (log_limit y)) y unreadable) read
    ∙ ap (λ (b : Bool). cond b (recorded (refusal k)) unreadable) (le-leb (length (hex (0x52 ∷ k ∷ []))) 4102 (omega (arith, hex_length (0x52 ∷ k ∷ []))))
  where
    read : logged_of (bytes_of (hex (0x52 ∷ k ∷ []))) ≡ recorded (refusal k)
    read = ap logged_of (bytes_hex (0x52 ∷ k ∷ []) (unfold all in and_i (is_byte k) true (le-leb k 255 l) refl)) ∙ (unfold logged_of number_in in refl)

-- the line of a reply, at the front of the rest of a log
reply_frames : (r : Reply) (rest : List ℕ) → Loggable r → logged_frames (reply_line r ++ rest) ≡ recorded r ∷ logged_frames rest
unfolding reply_line refusal_line answer_line
reply_frames (refusal k) rest h =
    ap logged_frames (append_assoc (hex (0x52 ∷ k ∷ [])) (10 ∷ []) rest)
    ∙ frames_split (hex (0x52 ∷ k ∷ [])) rest (hex_not_lf (0x52 ∷ k ∷ [])) ∙ ap (λ (x : Logged). x ∷ logged_frames rest) (refusal_logged k h)
reply_frames (answered a) rest h =
    ap logged_frames (append_assoc (hex (0x41 ∷ a)) (10 ∷ []) rest)
    ∙ frames_split (hex (0x41 ∷ a)) rest (hex_not_lf (0x41 ∷ a)) ∙ ap (λ (x : Logged). x ∷ logged_frames rest) (answer_logged a h.0 h.1)

pub exchange_frames : (f : List ℕ) (reader : ℕ) (l : List ℕ) (r : Reply) (rest : List ℕ) → read_frame f ≡ command reader l → Loggable r
    → logged_frames ((f ++ (10 ∷ reply_line r)) ++ rest) ≡ asked reader l ∷ recorded r ∷ logged_frames rest
exchange_frames f reader l r rest e h =
    let w = command_logged f reader l e in
    ap logged_frames (append_assoc f (10 ∷ reply_line r) rest)
    ∙ frames_split f (reply_line r ++ rest) w.1
    ∙ (λ i. w.0 i ∷ reply_frames r rest h i)
