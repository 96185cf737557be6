-- Laws of frames: which characters are bad, what a frame with a first byte answers and holds, and that the answer and the bytes
-- at its side mean the frame. Rests on DigitLaws.
use Rattle.std.specs.Prelude.{Option as Maybe, Some, None}
use Rattle.listing_rules.proofs.Prelude.{◌∙◌, ◌≡◌, ap, refl, sym, Bool, cond, false, true, ◌⊎◌, inl, inr, ⊎_elim, Option, none, some, List, [], ◌∷◌}
use Rattle.listing_rules.proofs.Prelude.{◌-◌, ◌/◌, ◌<◌, ◌≤◌, suc, ℕ, arith, eqb, leb, drop, get_or, length, length-drop, take, length-sets, sets}
use Rattle.listing_rules.proofs.Prelude.{take-append_seam, le-leb, leb-true, lt-leb, ne_eqb}
use Rattle.listing_rules.specs.Frames.{Frame as Meant, table_bytes, namespace_bytes, command, walk_with, bad_frame, bytes_of, command_frame, walk_frame}
use Rattle.listing_rules.specs.Frames.{frame_of, read_frame}
use Rattle.octets.proofs.Puts.{front}
use Rattle.frames.specs.declared.reading.Frame.{Frame}
use Rattle.frames.specs.declared.reading.Frame.TheVariants.{Table, Namespaces, Command, Walk}
use Rattle.frames.specs.Hexadecimal.{is_some, pair_of, decoded}
use Rattle.frames.specs.Reading.{frame_is, answer_is, behind_kind, size_of, fitting, read_within, kind_is, FrameRead}
use Rattle.frames.proofs.DigitLaws.{bytes_are, no_bytes, length_decoded, decoded_at}

-- "An empty or overlong frame, an odd number of digits, another character"
pub bad_long : (line : List ℕ) → 4102 < length line → read_frame line ≡ bad_frame
unfolding read_frame
bad_long line h = rw (lt-leb (length line) 4102 h)

pub bad_short : (line : List ℕ) → length line < 2 → read_frame line ≡ bad_frame
unfolding read_frame bytes_of frame_of
bad_short [] h = refl
bad_short (c ∷ []) h = refl
bad_short (c ∷ b ∷ t) h = absurd (omega arith)

pub bad_text : (line : List ℕ) → is_some (bytes_of line) ≡ false → read_frame line ≡ bad_frame
unfolding read_frame frame_of
bad_text line e = rw (no_bytes (bytes_of line) e) (go (leb (length line) 4102))
  where
    go : (o : Bool) → cond o bad_frame bad_frame ≡ bad_frame
    go true = refl
    go false = refl

-- any other frame: its first byte and the bytes behind it
read_kind : (line : List ℕ) → length line ≤ 4102 → 2 ≤ length line → is_some (bytes_of line) ≡ true →
    read_frame line ≡ frame_of (some (pair_of (get_or line 0 0) (get_or line 1 0) ∷ decoded (drop 2 line)))
unfolding read_frame decoded
read_kind [] h g e = absurd (omega arith)
read_kind (c ∷ []) h g e = absurd (omega arith)
read_kind (c ∷ b ∷ t) h g e = rw (le-leb (length (c ∷ b ∷ t)) 4102 h, bytes_are (c ∷ b ∷ t) e)

module _ (k : ℕ) where
  -- a first byte with bytes behind it is a bad frame, or holds those
  kind_holds : (bs : List ℕ) → (frame_of (some (k ∷ bs)) ≡ bad_frame) ⊎ (behind_kind (frame_of (some (k ∷ bs))) ≡ bs)
  unfolding frame_of behind_kind command_frame walk_frame
  kind_holds bs = go (eqb k 0x4D) (eqb k 0x4E) (eqb k 0x43) (eqb k 0x57) bs
    where
      go : (m n c w : Bool) (xs : List ℕ) →
          (cond m (table_bytes xs) (cond n (namespace_bytes xs) (cond c (command_frame xs) (cond w (walk_frame xs) bad_frame))) ≡ bad_frame) ⊎
          (behind_kind (cond m (table_bytes xs) (cond n (namespace_bytes xs) (cond c (command_frame xs) (cond w (walk_frame xs) bad_frame)))) ≡ xs)
      go true n c w xs = inr refl
      go false true c w xs = inr refl
      go false false true w [] = inl refl
      go false false true w (x ∷ t) = inr refl
      go false false false false xs = inl refl
      go false false false true [] = inl refl
      go false false false true (x ∷ []) = inl refl
      go false false false true (x ∷ y ∷ []) = inr refl
      go false false false true (x ∷ y ∷ z ∷ t) = inl refl

  -- its answer, by how many the bytes are, and the first two of them where they are there
  kind_answer_lem : (bs : List ℕ) (r o : ℕ) → (1 ≤ length bs → r ≡ get_or bs 0 0) → (2 ≤ length bs → o ≡ get_or bs 1 0) →
      kind_is k (length bs) r o ≡ answer_is (frame_of (some (k ∷ bs)))
  unfolding frame_of answer_is command_frame walk_frame kind_is
  kind_answer_lem bs r o = go (eqb k 0x4D) (eqb k 0x4E) (eqb k 0x43) (eqb k 0x57) bs
    where
      go : (m n c w : Bool) (xs : List ℕ) → (1 ≤ length xs → r ≡ get_or xs 0 0) → (2 ≤ length xs → o ≡ get_or xs 1 0) →
          cond m (Some (Table (length xs))) (cond n (Some (Namespaces (length xs)))
          (cond c (cond (eqb (length xs) 0) None (Some (Command r (length xs - 1)))) (cond w (cond (eqb (length xs) 2) (Some (Walk r o)) None) None))) ≡ answer_is
          (cond m (table_bytes xs) (cond n (namespace_bytes xs) (cond c (command_frame xs) (cond w (walk_frame xs) bad_frame))))
      go true n c w xs h g = refl
      go false true c w xs h g = refl
      go false false true w [] h g = refl
      go false false true w (x ∷ t) h g =
          let e : r ≡ x = h (omega arith) in
          let q : suc (length t) - 1 ≡ length t = omega arith in
          rw (ne_eqb (suc (length t)) 0 (λ z. omega arith), q, e)
      go false false false false xs h g = refl
      go false false false true [] h g = refl
      go false false false true (x ∷ []) h g = refl
      go false false false true (x ∷ y ∷ []) h g =
          let e : r ≡ x = h (omega arith) in
          let q : o ≡ y = g (omega arith) in
          rw (e, q)
      go false false false true (x ∷ y ∷ z ∷ t) h g = rw (ne_eqb (suc (suc (suc (length t)))) 2 (λ e. omega arith))

-- only a bad frame is answered so
answer_bad : (f : Meant) → answer_is f ≡ None → f ≡ bad_frame
unfolding answer_is
answer_bad (table_bytes bs) e = cc
answer_bad (namespace_bytes bs) e = cc
answer_bad (command r l) e = cc
answer_bad (walk_with r o) e = cc
answer_bad bad_frame e = refl

-- the bytes that fit, of a frame that is read over so many
within_fits : (room : ℕ) (line : List ℕ) → length (behind_kind (read_within room line)) ≤ room
unfolding read_within fitting behind_kind
within_fits room line = go (leb (length (behind_kind (read_frame line))) room) refl
  where
    go : (o : Bool) → leb (length (behind_kind (read_frame line))) room ≡ o → length (behind_kind (cond o (read_frame line) bad_frame)) ≤ room
    go true e = leb-true (length (behind_kind (read_frame line))) room e
    go false e = omega arith

within_some : (room : ℕ) (line : List ℕ) → length (behind_kind (read_frame line)) ≤ room → read_within room line ≡ read_frame line
unfolding read_within fitting
within_some room line h = rw (le-leb (length (behind_kind (read_frame line))) room h)

pub within_bad : (room : ℕ) (line : List ℕ) → read_frame line ≡ bad_frame → read_within room line ≡ bad_frame
unfolding behind_kind
within_bad room line e = within_some room line (rw e (omega arith)) ∙ e

-- no frame has more than 2,050 bytes behind its first
frame_small : (bs : List ℕ) → length (behind_kind (frame_of (some bs))) ≤ length bs - 1
unfolding frame_of behind_kind
frame_small [] = omega arith
frame_small (k ∷ bs) = ⊎_elim (λ z. omega (arith, ap (λ (f : Meant). length (behind_kind f)) z)) (λ z. omega (arith, ap length z)) (kind_holds k bs)

pub behind_small : (line : List ℕ) → length (behind_kind (read_frame line)) ≤ 2050
unfolding read_frame frame_of behind_kind is_some
behind_small line = go (leb (length line) 4102) refl (bytes_of line) refl
  where
    go : (o : Bool) → leb (length line) 4102 ≡ o → (x : Option (List ℕ)) → bytes_of line ≡ x → length (behind_kind (cond o (frame_of x) bad_frame)) ≤ 2050
    go false e x q = omega arith
    go true e none q = omega arith
    go true e (some bs) q =
        let w : some bs ≡ some (decoded line) = sym q ∙ bytes_are line (ap is_some q) in
        let z : bs ≡ decoded line = cc in
        omega (arith, leb-true (length line) 4102 e, ap length z, length_decoded line, frame_small bs)

-- so 2,050 bytes are enough
within_whole : (room : ℕ) (line : List ℕ) → 2050 ≤ room → read_within room line ≡ read_frame line
within_whole room line h = within_some room line (omega (arith, behind_small line))

taken : (d bs : List ℕ) → length bs ≤ length d → take (length bs) (sets d 0 bs) ≡ bs
taken d bs h = ap (take (length bs)) (front d bs h) ∙ take-append_seam bs (drop (length bs) d)

taken_behind : (d : List ℕ) (b : ℕ) (bs : List ℕ) → length (b ∷ bs) ≤ length d → take (length bs) (drop 1 (sets d 0 (b ∷ bs))) ≡ bs
taken_behind d b bs h = ap (λ (x : List ℕ). take (length bs) (drop 1 x)) (front d (b ∷ bs) h) ∙ take-append_seam bs (drop (length (b ∷ bs)) d)

-- the answer of a frame, beside its bytes, means the frame
answer_means : (d : List ℕ) (f : Meant) → length (behind_kind f) ≤ length d → frame_is (sets d 0 (behind_kind f)) (answer_is f) ≡ f
unfolding frame_is answer_is behind_kind
answer_means d (table_bytes bs) h = ap table_bytes (taken d bs h)
answer_means d (namespace_bytes bs) h = ap namespace_bytes (taken d bs h)
answer_means d (command r l) h = ap (command r) (taken_behind d r l h)
answer_means d (walk_with r o) h = refl
answer_means d bad_frame h = refl

pub answer_size_lem : (f : Meant) → size_of (answer_is f) ≡ length (behind_kind f)
unfolding size_of answer_is behind_kind
answer_size_lem (table_bytes bs) = refl
answer_size_lem (namespace_bytes bs) = refl
answer_size_lem (command r l) = omega arith
answer_size_lem (walk_with r o) = refl
answer_size_lem bad_frame = refl

-- the answer and the bytes are all that a reading promises
frame_read : (line d e : List ℕ) (r : Maybe Frame) → r ≡ answer_is (read_within (length d) line) → e ≡ sets d 0 (behind_kind (read_within (length d) line)) →
    FrameRead line d e r
frame_read line d e r a b =
    record {
      means = λ h. rw (a, b) (answer_means d (read_within (length d) line) (within_fits (length d) line) ∙ within_whole (length d) line h);
      answer = a;
      bytes = b;
      inside =
          omega
          (arith, ap size_of a, answer_size_lem (read_within (length d) line), within_fits (length d) line, ap length b, length-sets d 0 (behind_kind (read_within (length d) line)));
      kept = ap length b ∙ length-sets d 0 (behind_kind (read_within (length d) line));
    }

-- a bad frame
pub frame_bad : (line d : List ℕ) → read_within (length d) line ≡ bad_frame → FrameRead line d d None
unfolding answer_is behind_kind
frame_bad line d e = frame_read line d d None (rw e) (rw e)

-- the answer by the first byte, by how many bytes stand behind it, and by the second and third byte
abbrev pub kind_answer : List ℕ → Maybe Frame
kind_answer line =
    kind_is (pair_of (get_or line 0 0) (get_or line 1 0)) (length line / 2 - 1) (pair_of (get_or line 2 0) (get_or line 3 0))
    (pair_of (get_or line 4 0) (get_or line 5 0))

-- A frame of 2 to 4,102 digits: the first byte and the number of bytes behind it decide.
module _ (line : List ℕ) (most : length line ≤ 4102) (least : 2 ≤ length line) (text : is_some (bytes_of line) ≡ true) where
  behind_length : length (decoded (drop 2 line)) ≡ length line / 2 - 1
  behind_length = omega (arith, length_decoded (drop 2 line), length-drop 2 line)

  read_answer : kind_answer line ≡ answer_is (read_frame line)
  read_answer =
      rw (read_kind line most least text, ← behind_length) (kind_answer_lem (pair_of (get_or line 0 0) (get_or line 1 0)) (decoded (drop 2 line))
      (pair_of (get_or line 2 0) (get_or line 3 0)) (pair_of (get_or line 4 0) (get_or line 5 0)) first second)
    where
      first : 1 ≤ length (decoded (drop 2 line)) → pair_of (get_or line 2 0) (get_or line 3 0) ≡ get_or (decoded (drop 2 line)) 0 0
      first h = rw (decoded_at line 2 (omega (arith, behind_length)))

      second : 2 ≤ length (decoded (drop 2 line)) → pair_of (get_or line 4 0) (get_or line 5 0) ≡ get_or (decoded (drop 2 line)) 1 0
      second h = rw (decoded_at line 2 (omega (arith, behind_length)), decoded_at line 4 (omega (arith, behind_length)))

  read_holds : (read_frame line ≡ bad_frame) ⊎ (behind_kind (read_frame line) ≡ decoded (drop 2 line))
  read_holds = rw (read_kind line most least text) (kind_holds (pair_of (get_or line 0 0) (get_or line 1 0)) (decoded (drop 2 line)))

  module _ (d : List ℕ) where
    -- it does not fit
    pub frame_short : length d < length line / 2 - 1 → FrameRead line d d None
    unfolding read_within fitting
    frame_short h = frame_bad line d (⊎_elim (within_bad (length d) line) small read_holds)
      where
        small : behind_kind (read_frame line) ≡ decoded (drop 2 line) → read_within (length d) line ≡ bad_frame
        small e = rw (lt-leb (length (behind_kind (read_frame line))) (length d) (omega (arith, ap length e, behind_length)))

    -- it fits
    module _ (room : length line / 2 - 1 ≤ length d) where
      fits : read_within (length d) line ≡ read_frame line
      unfolding behind_kind
      fits =
          ⊎_elim (λ e. within_bad (length d) line e ∙ sym e) (λ e. within_some (length d) line (omega (arith, ap length e, behind_length))) read_holds

      pub frame_other : kind_answer line ≡ None → FrameRead line d d None
      frame_other e = frame_bad line d (within_bad (length d) line (answer_bad (read_frame line) (sym read_answer ∙ e)))

      pub frame_good : (e : List ℕ) (f : Frame) → kind_answer line ≡ Some f → e ≡ sets d 0 (decoded (drop 2 line)) → FrameRead line d e (Some f)
      unfolding answer_is
      frame_good e f a b = frame_read line d e (Some f) answers (b ∙ ap (sets d 0) holds)
        where
          answers : Some f ≡ answer_is (read_within (length d) line)
          answers = sym a ∙ read_answer ∙ ap answer_is (sym fits)

          never : read_frame line ≡ bad_frame → ⊥
          never q = let z : Some f ≡ None = sym a ∙ read_answer ∙ ap answer_is q in cc

          holds : decoded (drop 2 line) ≡ behind_kind (read_within (length d) line)
          holds = ⊎_elim (λ q. absurd (never q)) (λ q. sym q ∙ ap behind_kind (sym fits)) read_holds
