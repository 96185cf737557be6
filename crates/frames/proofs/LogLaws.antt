-- Laws of the frames of a log: what a first byte says, and one law for each way out of `read_recorded` and of `read_command`; the digits of a recorded
-- answer compared with bytes. Rests on FrameLaws and DigitLaws.
use Rattle.std.specs.Prelude.{Option as Maybe, Some, None}
use Rattle.listing_rules.proofs.Prelude.{◌∙◌, ◌≡◌, ap, refl, subst, sym, Bool, cond, false, false≢true, true, ◌⊎◌, inl, inr, ⊎_elim, some, List, []}
use Rattle.listing_rules.proofs.Prelude.{◌∷◌, ◌++◌, ◌*◌, ◌+◌, ◌/◌, ◌%◌, ◌<◌, ◌≤◌, suc, ℕ, add-one, arith, eqb, leb, drop, drop_of_length-le, get_or, length}
use Rattle.listing_rules.proofs.Prelude.{length-drop, sets, drop-cons, eq-eqb, eqb-true, le-leb, lt-leb, leb-true, leb-false, ne_eqb}
use Rattle.listing_rules.specs.Bytes.{same}
use Rattle.listing_rules.specs.Server.{Reply, refusal, answered}
use Rattle.listing_rules.specs.Frames.{Frame as Meant, table_bytes, namespace_bytes, command, walk_with, bad_frame, bytes_of, command_frame, frame_of}
use Rattle.listing_rules.specs.Frames.{read_frame}
use Rattle.listing_rules.specs.Replay.{Logged, asked, recorded, unreadable, asked_in, number_in, logged_of, log_limit, read_logged}
use Rattle.frames.specs.declared.reading.Frame.{Frame}
use Rattle.frames.specs.declared.reading.Frame.TheVariants.{Table, Namespaces, Command, Walk}
use Rattle.frames.specs.declared.logs.Recorded.{Recorded}
use Rattle.frames.specs.declared.logs.Recorded.TheVariants.{Answer, Number}
use Rattle.frames.specs.Hexadecimal.{is_some, pair_of, decoded}
use Rattle.frames.specs.Reading.{answer_is, behind_kind, fitting, read_within, FrameRead}
use Rattle.frames.specs.Logged.{recorded_is, command_bytes, fitting_bytes, length_some, CommandRead}
use Rattle.frames.proofs.DigitLaws.{hex_odd, bytes_are, no_bytes, length_decoded, decoded_at, decoded_end}
use Rattle.octets.proofs.Same.{same_lengths}
use Rattle.frames.proofs.FrameLaws.{bad_text, behind_small}

-- a frame is what its bytes say, within their limit, or unreadable
logged_by : (line : List ℕ) (f : Logged) → logged_of (bytes_of line) ≡ f → read_logged line ≡ cond (leb (length line) (log_limit f)) f unreadable
unfolding read_logged
logged_by line f e = ap (λ (g : Logged). cond (leb (length line) (log_limit g)) g unreadable) e

limited_none : (line : List ℕ) (f : Logged) → f ≡ unreadable → cond (leb (length line) (log_limit f)) f unreadable ≡ unreadable
limited_none line f e = ap (λ (g : Logged). cond (leb (length line) (log_limit g)) g unreadable) e ∙ go (leb (length line) (log_limit unreadable))
  where
    go : (b : Bool) → cond b unreadable unreadable ≡ unreadable
    go true = refl
    go false = refl

-- "An empty or overlong frame, an odd number of digits, another character"
pub log_long : (line : List ℕ) → 32770 < length line → read_logged line ≡ unreadable
unfolding read_logged log_limit
log_long line h = go (logged_of (bytes_of line))
  where
    go : (f : Logged) → cond (leb (length line) (log_limit f)) f unreadable ≡ unreadable
    go (recorded (answered a)) = rw (lt-leb (length line) 32770 h)
    go (recorded (refusal k)) = rw (lt-leb (length line) 4102 (omega (arith, h)))
    go (asked reader l) = rw (lt-leb (length line) 4102 (omega (arith, h)))
    go unreadable = rw (lt-leb (length line) 4102 (omega (arith, h)))

pub log_short : (line : List ℕ) → length line < 2 → read_logged line ≡ unreadable
unfolding read_logged bytes_of logged_of log_limit
log_short [] h = refl
log_short (c ∷ []) h = refl
log_short (c ∷ b ∷ t) h = absurd (omega arith)

pub log_text : (line : List ℕ) → is_some (bytes_of line) ≡ false → read_logged line ≡ unreadable
log_text line e =
    logged_by line (logged_of (bytes_of line)) refl ∙ limited_none line (logged_of (bytes_of line))
    (ap logged_of (no_bytes (bytes_of line) e) ∙ (unfold logged_of in refl))

-- A frame of two digits or more: its first byte, and the bytes after it.
module _ (line : List ℕ) where
  abbrev kind : ℕ
  kind = pair_of (get_or line 0 0) (get_or line 1 0)

  abbrev rest : List ℕ
  rest = decoded (drop 2 line)

  module _ (least : 2 ≤ length line) (text : is_some (bytes_of line) ≡ true) where
    bytes_kind : bytes_of line ≡ some (kind ∷ rest)
    bytes_kind = bytes_are line text ∙ ap some (decoded_at line 0 (omega arith))

    of_kind : (k : ℕ) → kind ≡ k → logged_of (bytes_of line) ≡ logged_of (some (k ∷ rest))
    of_kind k e = ap logged_of (bytes_kind ∙ ap (λ (x : ℕ). some (x ∷ rest)) e)

    -- 41
    pub log_answer : kind ≡ 0x41 → length line ≤ 32770 → read_logged line ≡ recorded (answered rest)
    unfolding log_limit
    log_answer e h =
        logged_by line (recorded (answered rest)) (of_kind 0x41 e ∙ (unfold logged_of in refl))
        ∙ ap (λ (b : Bool). cond b (recorded (answered rest)) unreadable) (le-leb (length line) 32770 h)

    -- 52
    of_number : kind ≡ 0x52 → logged_of (bytes_of line) ≡ number_in rest
    of_number e = of_kind 0x52 e ∙ (unfold logged_of in refl)

    pub log_number : kind ≡ 0x52 → length line ≡ 4 → read_logged line ≡ recorded (refusal (pair_of (get_or line 2 0) (get_or line 3 0)))
    unfolding log_limit
    log_number e h =
        let k = pair_of (get_or line 2 0) (get_or line 3 0) in
        logged_by line (recorded (refusal k)) (of_number e ∙ ap number_in one ∙ (unfold number_in in refl))
        ∙ ap (λ (b : Bool). cond b (recorded (refusal k)) unreadable) (le-leb (length line) 4102 (omega (arith, h)))
      where
        one : rest ≡ pair_of (get_or line 2 0) (get_or line 3 0) ∷ []
        one =
            decoded_at line 2 (omega (arith, h)) ∙ ap (λ (x : List ℕ). (pair_of (get_or line 2 0) (get_or line 3 0) ∷ []) ++ x)
            (decoded_end line 4 (omega (arith, h)))

    even : length line ≡ 2 * (length line / 2)
    even = parity (eqb (length line % 2) 0) refl
      where
        parity : (b : Bool) → eqb (length line % 2) 0 ≡ b → length line ≡ 2 * (length line / 2)
        parity true z = let r = eqb-true (length line % 2) 0 z in omega (arith, r)
        parity false z = absurd (false≢true (sym (hex_odd line (λ r. false≢true (sym z ∙ eq-eqb (length line % 2) 0 r))) ∙ text))

    pub log_number_other : kind ≡ 0x52 → (length line ≡ 4 → ⊥) → read_logged line ≡ unreadable
    log_number_other e h =
        logged_by line (logged_of (bytes_of line)) refl ∙ limited_none line (logged_of (bytes_of line)) (of_number e ∙ none_of rest refl)
      where
        none_of : (l : List ℕ) → rest ≡ l → number_in rest ≡ unreadable
        none_of [] q = ap number_in q ∙ (unfold number_in in refl)
        none_of (x ∷ []) q = absurd (h (omega (arith, ap length q, length_decoded (drop 2 line), length-drop 2 line, even)))
        none_of (x ∷ y ∷ l) q = ap number_in q ∙ (unfold number_in in refl)

    -- any other first byte records no answer
    pub log_other : (kind ≡ 0x41 → ⊥) → (kind ≡ 0x52 → ⊥) → recorded_is (read_logged line) ≡ None
    log_other a n =
        ap recorded_is (logged_by line (logged_of (some (kind ∷ rest))) (of_kind kind refl))
        ∙ (unfold logged_of in rw (ne_eqb kind 0x41 a, ne_eqb kind 0x52 n) (go (eqb kind 0x43) rest))
      where
        limit : (b : Bool) (f : Logged) → recorded_is f ≡ None → recorded_is (cond b f unreadable) ≡ None
        limit true f e = e
        limit false f e = unfold recorded_is in refl

        from : (xs : List ℕ) → recorded_is (asked_in xs) ≡ None
        from [] = unfold recorded_is asked_in in refl
        from (x ∷ xs) = unfold recorded_is asked_in in refl

        go : (b : Bool) (xs : List ℕ)
            → recorded_is (cond (leb (length line) (log_limit (cond b (asked_in xs) unreadable))) (cond b (asked_in xs) unreadable) unreadable) ≡ None
        go true xs = limit (leb (length line) (log_limit (asked_in xs))) (asked_in xs) (from xs)
        go false xs = limit (leb (length line) (log_limit unreadable)) unreadable (unfold recorded_is in refl)

  -- another first byte than 43 is no command
  pub log_no_command : 2 ≤ length line → (kind ≡ 0x43 → ⊥) → command_bytes (read_logged line) ≡ []
  log_no_command least n = by_text (is_some (bytes_of line)) refl
    where
      limit : (b : Bool) (f : Logged) → command_bytes f ≡ [] → command_bytes (cond b f unreadable) ≡ []
      limit true f e = e
      limit false f e = unfold command_bytes in refl

      number : (xs : List ℕ) → command_bytes (number_in xs) ≡ []
      number [] = unfold command_bytes number_in in refl
      number (x ∷ []) = unfold command_bytes number_in in refl
      number (x ∷ y ∷ xs) = unfold command_bytes number_in in refl

      by_kind : (a b : Bool) (xs : List ℕ) → command_bytes (cond a (recorded (answered xs)) (cond b (number_in xs) unreadable)) ≡ []
      by_kind true b xs = unfold command_bytes in refl
      by_kind false true xs = number xs
      by_kind false false xs = unfold command_bytes in refl

      by_text : (b : Bool) → is_some (bytes_of line) ≡ b → command_bytes (read_logged line) ≡ []
      by_text false e = ap command_bytes (log_text line e) ∙ (unfold command_bytes in refl)
      by_text true e =
          ap command_bytes (logged_by line (logged_of (some (kind ∷ rest))) (of_kind least e kind refl))
          ∙ limit (leb (length line) (log_limit (logged_of (some (kind ∷ rest))))) (logged_of (some (kind ∷ rest)))
          (unfold logged_of in rw (ne_eqb kind 0x43 n) (by_kind (eqb kind 0x41) (eqb kind 0x52) rest))

  -- 43: what the program reads as a command, and nothing else
  abbrev read_bytes : Meant → List ℕ
  read_bytes (command r l) = r ∷ l
  read_bytes (table_bytes bs) = []
  read_bytes (namespace_bytes bs) = []
  read_bytes (walk_with r o) = []
  read_bytes bad_frame = []

  module _ (least : 2 ≤ length line) (e : kind ≡ 0x43) where
    -- both readings, by the bytes after the first
    Both : Type 0
    Both = ((read_frame line ≡ bad_frame) × (read_logged line ≡ unreadable)) ⊎ ((read_frame line ≡ command_frame rest) × (read_logged line ≡ asked_in rest))

    both : Both
    unfolding Both
    both = by_text (is_some (bytes_of line)) refl
      where
        as_frame : is_some (bytes_of line) ≡ true → read_frame line ≡ cond (leb (length line) 4102) (command_frame rest) bad_frame
        as_frame t = unfold read_frame frame_of in rw (bytes_kind least t, e)

        limit_of : (xs : List ℕ) → log_limit (asked_in xs) ≡ 4102
        limit_of [] = unfold log_limit asked_in in refl
        limit_of (x ∷ xs) = unfold log_limit asked_in in refl

        as_logged : is_some (bytes_of line) ≡ true → read_logged line ≡ cond (leb (length line) 4102) (asked_in rest) unreadable
        as_logged t =
            logged_by line (asked_in rest) (of_kind least t 0x43 e ∙ (unfold logged_of in refl))
            ∙ ap (λ (n : ℕ). cond (leb (length line) n) (asked_in rest) unreadable) (limit_of rest)

        by_length : is_some (bytes_of line) ≡ true → (b : Bool) → leb (length line) 4102 ≡ b
            → Both
        by_length t true q =
            inr (as_frame t ∙ ap (λ (b : Bool). cond b (command_frame rest) bad_frame) q, as_logged t ∙ ap (λ (b : Bool). cond b (asked_in rest) unreadable) q)
        by_length t false q =
            inl (as_frame t ∙ ap (λ (b : Bool). cond b (command_frame rest) bad_frame) q, as_logged t ∙ ap (λ (b : Bool). cond b (asked_in rest) unreadable) q)

        by_text : (b : Bool) → is_some (bytes_of line) ≡ b
            → Both
        by_text true t = by_length t (leb (length line) 4102) refl
        by_text false t = inl (bad_text line t, log_text line t)

    same_bytes : (behind_kind (read_frame line) ≡ command_bytes (read_logged line)) × (read_bytes (read_frame line) ≡ command_bytes (read_logged line))
    same_bytes = unfold Both in
        ⊎_elim
        (λ w. (rw (w.0, w.1) (unfold behind_kind command_bytes in refl), rw (w.0, w.1) (unfold command_bytes in refl)))
        (λ w. (rw (w.0, w.1) (behind_of rest), rw (w.0, w.1) (read_of rest))) both
      where
        behind_of : (xs : List ℕ) → behind_kind (command_frame xs) ≡ command_bytes (asked_in xs)
        behind_of [] = unfold behind_kind command_frame command_bytes asked_in in refl
        behind_of (x ∷ xs) = unfold behind_kind command_frame command_bytes asked_in in refl

        read_of : (xs : List ℕ) → read_bytes (command_frame xs) ≡ command_bytes (asked_in xs)
        read_of [] = unfold command_frame command_bytes asked_in in refl
        read_of (x ∷ xs) = unfold command_frame command_bytes asked_in in refl

    -- so much as fits
    within_bytes : (room : ℕ) → (behind_kind (read_within room line) ≡ fitting_bytes room (command_bytes (read_logged line)))
        × (read_bytes (read_within room line) ≡ fitting_bytes room (command_bytes (read_logged line)))
    within_bytes room = go (leb (length (behind_kind (read_frame line))) room) refl
      where
        nothing_behind : behind_kind bad_frame ≡ []
        nothing_behind = unfold behind_kind in refl

        fits : (b : Bool) → leb (length (behind_kind (read_frame line))) room ≡ b
            → fitting_bytes room (command_bytes (read_logged line)) ≡ cond b (command_bytes (read_logged line)) []
        fits b q = unfold fitting_bytes in
            ap (λ (x : Bool). cond x (command_bytes (read_logged line)) []) (ap (λ (l : List ℕ). leb (length l) room) (sym same_bytes.0) ∙ q)

        reads : (b : Bool) → leb (length (behind_kind (read_frame line))) room ≡ b → read_within room line ≡ cond b (read_frame line) bad_frame
        reads b q = unfold read_within fitting in ap (λ (x : Bool). cond x (read_frame line) bad_frame) q

        go : (b : Bool) → leb (length (behind_kind (read_frame line))) room ≡ b
            → (behind_kind (read_within room line) ≡ fitting_bytes room (command_bytes (read_logged line)))
            × (read_bytes (read_within room line) ≡ fitting_bytes room (command_bytes (read_logged line)))
        go true q = (ap behind_kind (reads true q) ∙ same_bytes.0 ∙ sym (fits true q), ap read_bytes (reads true q) ∙ same_bytes.1 ∙ sym (fits true q))
        go false q = (
          ap behind_kind (reads false q) ∙ nothing_behind ∙ sym (fits false q),
          ap read_bytes (reads false q) ∙ sym (fits false q),
        )

    -- how many bytes the code counts by the program's reading
    abbrev count_in : Maybe Frame → Maybe ℕ
    count_in (Some (Command r n)) = Some (n + 1)
    count_in (Some (Table n)) = None
    count_in (Some (Namespaces n)) = None
    count_in (Some (Walk r o)) = None
    count_in None = None

    counted : (m : Meant) → count_in (answer_is m) ≡ length_some (read_bytes m)
    unfolding answer_is length_some
    counted (command r l) = let e : length l + 1 ≡ suc (length l) = omega arith in ap (λ (n : ℕ). Some n) e
    counted (table_bytes bs) = refl
    counted (namespace_bytes bs) = refl
    counted (walk_with r o) = refl
    counted bad_frame = refl

    pub command_read : (d e : List ℕ) (f g : Maybe Frame) → f ≡ g → FrameRead line d e f → CommandRead line d e (count_in g)
    command_read d e f g q r =
        record {
          answer = ap count_in (sym q ∙ r.answer) ∙ counted (read_within (length d) line) ∙ ap length_some (within_bytes (length d)).1;
          bytes = r.bytes ∙ ap (sets d 0) (within_bytes (length d)).0;
        }

    -- another frame than a command
    pub command_other : (d e : List ℕ) (r : Maybe Frame) (f : Frame) → r ≡ Some f → ((k n : ℕ) → f ≡ Command k n → ⊥) → FrameRead line d e r
        → CommandRead line d e None
    command_other d e r (Table n) q other x = command_read d e r (Some (Table n)) q x
    command_other d e r (Namespaces n) q other x = command_read d e r (Some (Namespaces n)) q x
    command_other d e r (Command k n) q other x = absurd (other k n refl)
    command_other d e r (Walk k o) q other x = command_read d e r (Some (Walk k o)) q x

-- a frame that is no command leaves the lent bytes
fitting_none : (room : ℕ) → fitting_bytes room [] ≡ []
unfolding fitting_bytes
fitting_none room = rw (le-leb 0 room (omega arith))

pub command_none : (line d : List ℕ) → command_bytes (read_logged line) ≡ [] → CommandRead line d d None
unfolding length_some
command_none line d e =
    let none-fits : fitting_bytes (length d) (command_bytes (read_logged line)) ≡ [] = ap (fitting_bytes (length d)) e ∙ fitting_none (length d) in
    record { answer = sym (ap length_some none-fits); bytes = sym (ap (sets d 0) none-fits) }

pub command_unreadable : (line d : List ℕ) → read_logged line ≡ unreadable → CommandRead line d d None
command_unreadable line d e = command_none line d (ap command_bytes e ∙ (unfold command_bytes in refl))

-- no command has more than 2,050 bytes
pub command_small : (line : List ℕ) → length (command_bytes (read_logged line)) ≤ 2050
command_small line = by_length (leb 2 (length line)) refl
  where
    none_long : command_bytes (read_logged line) ≡ [] → length (command_bytes (read_logged line)) ≤ 2050
    none_long e = omega (arith, ap length e)

    by_kind : 2 ≤ length line → (b : Bool) → eqb (kind line) 0x43 ≡ b → length (command_bytes (read_logged line)) ≤ 2050
    by_kind h true q = omega (arith, ap length (same_bytes line h (eqb-true (kind line) 0x43 q)).0, behind_small line)
    by_kind h false q = none_long (log_no_command line h (λ e. false≢true (sym q ∙ eq-eqb (kind line) 0x43 e)))

    by_length : (b : Bool) → leb 2 (length line) ≡ b → length (command_bytes (read_logged line)) ≤ 2050
    by_length true q = by_kind (leb-true 2 (length line) q) (eqb (kind line) 0x43) refl
    by_length false q = none_long (ap command_bytes (log_short line (leb-false 2 (length line) q)) ∙ (unfold command_bytes in refl))

-- the bytes of an answer are those of the digits after its first two
abbrev IsAnswer : Logged → Type 0
IsAnswer (recorded (answered a)) = Unit {0}
IsAnswer (recorded (refusal k)) = ⊥
IsAnswer (asked r l) = ⊥
IsAnswer unreadable = ⊥

abbrev answer_in : Logged → List ℕ
answer_in (recorded (answered a)) = a
answer_in (recorded (refusal k)) = []
answer_in (asked r l) = []
answer_in unreadable = []

abbrev IsOther : Maybe Recorded → Type 0
IsOther (Some Answer) = ⊥
IsOther (Some (Number k)) = Unit {0}
IsOther None = Unit {0}

pub answer_digits : (line a : List ℕ) → read_logged line ≡ recorded (answered a) → (2 ≤ length line) × (decoded (drop 2 line) ≡ a)
answer_digits line a e = by_length (leb 2 (length line)) refl
  where
    as_answer : recorded_is (read_logged line) ≡ Some Answer
    as_answer = unfold recorded_is in ap recorded_is e

    never : (f : Logged) → read_logged line ≡ f → (IsAnswer f → ⊥) → ⊥
    never f q n = n (subst IsAnswer (sym e ∙ q) tt)

    found : (2 ≤ length line) → is_some (bytes_of line) ≡ true → kind line ≡ 0x41 → (b : Bool) → leb (length line) 32770 ≡ b → decoded (drop 2 line) ≡ a
    found h t k true q = sym (ap answer_in (sym e ∙ log_answer line h t k (leb-true (length line) 32770 q)))
    found h t k false q = absurd (never unreadable (log_long line (leb-false (length line) 32770 q)) (λ z. z))

    other : (2 ≤ length line) → is_some (bytes_of line) ≡ true → (kind line ≡ 0x41 → ⊥) → ⊥
    other h t k = by_number (eqb (kind line) 0x52) refl (eqb (length line) 4) refl
      where
        by_number : (b : Bool) → eqb (kind line) 0x52 ≡ b → (c : Bool) → eqb (length line) 4 ≡ c → ⊥
        by_number true q true l = never _ (log_number line h t (eqb-true (kind line) 0x52 q) (eqb-true (length line) 4 l)) (λ z. z)
        by_number true q false l =
            never unreadable (log_number_other line h t (eqb-true (kind line) 0x52 q) (λ z. false≢true (sym l ∙ eq-eqb (length line) 4 z))) (λ z. z)
        by_number false q c l =
            subst IsOther (sym (log_other line h t k (λ z. false≢true (sym q ∙ eq-eqb (kind line) 0x52 z))) ∙ as_answer) tt

    by_kind : (2 ≤ length line) → is_some (bytes_of line) ≡ true → (b : Bool) → eqb (kind line) 0x41 ≡ b → decoded (drop 2 line) ≡ a
    by_kind h t true q = found h t (eqb-true (kind line) 0x41 q) (leb (length line) 32770) refl
    by_kind h t false q = absurd (other h t (λ z. false≢true (sym q ∙ eq-eqb (kind line) 0x41 z)))

    by_text : (2 ≤ length line) → (b : Bool) → is_some (bytes_of line) ≡ b → decoded (drop 2 line) ≡ a
    by_text h true t = by_kind h t (eqb (kind line) 0x41) refl
    by_text h false t = absurd (never unreadable (log_text line t) (λ z. z))

    by_length : (b : Bool) → leb 2 (length line) ≡ b → (2 ≤ length line) × (decoded (drop 2 line) ≡ a)
    by_length true q = let h = leb-true 2 (length line) q in (h, by_text h (is_some (bytes_of line)) refl)
    by_length false q = absurd (never unreadable (log_short line (leb-false 2 (length line) q)) (λ z. z))

-- a recorded answer or refusal has two characters at least
pub recorded_long : (line : List ℕ) (r : Reply) → read_logged line ≡ recorded r → 2 ≤ length line
recorded_long line r e = go (leb 2 (length line)) refl
  where
    IsRecorded : Logged → Type 0
    IsRecorded (recorded x) = Unit {0}
    IsRecorded (asked x l) = ⊥
    IsRecorded unreadable = ⊥

    go : (b : Bool) → leb 2 (length line) ≡ b → 2 ≤ length line
    go true q = leb-true 2 (length line) q
    go false q = absurd (subst IsRecorded (sym e ∙ log_short line (leb-false 2 (length line) q)) tt)

-- Digits compared with bytes, from a place on.
module _ (digits bytes : List ℕ) where
  pub digits_lengths : (length digits / 2 ≡ length bytes → ⊥) → same (decoded digits) bytes ≡ false
  digits_lengths h = same_lengths (decoded digits) bytes (λ e. h (sym (length_decoded digits) ∙ e))

  module _ (i : ℕ) (long : length digits / 2 ≡ length bytes) where
    abbrev at : ℕ
    at = 2 * i

    pub digits_differ : i < length bytes → (pair_of (get_or digits at 0) (get_or digits (at + 1) 0) ≡ get_or bytes i 0 → ⊥) →
        same (decoded (drop at digits)) (drop i bytes) ≡ false
    unfolding same
    digits_differ h n =
        rw
        (decoded_at digits at (omega (arith, long, h)), drop-cons bytes i 0 h, ne_eqb (pair_of (get_or digits at 0) (get_or digits (at + 1) 0)) (get_or bytes i 0) n)

    pub digits_step : i < length bytes → pair_of (get_or digits at 0) (get_or digits (at + 1) 0) ≡ get_or bytes i 0
        → same (decoded (drop at digits)) (drop i bytes) ≡ same (decoded (drop (2 * (i + 1)) digits)) (drop (i + 1) bytes)
    unfolding same
    digits_step h e =
        let next : 2 * (i + 1) ≡ at + 2 = omega arith in
        rw
        (next, decoded_at digits at (omega (arith, long, h)), drop-cons bytes i 0 h, eq-eqb (pair_of (get_or digits at 0) (get_or digits (at + 1) 0)) (get_or bytes i 0) e, add-one)
        refl

    pub digits_end : length bytes ≤ i → same (decoded (drop at digits)) (drop i bytes) ≡ true
    unfolding same
    digits_end h = rw (decoded_end digits at (omega (arith, long, h)), drop_of_length-le bytes h)
