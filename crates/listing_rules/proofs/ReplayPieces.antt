-- A log in pieces (W14): fed byte by byte it comes to what its frames come to, and it may be cut anywhere. Rests on ReplayFrames.
use Rattle.listing_rules.proofs.Prelude.{◌∙◌, ◌≡◌, ap, refl, sym, Bool, cond, false, not, not-true, true, Option, none, List, [], ◌∷◌, ◌++◌}
use Rattle.listing_rules.proofs.Prelude.{append_assoc, append-nil, map, ℕ, suc, eqb, eqb-true}
use Rattle.listing_rules.specs.Bytes.{all, is_empty, LF}
use Rattle.listing_rules.specs.Lists.{joined, on_first}
use Rattle.listing_rules.specs.Feeder.{last_is}
use Rattle.listing_rules.specs.Summary.{Summed}
use Rattle.listing_rules.specs.Walk.{lines_of}
use Rattle.listing_rules.specs.Replay.{Logged, asked, recorded, unreadable, read_logged, logged_line, logged_frames, Replayed, stopped, reporting}
use Rattle.listing_rules.specs.Replay.{replay_from, replay, Due, command_due, answer_due, Replaying, replay_start, waiting, stopped_at, frame_ended}
use Rattle.listing_rules.specs.Replay.{with_character, replay_on, replay_byte, replay_all, replay_pieces, due_at_end, verdict_at_end, replay_end}
use Rattle.listing_rules.proofs.Bools.{and_l, and_r, and_i}
use Rattle.listing_rules.proofs.ListLaws.{all_append}
use Rattle.listing_rules.proofs.AnswerLines.{not_lf}
use Rattle.listing_rules.proofs.ReplayFrames.{frames_split}

-- characters without a line feed are one line, and as the end of a log an unreadable frame
last_not : (y : List ℕ) → all not_lf y ≡ true → last_is LF y ≡ false
unfolding last_is is_empty all
last_not [] h = refl
last_not (b ∷ []) h = not-true (eqb b 10) (and_l (not_lf b) true h)
last_not (b ∷ c ∷ y) h = last_not (c ∷ y) (and_r (not_lf b) (all not_lf (c ∷ y)) h)

line_open : (b : ℕ) (y : List ℕ) → all not_lf (b ∷ y) ≡ true → lines_of (b ∷ y) ≡ (b ∷ y) ∷ []
unfolding lines_of on_first all
line_open b [] h = rw (not-true (eqb b 10) (and_l (not_lf b) true h))
line_open b (c ∷ y) h =
    ap (λ (x : Bool). cond x ((b ∷ []) ∷ lines_of (c ∷ y)) (on_first b (lines_of (c ∷ y)))) (not-true (eqb b 10) (and_l (not_lf b) (all not_lf (c ∷ y)) h))
    ∙ ap (on_first b) (line_open c y (and_r (not_lf b) (all not_lf (c ∷ y)) h))

frames_open : (b : ℕ) (y : List ℕ) → all not_lf (b ∷ y) ≡ true → logged_frames (b ∷ y) ≡ unreadable ∷ []
unfolding logged_frames logged_line
frames_open b y h = ap (map logged_line) (line_open b y h) ∙ (unfold logged_line in rw (last_not (b ∷ y) h))

-- nothing changes after a stop
stopped_stays : (spaces : List ℕ) (k : ℕ) (first : Option ℕ) (m : Summed) (t : List ℕ)
    → replay_all spaces (stopped_at k first m) t ≡ stopped_at k first m
unfolding replay_all replay_byte stopped_at
stopped_stays spaces k first m [] = refl
stopped_stays spaces k first m (c ∷ t) = stopped_stays spaces k first m t

-- a replay that nothing has stopped
abbrev going : ℕ → Due → Option ℕ → Summed → List ℕ → Replaying
going n d first m p = record { frames = n; due = d; first = first; stop = none; left = m; partial = p }

-- the frames that are still to be judged with those of the rest of the log, and the number of the first of them
abbrev ahead : Due → List Logged → List Logged
ahead command_due fs = fs
ahead (answer_due reader l) fs = asked reader l ∷ fs

abbrev number_ahead : Due → ℕ → ℕ
number_ahead command_due n = suc n
number_ahead (answer_due reader l) n = n

module _ (spaces : List ℕ) where
  abbrev rest : ℕ → Due → Option ℕ → Summed → List ℕ → Replayed
  rest n d first m log = replay_from spaces (number_ahead d n) first m (ahead d (logged_frames log))

  -- the end of the log
  at_end_lem : (n : ℕ) (d : Due) (first : Option ℕ) (m : Summed) (p : List ℕ) → all not_lf p ≡ true → replay_end (going n d first m p) ≡ rest n d first m p
  unfolding replay_end verdict_at_end due_at_end is_empty replay_from
  at_end_lem n command_due first m [] h = unfold logged_frames lines_of in refl
  at_end_lem n (answer_due reader l) first m [] h = unfold logged_frames lines_of in refl
  at_end_lem n command_due first m (b ∷ p) h = sym (ap (replay_from spaces (suc n) first m) (frames_open b p h))
  at_end_lem n (answer_due reader l) first m (b ∷ p) h = sym (ap (λ (fs : List Logged). replay_from spaces n first m (asked reader l ∷ fs)) (frames_open b p h))

  -- the rest of the log from a frame's line feed on
  abbrev Later : List ℕ → Type 0
  Later t = (n : ℕ) (d : Due) (first : Option ℕ) (m : Summed) (p : List ℕ) → all not_lf p ≡ true
      → replay_end (replay_all spaces (going n d first m p) t) ≡ rest n d first m (p ++ t)

  stops : (k : ℕ) (first : Option ℕ) (m : Summed) (t : List ℕ) → replay_end (replay_all spaces (stopped_at k first m) t) ≡ reporting (stopped k) m
  stops k first m t = ap replay_end (stopped_stays spaces k first m t) ∙ (unfold replay_end verdict_at_end stopped_at in refl)

  after_frame : (t : List ℕ) → Later t → (n : ℕ) (d : Due) (first : Option ℕ) (m : Summed) (f : Logged)
      → replay_end (replay_all spaces (frame_ended spaces n d first m f) t) ≡ replay_from spaces (number_ahead d n) first m (ahead d (f ∷ logged_frames t))
  unfolding frame_ended waiting replay_from
  after_frame t later n command_due first m (asked reader l) = later (suc n) (answer_due reader l) first m [] (unfold all in refl)
  after_frame t later n command_due first m (recorded r) = stops (suc n) first m t
  after_frame t later n command_due first m unreadable = stops (suc n) first m t
  after_frame t later n (answer_due reader l) first m (asked q k) = stops (suc n) first m t
  after_frame t later n (answer_due reader l) first m unreadable = stops (suc n) first m t
  after_frame t later n (answer_due reader l) first m (recorded r) = later (suc n) command_due _ _ [] (unfold all in refl)

  pieces_from : (t : List ℕ) → Later t
  unfolding with_character
  pieces_from [] n d first m p h = unfold replay_all in at_end_lem n d first m p h ∙ ap (rest n d first m) (sym (append-nil p))
  pieces_from (c ∷ t) n d first m p h = go (eqb c LF) refl (pieces_from t)
    where
      by : Bool → Replaying
      by b = cond b (frame_ended spaces n d first m (read_logged p)) (with_character (going n d first m p) c)

      one : (b : Bool) → eqb c LF ≡ b → replay_all spaces (going n d first m p) (c ∷ t) ≡ replay_all spaces (by b) t
      one b e = unfold replay_all replay_byte replay_on in ap (λ (x : Bool). replay_all spaces (by x) t) e

      go : (b : Bool) → eqb c LF ≡ b → Later t → replay_end (replay_all spaces (going n d first m p) (c ∷ t)) ≡ rest n d first m (p ++ (c ∷ t))
      go true e later =
          ap replay_end (one true e)
          ∙ after_frame t later n d first m (read_logged p)
          ∙ ap (λ (fs : List Logged). replay_from spaces (number_ahead d n) first m (ahead d fs)) (sym (frames_split p t h))
          ∙ ap (λ (x : ℕ). rest n d first m (p ++ (x ∷ t))) (sym (eqb-true c 10 e))
      go false e later =
          ap replay_end (one false e)
          ∙ later n d first m (p ++ (c ∷ [])) (all_append not_lf p (c ∷ []) h single)
          ∙ ap (rest n d first m) (append_assoc p (c ∷ []) t)
        where
          single : all not_lf (c ∷ []) ≡ true
          single = unfold all in and_i (not_lf c) true (ap not e) refl

-- Theorem: a log fed byte by byte comes to what the whole log comes to.
pub replay_in_pieces : (m : Summed) (spaces log : List ℕ) → replay_end (replay_all spaces (replay_start m) log) ≡ replay m spaces log
unfolding replay_start replay
replay_in_pieces m spaces log = pieces_from spaces log 0 command_due none m [] (unfold all in refl)

-- Theorem: and it does not matter where it is cut.
pub replay_cut : (spaces : List ℕ) (r : Replaying) (a b : List ℕ) → replay_all spaces r (a ++ b) ≡ replay_all spaces (replay_all spaces r a) b
unfolding replay_all
replay_cut spaces r [] b = refl
replay_cut spaces r (c ∷ a) b = replay_cut spaces (replay_byte spaces r c) a b

-- so pieces of any length, empty ones too, come to what the whole log comes to
pub pieces_join : (spaces : List ℕ) (r : Replaying) (ps : List (List ℕ)) → replay_pieces spaces r ps ≡ replay_all spaces r (joined ps)
unfolding joined replay_pieces
pieces_join spaces r [] = unfold replay_all in refl
pieces_join spaces r (p ∷ ps) = pieces_join spaces (replay_all spaces r p) ps ∙ sym (replay_cut spaces r p (joined ps))
