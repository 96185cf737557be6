-- The server's own answers and its refusals: each closes with the tag of its line. Rests on ReplyLaws.
use Rattle.listing_rules.proofs.Prelude.{◌∙◌, ◌≡◌, ap, refl, sym, subst, Bool, ◌||◌, cond, false, true, some, List, [], ◌++◌}
use Rattle.listing_rules.proofs.Prelude.{◌∷◌, append-nil, ℕ, suc, zero, ◌+◌, ◌-◌, ◌/◌, ◌%◌, ◌<◌, leb, get_or}
use Rattle.listing_rules.proofs.Prelude.{le-leb, arith, mod-lt}
use Rattle.listing_rules.proofs.Keys.{open_bytes, open_lists}
use Rattle.listing_rules.proofs.Bools.{and_l, and_r, and_i}
use Rattle.listing_rules.proofs.ListLaws.{all_append}
use Rattle.listing_rules.specs.Bytes.{text, within, all, same, is_empty, spells}
use Rattle.listing_rules.specs.Lists.{every, joined}
use Rattle.listing_rules.specs.Tokens.{got, after, with_first, run}
use Rattle.listing_rules.specs.Command.{is_some}
use Rattle.listing_rules.specs.Server.{refusal}
use Rattle.listing_rules.specs.Lines.{ok_line}
use Rattle.conversation.specs.Texts.{ok_word, no_word, bad_word, done_text, closing, untagged, capability_text, id_text, bye_text, cannot_text}
use Rattle.conversation.specs.Texts.{alone_text, no_login_text, no_authenticate_text, login_needs_text, id_needs_text, number_text, meanings, meaning}
use Rattle.conversation.specs.Texts.{status_of, refusal_text, refusal_line}
use Rattle.conversation.specs.Conversation.{Started, Own, goes_on, done, alone, identified, logged_in}
use Rattle.conversation.specs.Conversation.{authenticated, own_answer}
use Rattle.conversation.specs.Closing.{printable, is_status, first_word, own_word, Closes}
use Rattle.conversation.proofs.TalkKeys.{open_texts}
use Rattle.conversation.proofs.ReplyLaws.{ok_closes}

-- ---- lines of the server's own

-- a closing line alone, whatever the word; and one after an untagged line with the word
one_line : (tag word status remark : List ℕ) → is_status status ≡ true → all printable remark ≡ true → Closes tag word (closing tag status remark)
one_line tag word status remark s p =
    record {
      bodies = [];
      status = status;
      remark = remark;
      is = unfold joined in refl;
      begin = unfold every in refl;
      bodies_plain = unfold every in refl;
      remark_plain = p;
      status_known = s;
    }

two_lines : (tag word body : List ℕ) → same (first_word body) word ≡ true → all printable body ≡ true → Closes tag word (done tag body)
unfolding done
two_lines tag word body b p =
    record {
      bodies = body ∷ [];
      status = ok_word;
      remark = done_text;
      is = ap (λ (x : List ℕ). untagged body ++ x) (ok_closes tag) ∙ ap (λ (x : List ℕ). x ++ closing tag ok_word done_text) one;
      begin = unfold every in rw b;
      bodies_plain = unfold every in rw p;
      remark_plain = unfold open_texts open_bytes printable in refl;
      status_known = unfold is_status open_texts open_bytes in refl;
    }
  where
    one : untagged body ≡ joined (untagged body ∷ [])
    one = unfold joined in sym (append-nil (untagged body))

bad_status : is_status bad_word ≡ true
bad_status = unfold is_status open_texts open_bytes in refl

no_status : is_status no_word ≡ true
no_status = unfold is_status open_texts open_bytes in refl

ok_alone : (tag word : List ℕ) → Closes tag word (ok_line tag)
ok_alone tag word = subst (λ (x : List ℕ). Closes tag word x) (sym (ok_closes tag)) (one_line tag word ok_word done_text status plain)
  where
    status : is_status ok_word ≡ true
    status = unfold is_status open_texts open_bytes in refl

    plain : all printable done_text ≡ true
    plain = unfold open_texts open_bytes printable in refl

alone_closes : (w : Started) (word : List ℕ) (o : Own) → Closes w.tag word o.lines → Closes w.tag word (alone w o).lines
unfolding alone goes_on
alone_closes w word o c = go (is_empty w.rest)
  where
    plain : all printable alone_text ≡ true
    plain = unfold open_texts open_bytes printable in refl

    go : (b : Bool) → Closes w.tag word (cond b o (goes_on (closing w.tag bad_word alone_text))).lines
    go true = c
    go false = one_line w.tag word bad_word alone_text bad_status plain

identified_closes : (w : Started) → Closes w.tag (text "ID") (identified w).lines
unfolding identified goes_on
identified_closes w = go (is_some (after (text " (") w.rest) || spells w.rest (text " NIL"))
  where
    begins : same (first_word id_text) (text "ID") ≡ true
    begins = unfold open_texts open_bytes first_word run with_first got in refl

    plain : all printable id_text ≡ true
    plain = unfold open_texts open_bytes printable in refl

    bad_plain : all printable id_needs_text ≡ true
    bad_plain = unfold open_texts open_bytes printable in refl

    go : (b : Bool) → Closes w.tag (text "ID") (cond b (goes_on (done w.tag id_text)) (goes_on (closing w.tag bad_word id_needs_text))).lines
    go true = two_lines w.tag (text "ID") id_text begins plain
    go false = one_line w.tag (text "ID") bad_word id_needs_text bad_status bad_plain

login_closes : (accepts : Bool) (w : Started) → Closes w.tag [] (logged_in accepts w).lines
unfolding logged_in goes_on
login_closes false w = one_line w.tag [] no_word no_login_text no_status plain
  where
    plain : all printable no_login_text ≡ true
    plain = unfold open_texts open_bytes printable in refl
login_closes true w = go (is_empty w.rest)
  where
    plain : all printable login_needs_text ≡ true
    plain = unfold open_texts open_bytes printable in refl

    go : (b : Bool) → Closes w.tag [] (cond b (goes_on (closing w.tag bad_word login_needs_text)) (goes_on (ok_line w.tag))).lines
    go true = one_line w.tag [] bad_word login_needs_text bad_status plain
    go false = ok_alone w.tag []

authenticate_closes : (accepts : Bool) (w : Started) → Closes w.tag [] (authenticated accepts w).lines
unfolding authenticated goes_on
authenticate_closes accepts w = one_line w.tag [] no_word (cond accepts no_authenticate_text no_login_text) no_status (go accepts)
  where
    yes_plain : all printable no_authenticate_text ≡ true
    yes_plain = unfold open_texts open_bytes printable in refl

    no_plain : all printable no_login_text ≡ true
    no_plain = unfold open_texts open_bytes printable in refl

    go : (b : Bool) → all printable (cond b no_authenticate_text no_login_text) ≡ true
    go true = yes_plain
    go false = no_plain

module _ (accepts : Bool) (w : Started) where
  other : Own
  other = goes_on (closing w.tag no_word cannot_text)

  other_closes : Closes w.tag [] other.lines
  unfolding other goes_on
  other_closes = one_line w.tag [] no_word cannot_text no_status plain
    where
      plain : all printable cannot_text ≡ true
      plain = unfold open_texts open_bytes printable in refl

  -- the words that begin no untagged line
  lastly : Bool → Bool → Own
  lastly b₅ b₆ = cond b₅ (logged_in accepts w) (cond b₆ (authenticated accepts w) other)

  lastly_closes : (b₅ b₆ : Bool) → Closes w.tag [] (lastly b₅ b₆).lines
  unfolding lastly
  lastly_closes true b₆ = login_closes accepts w
  lastly_closes false true = authenticate_closes accepts w
  lastly_closes false false = other_closes

  -- Each answer of the server's own closes with the tag of its line, and its untagged lines begin with its word.
  pub own_closes : Closes w.tag (own_word (some w)) (own_answer accepts w).lines
  unfolding own_answer own_word goes_on lastly other
  own_closes =
      go (spells w.word (text "CAPABILITY")) (spells w.word (text "NOOP")) (spells w.word (text "LOGOUT")) (spells w.word (text "ID"))
      (spells w.word (text "LOGIN"))
      (spells w.word (text "AUTHENTICATE"))
    where
      bye : Own
      bye = record { lines = done w.tag bye_text; ends = true }

      promises : same (first_word capability_text) (text "CAPABILITY") ≡ true
      promises = unfold open_texts open_bytes first_word run with_first got in refl

      promises_plain : all printable capability_text ≡ true
      promises_plain = unfold open_texts open_bytes printable in refl

      byes : same (first_word bye_text) (text "BYE") ≡ true
      byes = unfold open_texts open_bytes first_word run with_first got in refl

      byes_plain : all printable bye_text ≡ true
      byes_plain = unfold open_texts open_bytes printable in refl

      go : (b₁ b₂ b₃ b₄ b₅ b₆ : Bool)
          → Closes w.tag (cond b₁ (text "CAPABILITY") (cond b₃ (text "BYE") (cond b₄ (text "ID") [])))
          (cond b₁ (alone w (goes_on (done w.tag capability_text))) (cond b₂ (alone w (goes_on (ok_line w.tag))) (cond b₃ (alone w bye)
          (cond b₄ (identified w) (lastly b₅ b₆))))
          ).lines
      go true b₂ b₃ b₄ b₅ b₆ =
          alone_closes w (text "CAPABILITY") (goes_on (done w.tag capability_text))
          (two_lines w.tag (text "CAPABILITY") capability_text promises promises_plain)
      go false true b₃ b₄ b₅ b₆ = alone_closes w _ (goes_on (ok_line w.tag)) (ok_alone w.tag _)
      go false false true b₄ b₅ b₆ = alone_closes w (text "BYE") bye (two_lines w.tag (text "BYE") bye_text byes byes_plain)
      go false false false true b₅ b₆ = identified_closes w
      go false false false false b₅ b₆ = lastly_closes b₅ b₆

-- ---- refusals

digit_plain : (n : ℕ) → printable (48 + n % 10) ≡ true
unfolding printable within
digit_plain n =
    let h : n % 10 < 10 = mod-lt n (omega arith) in
    and_i (leb 0x20 (48 + n % 10)) (leb (48 + n % 10) 0x7E) (le-leb 0x20 (48 + n % 10) (omega arith)) (le-leb (48 + n % 10) 0x7E (omega (arith, h)))

number_plain : (k : ℕ) → all printable (number_text k) ≡ true
unfolding number_text all
number_plain k = go (leb 10 k)
  where
    go : (b : Bool) → all printable (cond b ((48 + k / 10 % 10) ∷ (48 + k % 10) ∷ []) ((48 + k % 10) ∷ [])) ≡ true
    go true = rw (digit_plain (k / 10), digit_plain k)
    go false = rw (digit_plain k)

get_or_plain : (ns : List (List ℕ)) (k : ℕ) → every (all printable) ns ≡ true → all printable (get_or ns k []) ≡ true
unfolding every
get_or_plain [] k h = unfold all in refl
get_or_plain (n ∷ ns) zero h = and_l (all printable n) (every (all printable) ns) h
get_or_plain (n ∷ ns) (suc k) h = get_or_plain ns k (and_r (all printable n) (every (all printable) ns) h)

-- A refusal is one line, whatever the word.
pub refusal_line_lem : (tag word : List ℕ) (k : ℕ) → Closes tag word (refusal_line tag k)
unfolding refusal_line refusal_text meaning status_of
refusal_line_lem tag word k = one_line tag word (status_of k) (refusal_text k) (status (within 3 8 k)) plain
  where
    status : (b : Bool) → is_status (cond b bad_word no_word) ≡ true
    status true = bad_status
    status false = no_status

    front : all printable (text "[refusal ") ≡ true
    front = unfold open_bytes printable in refl

    gap : all printable (text "] ") ≡ true
    gap = unfold open_bytes printable in refl

    meanings_plain : every (all printable) meanings ≡ true
    meanings_plain = unfold meanings open_lists open_bytes printable in refl

    plain : all printable (refusal_text k) ≡ true
    plain =
        all_append printable (text "[refusal ") _ front (all_append printable (number_text k) _ (number_plain k)
        (all_append printable (text "] ") (meaning k) gap
        (get_or_plain meanings (k - 1) meanings_plain)))

-- It has no untagged line.
pub refusal_alone : (tag : List ℕ) (k : ℕ) → (c : Closes tag [] (refusal_line tag k)) × (c.bodies ≡ [])
refusal_alone tag k = (refusal_line_lem tag [] k, unfold refusal_line_lem one_line in refl)
