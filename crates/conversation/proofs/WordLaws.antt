-- No LIST line stands outside the answer to a LIST. Rests on LineLaws.
use Rattle.listing_rules.proofs.Prelude.{◌∙◌, ◌≡◌, ap, refl, sym, Bool, ◌||◌, cond, false, true, not, Option, none, some, List, [], ◌++◌, ◌∷◌}
use Rattle.listing_rules.proofs.Prelude.{map, ℕ, eqb, false≢true, ◌⊎◌, ⊎_elim, eqb-true}
use Rattle.listing_rules.proofs.Keys.{open_bytes, open_tokens}
use Rattle.listing_rules.proofs.Bools.{and_l, and_r, or_cases}
use Rattle.listing_rules.proofs.ListLaws.{same_true, same_refl}
use Rattle.listing_rules.specs.Bytes.{text, all, same, is_empty, crlf, spells}
use Rattle.listing_rules.specs.Lists.{every, any_of, on_first}
use Rattle.listing_rules.specs.Tokens.{got, with_first, run, after, tag_byte}
use Rattle.listing_rules.specs.Walk.{lines_of}
use Rattle.listing_rules.specs.Command.{Parsed, refused, namespace, listing, root_of, subscriptions, editing, parsed}
use Rattle.listing_rules.specs.Feeder.{Event, quiet, handed, go_on, denied, go_on_line}
use Rattle.listing_rules.specs.Summary.{Summed}
use Rattle.conversation.specs.Texts.{no_tag, ok_word, no_word, bad_word, closing, untagged, refusal_line}
use Rattle.conversation.specs.Conversation.{Setting, tag_of, Started, started, says, decided, replied, reply_to}
use Rattle.conversation.specs.Closing.{is_status, first_word, own_word, word_for, untagged_word, Closes, Answers, list_body, is_list_line, is_listing, asks_list}
use Rattle.conversation.proofs.TalkKeys.{open_texts}
use Rattle.conversation.proofs.TagLaws.{tag_cases, tag_plain}
use Rattle.conversation.proofs.ClosingLaws.{command_closes, reply_answers}
use Rattle.conversation.proofs.LineLaws.{closes_lines}

-- a byte that is not CR
abbrev not_cr : ℕ → Bool
not_cr b = not (eqb b 13)

abbrev not_space : ℕ → Bool
not_space b = not (eqb b 32)

-- the first word of a line without CR in it is that of the line's body
word_before_cr : (b : List ℕ) → all not_cr (run not_space (b ++ (13 ∷ 10 ∷ []))).val ≡ true →
    (run not_space (b ++ (13 ∷ 10 ∷ []))).val ≡ (run not_space b).val
unfolding run with_first got all
word_before_cr [] h = absurd (false≢true h)
word_before_cr (c ∷ b) h = go (not_space c) h (word_before_cr b)
  where
    line : List ℕ
    line = b ++ (13 ∷ 10 ∷ [])

    go : (o : Bool) → all not_cr (cond o (with_first c (run not_space line)) (got [] (c ∷ line))).val ≡ true
        → (all not_cr (run not_space line).val ≡ true → (run not_space line).val ≡ (run not_space b).val)
        → (cond o (with_first c (run not_space line)) (got [] (c ∷ line))).val ≡ (cond o (with_first c (run not_space b)) (got [] (c ∷ b))).val
    go true q ih = ap (λ (v : List ℕ). c ∷ v) (ih (and_r (not_cr c) (all not_cr (run not_space line).val) q))
    go false q ih = refl

-- an untagged LIST line has a body with the word LIST
body_word : (b : List ℕ) → is_list_line (untagged b) ≡ true → first_word b ≡ text "LIST"
unfolding is_list_line list_body untagged no_tag first_word open_bytes after
body_word b h =
    let e = same_true (run not_space (b ++ (13 ∷ 10 ∷ []))).val (text "LIST") h in
    sym (word_before_cr b (ap (all not_cr) e)) ∙ e

-- a closing line is no LIST line
status_word : (status rest : List ℕ) → is_status status ≡ true → same (first_word (status ++ (32 ∷ rest))) (text "LIST") ≡ false
unfolding is_status
status_word status rest h =
    ⊎_elim (λ q. ⊎_elim (λ e. as_one ok_word e ok) (λ e. as_one no_word e refused_one) (or_cases (same status ok_word) (same status no_word) q))
    (λ e. as_one bad_word e bad)
    (or_cases (same status ok_word || same status no_word) (same status bad_word) h)
  where
    ok : same (first_word (ok_word ++ (32 ∷ rest))) (text "LIST") ≡ false
    ok = unfold open_texts first_word run with_first got open_bytes in refl

    refused_one : same (first_word (no_word ++ (32 ∷ rest))) (text "LIST") ≡ false
    refused_one = unfold open_texts first_word run with_first got open_bytes in refl

    bad : same (first_word (bad_word ++ (32 ∷ rest))) (text "LIST") ≡ false
    bad = unfold open_texts first_word run with_first got open_bytes in refl

    as_one : (word : List ℕ) → same status word ≡ true → same (first_word (word ++ (32 ∷ rest))) (text "LIST") ≡ false
        → same (first_word (status ++ (32 ∷ rest))) (text "LIST") ≡ false
    as_one word e k = ap (λ (x : List ℕ). same (first_word (x ++ (32 ∷ rest))) (text "LIST")) (same_true status word e) ∙ k

star_no_tag : tag_byte 42 ≡ false
star_no_tag = unfold open_tokens open_bytes in refl

tagged_not : (tag rest : List ℕ) → all tag_byte tag ≡ true → is_empty tag ≡ false → is_list_line (tag ++ rest) ≡ false
unfolding all is_empty
tagged_not [] rest h e = absurd (false≢true (sym e))
tagged_not (b ∷ tag) rest h e = go (eqb 42 b) refl
  where
    go : (o : Bool) → eqb 42 b ≡ o → is_list_line (b ∷ (tag ++ rest)) ≡ false
    go true q = absurd (false≢true (sym star_no_tag ∙ ap tag_byte (eqb-true 42 b q) ∙ and_l (tag_byte b) (all tag_byte tag) h))
    go false q = unfold is_list_line list_body after text in ap (λ (o : Bool). list_body (cond o (after (32 ∷ []) (tag ++ rest)) none)) q

closing_not : (l status remark : List ℕ) → is_status status ≡ true → is_list_line (closing (tag_of l) status remark) ≡ false
unfolding closing
closing_not l status remark h = ⊎_elim star (λ q. tagged_not (tag_of l) _ q.0 q.1) (tag_cases l)
  where
    star : tag_of l ≡ no_tag → is_list_line (tag_of l ++ (32 ∷ (status ++ (32 ∷ (remark ++ crlf))))) ≡ false
    star e = ap (λ (t : List ℕ). is_list_line (t ++ (32 ∷ (status ++ (32 ∷ (remark ++ crlf)))))) e ∙ starred
      where
        starred : is_list_line (no_tag ++ (32 ∷ (status ++ (32 ∷ (remark ++ crlf))))) ≡ false
        starred = unfold is_list_line list_body no_tag after text in status_word status (remark ++ crlf) h

-- a LIST line among the lines of a reply is one of its bodies, and all of them have the word LIST
module _ (word z : List ℕ) (last : is_list_line z ≡ false) where
  among : (bs : List (List ℕ)) → every (λ b. same (first_word b) word) bs ≡ true → any_of is_list_line (map untagged bs ++ (z ∷ [])) ≡ true →
      word ≡ text "LIST"
  unfolding every any_of
  among [] h q = absurd (false≢true (sym (rw last) ∙ q))
  among (b ∷ bs) h q =
      ⊎_elim (λ e. sym (same_true (first_word b) word (and_l (same (first_word b) word) _ h)) ∙ body_word b e)
      (among bs (and_r (same (first_word b) word) _ h))
      (or_cases (is_list_line (untagged b)) (any_of is_list_line (map untagged bs ++ (z ∷ []))) q)

-- a command whose untagged lines have the word LIST is a LIST
listing_word : (o : Option Started) (p : Parsed) → same (word_for o p) (text "LIST") ≡ true → is_listing p ≡ true
unfolding word_for is_listing
listing_word o (listing tag options ps) h = refl
listing_word o (root_of tag) h = refl
listing_word o (subscriptions tag ps) h = unfold open_bytes in absurd (false≢true h)
listing_word o (namespace tag) h = unfold open_bytes in absurd (false≢true h)
listing_word o (editing tag e) h = unfold open_bytes in absurd (false≢true h)
listing_word none (refused k) h = unfold own_word open_bytes in absurd (false≢true h)
listing_word (some w) (refused k) h =
    unfold own_word in absurd (false≢true (sym (own (spells w.word (text "CAPABILITY")) (spells w.word (text "LOGOUT"))
    (spells w.word (text "ID"))) ∙ h))
  where
    own : (a b c : Bool) → same (cond a (text "CAPABILITY") (cond b (text "BYE") (cond c (text "ID") []))) (text "LIST") ≡ false
    own true b c = unfold open_bytes in refl
    own false true c = unfold open_bytes in refl
    own false false true = unfold open_bytes in refl
    own false false false = unfold open_bytes in refl

-- No untagged LIST line stands outside the answer to a LIST: a reply that has one answers a LIST.
pub no_stray_list : (w : Setting) (m : Summed) (kept : List ℕ) (e : Event) → any_of is_list_line (lines_of (reply_to w m kept e).bytes) ≡ true →
    asks_list e ≡ true
unfolding reply_to says asks_list
no_stray_list w m kept quiet h = unfold lines_of any_of in absurd (false≢true h)
no_stray_list w m kept go_on h = unfold go_on_line lines_of on_first any_of is_list_line list_body after open_bytes in absurd (false≢true h)
no_stray_list w m kept (denied k) h = absurd (false≢true (sym alone ∙ h))
  where
    answer : (c : Closes (tag_of kept) [] (refusal_line (tag_of kept) k)) × (c.bodies ≡ [])
    answer = unfold Answers reply_to says in reply_answers w m kept (denied k)

    c : Closes (tag_of kept) [] (refusal_line (tag_of kept) k)
    c = answer.0

    z : List ℕ
    z = closing (tag_of kept) c.status c.remark

    one : any_of is_list_line (z ∷ []) ≡ false
    one = unfold any_of in rw (closing_not kept c.status c.remark c.status_known)

    alone : any_of is_list_line (lines_of (refusal_line (tag_of kept) k)) ≡ false
    alone =
        ap (any_of is_list_line) (closes_lines (tag_of kept) [] (refusal_line (tag_of kept) k) (tag_plain kept) c)
        ∙ ap (λ (bs : List (List ℕ)). any_of is_list_line (map untagged bs ++ (z ∷ []))) answer.1
        ∙ one
no_stray_list w m kept (handed l) h = listing_word (started l) (parsed l)
    (word_is (among (untagged_word l) (closing (tag_of l) c.status c.remark) last c.bodies c.begin lines_have))
  where
    c : Closes (tag_of l) (untagged_word l) (replied w l (decided w m l)).bytes
    c = command_closes l w m

    last : is_list_line (closing (tag_of l) c.status c.remark) ≡ false
    last = closing_not l c.status c.remark c.status_known

    lines_have : any_of is_list_line (map untagged c.bodies ++ (closing (tag_of l) c.status c.remark ∷ [])) ≡ true
    lines_have = sym (ap (any_of is_list_line) (closes_lines (tag_of l) (untagged_word l) (replied w l (decided w m l)).bytes (tag_plain l) c)) ∙ h

    word_is : untagged_word l ≡ text "LIST" → same (word_for (started l) (parsed l)) (text "LIST") ≡ true
    word_is e = unfold untagged_word in (ap (λ (x : List ℕ). same x (text "LIST")) e ∙ same_refl (text "LIST"))
