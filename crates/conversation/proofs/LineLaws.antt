-- The lines of a reply, cut at each LF: untagged ones, and one with the tag, the last. Rests on ClosingLaws and TagLaws.
use Rattle.listing_rules.proofs.Prelude.{◌∙◌, ◌≡◌, ap, refl, sym, ◌||◌, true, not, List, [], ◌++◌}
use Rattle.listing_rules.proofs.Prelude.{◌∷◌, append_assoc, map, ℕ, ◌+◌, eqb, leb}
use Rattle.listing_rules.proofs.Prelude.{arith, ◌⊎◌, ⊎_elim, ne_eqb, leb-true, not-true}
use Rattle.listing_rules.proofs.Keys.{open_bytes}
use Rattle.listing_rules.proofs.Bools.{and_l, and_r, and_i, or_cases}
use Rattle.listing_rules.proofs.AnswerLines.{not_lf, lines_joined}
use Rattle.listing_rules.specs.Walk.{lines_of}
use Rattle.listing_rules.proofs.ListLaws.{all_append, all_imp, same_true}
use Rattle.listing_rules.specs.Bytes.{within, all, same}
use Rattle.listing_rules.specs.Lists.{every, on_first}
use Rattle.listing_rules.specs.Summary.{Summed}
use Rattle.conversation.specs.Texts.{no_tag, ok_word, no_word, bad_word, closing, untagged}
use Rattle.conversation.specs.Conversation.{Setting, tag_of}
use Rattle.conversation.specs.Conversation.{decided, replied}
use Rattle.conversation.specs.Closing.{printable, is_status, untagged_word, Closes}
use Rattle.conversation.proofs.TalkKeys.{open_texts}
use Rattle.conversation.proofs.TagLaws.{tag_plain}
use Rattle.conversation.proofs.ClosingLaws.{command_closes}

plain_not_lf : (b : ℕ) → printable b ≡ true → not_lf b ≡ true
unfolding printable within
plain_not_lf b h = ap not (ne_eqb b 10 (λ e. omega (arith, leb-true 0x20 b (and_l (leb 0x20 b) (leb b 0x7E) h))))

-- a line before its LF
line_of : List ℕ → List ℕ
line_of body = no_tag ++ (32 ∷ (body ++ (13 ∷ [])))

line_of_lem : (body : List ℕ) → untagged body ≡ line_of body ++ (10 ∷ [])
unfolding line_of untagged open_texts open_bytes
line_of_lem body = simp append_assoc

line_not_lf : (body : List ℕ) → all printable body ≡ true → all not_lf (line_of body) ≡ true
unfolding line_of open_texts open_bytes
line_not_lf body h = all_append not_lf body (13 ∷ []) (all_imp printable not_lf plain_not_lf body h) refl

line_split : (y t : List ℕ) → all not_lf y ≡ true → lines_of (y ++ (10 ∷ t)) ≡ (y ++ (10 ∷ [])) ∷ lines_of t
unfolding lines_of on_first all
line_split [] t h = refl
line_split (b ∷ y) t h = rw (not-true (eqb b 10) (and_l (not_lf b) (all not_lf y) h), line_split y t (and_r (not_lf b) (all not_lf y) h))

status_not_lf : (status : List ℕ) → is_status status ≡ true → all not_lf status ≡ true
unfolding is_status
status_not_lf status h =
    ⊎_elim (λ q. ⊎_elim (λ e. as_one ok_word e ok) (λ e. as_one no_word e no) (or_cases (same status ok_word) (same status no_word) q))
    (λ e. as_one bad_word e bad)
    (or_cases (same status ok_word || same status no_word) (same status bad_word) h)
  where
    ok : all not_lf ok_word ≡ true
    ok = unfold open_texts open_bytes in refl

    no : all not_lf no_word ≡ true
    no = unfold open_texts open_bytes in refl

    bad : all not_lf bad_word ≡ true
    bad = unfold open_texts open_bytes in refl

    as_one : (word : List ℕ) → same status word ≡ true → all not_lf word ≡ true → all not_lf status ≡ true
    as_one word e k = ap (all not_lf) (same_true status word e) ∙ k

closing_line : (tag status remark : List ℕ) → all printable tag ≡ true → is_status status ≡ true → all printable remark ≡ true
    → lines_of (closing tag status remark) ≡ closing tag status remark ∷ []
closing_line tag status remark t s p = ap lines_of is ∙ line_split body [] not_lf_all ∙ nothing ∙ ap (λ (x : List ℕ). x ∷ []) (sym is)
  where
    body : List ℕ
    body = tag ++ (32 ∷ (status ++ (32 ∷ (remark ++ (13 ∷ [])))))

    is : closing tag status remark ≡ body ++ (10 ∷ [])
    is = unfold closing open_bytes in simp append_assoc

    nothing : (body ++ (10 ∷ [])) ∷ lines_of [] ≡ (body ++ (10 ∷ [])) ∷ []
    nothing = unfold lines_of in refl

    remark_not_lf : all not_lf (remark ++ (13 ∷ [])) ≡ true
    remark_not_lf = unfold all in all_append not_lf remark (13 ∷ []) (all_imp printable not_lf plain_not_lf remark p) refl

    not_lf_all : all not_lf body ≡ true
    not_lf_all = unfold all in
        all_append not_lf tag _ (all_imp printable not_lf plain_not_lf tag t)
        (all_append not_lf status _ (status_not_lf status s) remark_not_lf)

every_not_lf : (bodies : List (List ℕ)) → every (all printable) bodies ≡ true → every (λ b. all not_lf (line_of b)) bodies ≡ true
unfolding every
every_not_lf [] h = refl
every_not_lf (b ∷ bs) h =
    and_i (all not_lf (line_of b)) (every (λ b. all not_lf (line_of b)) bs) (line_not_lf b (and_l (all printable b) (every (all printable) bs) h))
    (every_not_lf bs (and_r (all printable b) (every (all printable) bs) h))

-- The lines of a reply, cut at each LF: untagged ones, and the closing one at the end.
pub closes_lines : (tag word a : List ℕ) → all printable tag ≡ true → (c : Closes tag word a) →
    lines_of a ≡ map untagged c.bodies ++ (closing tag c.status c.remark ∷ [])
closes_lines tag word a t c =
    ap lines_of c.is
    ∙ lines_joined untagged line_of line_of_lem c.bodies (closing tag c.status c.remark) (every_not_lf c.bodies c.bodies_plain)
    ∙ ap (λ (x : List (List ℕ)). map untagged c.bodies ++ x) (closing_line tag c.status c.remark t c.status_known c.remark_plain)

-- The reply to a command: its lines, of which the last alone has the tag.
pub command_lines : (w : Setting) (s : Summed) (l : List ℕ) →
    lines_of (replied w l (decided w s l)).bytes ≡ map untagged (command_closes l w s).bodies
    ++ (closing (tag_of l) (command_closes l w s).status (command_closes l w s).remark ∷ [])
command_lines w s l = closes_lines (tag_of l) (untagged_word l) (replied w l (decided w s l)).bytes (tag_plain l) (command_closes l w s)
