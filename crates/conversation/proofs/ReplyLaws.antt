-- Each answer of the library is untagged lines with the word of the command, and one closing line with its tag. Rests on TagLaws.
use Rattle.listing_rules.proofs.Prelude.{◌∙◌, ◌≡◌, ap, refl, sym, subst, Bool, ◌&&◌, ◌||◌, cond, false, true, not, List, [], ◌++◌}
use Rattle.listing_rules.proofs.Prelude.{◌∷◌, append_assoc, map, ℕ, eqb, leb, length, list_mem, list_mem_head}
use Rattle.listing_rules.proofs.Prelude.{list_mem_tail, le-leb, leb-true, arith, false≢true}
use Rattle.listing_rules.proofs.Keys.{open_bytes, open_lines, open_lists, open_options}
use Rattle.listing_rules.proofs.Bools.{and_l, and_r, and_i}
use Rattle.listing_rules.proofs.ListLaws.{all_append, all_imp, every_mem, mem_every, keep_mem}
use Rattle.listing_rules.proofs.TokenLaws.{all_escaped}
use Rattle.listing_rules.proofs.LawfulNames.{good_parts}
use Rattle.listing_rules.proofs.Passes.{candidate_good}
use Rattle.listing_rules.specs.Bytes.{text, crlf, within, all, same, quote}
use Rattle.listing_rules.specs.Lists.{every, keep, joined}
use Rattle.listing_rules.specs.Names.{name_byte}
use Rattle.listing_rules.specs.Table.{Table, rows, passes}
use Rattle.listing_rules.specs.Namespaces.{Entry, entries, entries_fill, lawful_entry, classes_rise, of_class, namespaces_pass}
use Rattle.listing_rules.specs.Tokens.{got, with_first, run}
use Rattle.listing_rules.specs.Options.{Options, Criteria, no_criteria}
use Rattle.listing_rules.specs.Command.{Parsed, refused, namespace}
use Rattle.listing_rules.specs.Command.{listing, root_of, subscriptions, editing, parsed}
use Rattle.listing_rules.specs.Listing.{candidates, listed, listed_names, attributes, child_info}
use Rattle.listing_rules.specs.Lines.{attribute_names, chosen, spaced, spaced_tail, escaped, quoted, child_info_text, word_line, list_line, root_line}
use Rattle.listing_rules.specs.Lines.{ok_line}
use Rattle.listing_rules.specs.Lsub.{lsub_listed, lsub_names, lsub_line, lsub_attributes, is_subscribed}
use Rattle.listing_rules.specs.Server.{Reply, refusal, answered, line_of, list_answer, lsub_answer, namespace_answer, delimiter_text, entry_text, class_text}
use Rattle.listing_rules.specs.Server.{answer_to, answer}
use Rattle.conversation.specs.Texts.{no_tag, ok_word, done_text, closing, untagged}
use Rattle.conversation.specs.Conversation.{tag_of, started}
use Rattle.conversation.specs.Closing.{printable, is_status, first_word, word_for, untagged_word, Closes}
use Rattle.conversation.proofs.TagLaws.{Tagged, parsed_tag}

-- ---- plain text

name_plain : (b : ℕ) → name_byte b ≡ true → printable b ≡ true
unfolding name_byte printable
name_plain b h = and_l (within 0x20 0x7E b) _ (and_l (within 0x20 0x7E b && not (eqb b 37)) (not (eqb b 42)) h)

module _ (p : List ℕ → Bool) where
  every_chosen : (bs : List Bool) (ns : List (List ℕ)) → every p ns ≡ true → every p (chosen bs ns) ≡ true
  unfolding every chosen
  every_chosen [] ns h = refl
  every_chosen (b ∷ bs) [] h = refl
  every_chosen (true ∷ bs) (n ∷ ns) h = and_i (p n) (every p (chosen bs ns)) (and_l (p n) (every p ns) h)
      (every_chosen bs ns (and_r (p n) (every p ns) h))
  every_chosen (false ∷ bs) (n ∷ ns) h = every_chosen bs ns (and_r (p n) (every p ns) h)

spaced_tail_plain : (ns : List (List ℕ)) → every (all printable) ns ≡ true → all printable (spaced_tail ns) ≡ true
unfolding every spaced_tail printable open_bytes
spaced_tail_plain [] h = refl
spaced_tail_plain (n ∷ ns) h =
    all_append printable n (spaced_tail ns) (and_l (all printable n) (every (all printable) ns) h)
    (spaced_tail_plain ns (and_r (all printable n) (every (all printable) ns) h))

spaced_plain : (ns : List (List ℕ)) → every (all printable) ns ≡ true → all printable (spaced ns) ≡ true
unfolding every spaced all
spaced_plain [] h = refl
spaced_plain (n ∷ ns) h =
    all_append printable n (spaced_tail ns) (and_l (all printable n) (every (all printable) ns) h)
    (spaced_tail_plain ns (and_r (all printable n) (every (all printable) ns) h))

quoted_plain : (n : List ℕ) → all printable n ≡ true → all printable (quoted n) ≡ true
unfolding quoted printable open_bytes
quoted_plain n h = all_append printable (escaped n) (quote ∷ []) (all_escaped printable refl n h) refl

-- the body of a LIST or LSUB line, from its word on
word_body : List ℕ → List Bool → List ℕ → Criteria → List ℕ
word_body word bs n c = word ++ (spaced (chosen bs attribute_names) ++ (text ") \"/\" " ++ (quoted n ++ child_info_text c)))

body_plain : (word : List ℕ) (bs : List Bool) (n : List ℕ) (c : Criteria) → all printable word ≡ true → all printable n ≡ true →
    all printable (word_body word bs n c) ≡ true
unfolding word_body
body_plain word bs n c w h =
    all_append printable word _ w (all_append printable (spaced (chosen bs attribute_names)) _
    (spaced_plain (chosen bs attribute_names) (every_chosen (all printable) bs attribute_names attributes_plain))
    (all_append printable (text ") \"/\" ") _ middle (all_append printable (quoted n) (child_info_text c) (quoted_plain n h)
    (child c.subscribed c.special))))
  where
    attributes_plain : every (all printable) attribute_names ≡ true
    attributes_plain = unfold open_lines open_lists open_bytes printable in refl

    middle : all printable (text ") \"/\" ") ≡ true
    middle = unfold open_bytes printable in refl

    child : (a b : Bool) → all printable (child_info_text (record { subscribed = a; special = b })) ≡ true
    child true true = unfold open_lines open_lists open_bytes open_options printable in refl
    child true false = unfold open_lines open_lists open_bytes open_options printable in refl
    child false true = unfold open_lines open_lists open_bytes open_options printable in refl
    child false false = unfold open_lines open_lists open_bytes open_options printable in refl

list_line_is : (bs : List Bool) (n : List ℕ) (c : Criteria) → list_line bs n c ≡ untagged (word_body (text "LIST (") bs n c)
unfolding word_body list_line word_line untagged no_tag open_bytes
list_line_is bs n c = simp append_assoc

lsub_line_is : (bs : List Bool) (n : List ℕ) (c : Criteria) → word_line (text "* LSUB (") bs n c ≡ untagged (word_body (text "LSUB (") bs n c)
unfolding word_body word_line untagged no_tag open_bytes
lsub_line_is bs n c = simp append_assoc

-- Document 01's line of OK is a closing line.
pub ok_closes : (tag : List ℕ) → ok_line tag ≡ closing tag ok_word done_text
unfolding ok_line closing ok_word done_text open_bytes
ok_closes tag = refl

-- ---- the library's answers

-- the bodies begin with the word
abbrev Begin : List ℕ → List (List ℕ) → Type 0
Begin word bodies = every (λ b. same (first_word b) word) bodies ≡ true

-- an answer of OK after these bodies
ok_after : (tag word a : List ℕ) (bodies : List (List ℕ)) → Begin word bodies → every (all printable) bodies ≡ true
    → a ≡ joined (map untagged bodies) ++ ok_line tag → Closes tag word a
ok_after tag word a bodies b h e =
    record {
      bodies = bodies;
      status = ok_word;
      remark = done_text;
      is = e ∙ ap (λ (x : List ℕ). joined (map untagged bodies) ++ x) (ok_closes tag);
      begin = b;
      bodies_plain = h;
      remark_plain = unfold done_text open_bytes printable in refl;
      status_known = unfold is_status ok_word open_bytes in refl;
    }

bodies_begin : (word : List ℕ) (g : List ℕ → List ℕ) → ((n : List ℕ) → same (first_word (g n)) word ≡ true) → (ns : List (List ℕ)) →
    Begin word (map g ns)
unfolding every
bodies_begin word g h [] = refl
bodies_begin word g h (n ∷ ns) = rw (h n, bodies_begin word g h ns)

-- a body begins with its word, LIST or LSUB
list_begins : (bs : List Bool) (n : List ℕ) (c : Criteria) → same (first_word (word_body (text "LIST (") bs n c)) (text "LIST") ≡ true
unfolding word_body first_word run with_first got open_bytes
list_begins bs n c = refl

lsub_begins : (bs : List Bool) (n : List ℕ) (c : Criteria) → same (first_word (word_body (text "LSUB (") bs n c)) (text "LSUB") ≡ true
unfolding word_body first_word run with_first got open_bytes
lsub_begins bs n c = refl

lines_untagged : (f g : List ℕ → List ℕ) → ((n : List ℕ) → f n ≡ untagged (g n)) → (ns : List (List ℕ)) → map f ns ≡ map untagged (map g ns)
lines_untagged f g e [] = refl
lines_untagged f g e (n ∷ ns) = ap (λ (x : List ℕ). x ∷ map f ns) (e n) ∙ ap (λ (xs : List (List ℕ)). untagged (g n) ∷ xs) (lines_untagged f g e ns)

bodies_plain : (g : List ℕ → List ℕ) (ns : List (List ℕ)) → ((n : List ℕ) → list_mem n ns → all printable (g n) ≡ true) →
    every (all printable) (map g ns) ≡ true
unfolding every
bodies_plain g [] h = refl
bodies_plain g (n ∷ ns) h =
    and_i (all printable (g n)) (every (all printable) (map g ns)) (h n (list_mem_head refl)) (bodies_plain g ns (λ m i. h m (list_mem_tail i)))

module _ (t : Table) (ok : passes t ≡ true) where
  -- names among the candidates are plain
  kept_plain : (q : List ℕ → Bool) (n : List ℕ) → list_mem n (keep q (candidates (rows t))) → all printable n ≡ true
  kept_plain q n m = all_imp name_byte printable name_plain n (good_parts n (candidate_good t ok n (keep_mem q (candidates (rows t)) n m).0)).bytes

  list_closes : (tag : List ℕ) (o : Options) (ps : List (List ℕ)) → Closes tag (text "LIST") (list_answer (rows t) tag o ps)
  unfolding list_answer line_of listed_names
  list_closes tag o ps =
      ok_after tag (text "LIST") (list_answer (rows t) tag o ps) (map body ns)
      (bodies_begin (text "LIST") body (λ n. list_begins (attributes (rows t) o ps n) n (child_info (rows t) o n)) ns)
      (bodies_plain body ns
      (λ n m. body_plain (text "LIST (") (attributes (rows t) o ps n) n (child_info (rows t) o n) word (kept_plain (listed (rows t) o ps) n m)))
      (ap (λ (ls : List (List ℕ)). joined ls ++ ok_line tag)
      (lines_untagged (line_of (rows t) o ps) body (λ n. list_line_is (attributes (rows t) o ps n) n (child_info (rows t) o n)) ns))
    where
      ns : List (List ℕ)
      ns = listed_names (rows t) o ps

      body : List ℕ → List ℕ
      body n = word_body (text "LIST (") (attributes (rows t) o ps n) n (child_info (rows t) o n)

      word : all printable (text "LIST (") ≡ true
      word = unfold open_bytes printable in refl

  lsub_closes : (tag : List ℕ) (ps : List (List ℕ)) → Closes tag (text "LSUB") (lsub_answer (rows t) tag ps)
  unfolding lsub_answer lsub_line lsub_names
  lsub_closes tag ps =
      ok_after tag (text "LSUB") (lsub_answer (rows t) tag ps) (map body ns)
      (bodies_begin (text "LSUB") body (λ n. lsub_begins (lsub_attributes (not (is_subscribed (rows t) n))) n no_criteria) ns)
      (bodies_plain body ns
      (λ n m. body_plain (text "LSUB (") (lsub_attributes (not (is_subscribed (rows t) n))) n no_criteria word
      (kept_plain (lsub_listed (rows t) ps) n m)))
      (ap (λ (ls : List (List ℕ)). joined ls ++ ok_line tag)
      (lines_untagged (lsub_line (rows t)) body (λ n. lsub_line_is (lsub_attributes (not (is_subscribed (rows t) n))) n no_criteria) ns))
    where
      ns : List (List ℕ)
      ns = lsub_names (rows t) ps

      body : List ℕ → List ℕ
      body n = word_body (text "LSUB (") (lsub_attributes (not (is_subscribed (rows t) n))) n no_criteria

      word : all printable (text "LSUB (") ≡ true
      word = unfold open_bytes printable in refl

-- the namespace list
delimiter_plain : (e : Entry) → lawful_entry e ≡ true → all printable (delimiter_text e.delimiter) ≡ true
unfolding lawful_entry delimiter_text
delimiter_plain e h = go (eqb e.delimiter 0) (and_r (leb e.class 2 && leb (length e.prefix) 64 && all (within 0x20 0x7E) e.prefix) _ h)
  where
    nil : all printable (text "NIL") ≡ true
    nil = unfold open_bytes printable in refl

    graph : within 0x21 0x7E e.delimiter ≡ true → printable e.delimiter ≡ true
    graph q =
        let low = and_l (leb 0x21 e.delimiter) (leb e.delimiter 0x7E) (unfold within in q) in
        let high = and_r (leb 0x21 e.delimiter) (leb e.delimiter 0x7E) (unfold within in q) in
        unfold printable within in and_i (leb 0x20 e.delimiter) (leb e.delimiter 0x7E)
        (le-leb 0x20 e.delimiter (omega (arith, leb-true 0x21 e.delimiter low))) high

    go : (b : Bool) → (b || within 0x21 0x7E e.delimiter) ≡ true → all printable (cond b (text "NIL") (quoted (e.delimiter ∷ []))) ≡ true
    go true q = nil
    go false q = quoted_plain (e.delimiter ∷ []) (unfold all in rw (graph q))

entry_plain : (e : Entry) → lawful_entry e ≡ true → all printable (entry_text e) ≡ true
unfolding entry_text
entry_plain e h =
    all_append printable (text "(") _ left (all_append printable (quoted e.prefix) _ (quoted_plain e.prefix prefix)
    (all_append printable (text " ") _ gap
    (all_append printable (delimiter_text e.delimiter) (text ")") (delimiter_plain e h) shut)))
  where
    left : all printable (text "(") ≡ true
    left = unfold open_bytes printable in refl

    gap : all printable (text " ") ≡ true
    gap = unfold open_bytes printable in refl

    shut : all printable (text ")") ≡ true
    shut = unfold open_bytes printable in refl

    prefix : all printable e.prefix ≡ true
    prefix = unfold printable in
        and_r (leb e.class 2 && leb (length e.prefix) 64) (all (within 0x20 0x7E) e.prefix)
        (and_l (leb e.class 2 && leb (length e.prefix) 64 && all (within 0x20 0x7E) e.prefix)
        (eqb e.delimiter 0 || within 0x21 0x7E e.delimiter) (unfold lawful_entry in h))

joined_plain : (es : List Entry) → every lawful_entry es ≡ true → all printable (joined (map entry_text es)) ≡ true
unfolding every joined all
joined_plain [] h = refl
joined_plain (e ∷ es) h =
    all_append printable (entry_text e) (joined (map entry_text es)) (entry_plain e (and_l (lawful_entry e) (every lawful_entry es) h))
    (joined_plain es (and_r (lawful_entry e) (every lawful_entry es) h))

class_plain : (es : List Entry) → every lawful_entry es ≡ true → all printable (class_text es) ≡ true
unfolding class_text
class_plain [] h = unfold open_bytes printable in refl
class_plain (e ∷ es) h =
    all_append printable (text " (") _ left (all_append printable (joined (map entry_text (e ∷ es))) (text ")") (joined_plain (e ∷ es) h) right)
  where
    left : all printable (text " (") ≡ true
    left = unfold open_bytes printable in refl

    right : all printable (text ")") ≡ true
    right = unfold open_bytes printable in refl

keep_every : (p q : Entry → Bool) (es : List Entry) → every q es ≡ true → every q (keep p es) ≡ true
keep_every p q es h = mem_every q (keep p es) (λ z m. every_mem q es h z (keep_mem p es z m).0)

-- NAMESPACE, then a space
class_begins : (es : List Entry) (rest : List ℕ) → same (first_word (text "NAMESPACE" ++ (class_text es ++ rest))) (text "NAMESPACE") ≡ true
unfolding class_text first_word run with_first got open_bytes
class_begins [] rest = refl
class_begins (e ∷ es) rest = refl

namespace_closes : (spaces tag : List ℕ) → namespaces_pass spaces ≡ true → Closes tag (text "NAMESPACE") (namespace_answer (entries spaces) tag)
unfolding namespace_answer
namespace_closes spaces tag h =
    ok_after tag (text "NAMESPACE") (namespace_answer (entries spaces) tag) (body ∷ []) begins (unfold every in rw plain) is
  where
    c : ℕ → List ℕ
    c k = class_text (of_class k (entries spaces))

    body : List ℕ
    body = text "NAMESPACE" ++ (c 0 ++ (c 1 ++ c 2))

    begins : Begin (text "NAMESPACE") (body ∷ [])
    begins = unfold every in rw (class_begins (of_class 0 (entries spaces)) (c 1 ++ c 2))

    lawful : every lawful_entry (entries spaces) ≡ true
    lawful =
        first_parts (entries_fill 0 spaces) (every lawful_entry (entries spaces)) (classes_rise 0 (entries spaces)) (few 0) (few 1) (few 2)
        (unfold namespaces_pass in h)
      where
        few : ℕ → Bool
        few k = leb (length (of_class k (entries spaces))) 4

        first_parts : (a b d e f g : Bool) → (a && b && d && e && f && g) ≡ true → b ≡ true
        first_parts a b d e f g q =
            and_r a b (and_l (a && b) d (and_l (a && b && d) e (and_l (a && b && d && e) f (and_l (a && b && d && e && f) g q))))

    each : (k : ℕ) → all printable (c k) ≡ true
    each k = class_plain (of_class k (entries spaces)) (unfold of_class in keep_every (λ e. eqb e.class k) lawful_entry (entries spaces) lawful)

    word : all printable (text "NAMESPACE") ≡ true
    word = unfold open_bytes printable in refl

    plain : all printable body ≡ true
    plain =
        all_append printable (text "NAMESPACE") _ word (all_append printable (c 0) _ (each 0) (all_append printable (c 1) (c 2) (each 1) (each 2)))

    is : text "* NAMESPACE" ++ (c 0 ++ (c 1 ++ (c 2 ++ (crlf ++ ok_line tag)))) ≡ joined (untagged body ∷ []) ++ ok_line tag
    is = unfold joined untagged no_tag open_bytes in simp append_assoc

-- ---- every answer

-- A reply that is an answer closes with the line's tag, and has the line's word; 5 is a refusal of the line.
unfoldable pub AnswerCloses : List ℕ → Reply → Type 0
AnswerCloses l (refusal k) = eqb k 5 ≡ true → untagged_word l ≡ word_for (started l) (refused k)
AnswerCloses l (answered a) = Closes (tag_of l) (untagged_word l) a

module _ (l : List ℕ) where
  closes_as : (tag word a : List ℕ) → tag ≡ tag_of l → word ≡ untagged_word l → Closes tag word a → AnswerCloses l (answered a)
  unfolding AnswerCloses
  closes_as tag word a e w c = subst (λ (x : List ℕ). Closes (tag_of l) x a) w (subst (λ (x : List ℕ). Closes x word a) e c)

  -- a number other than 5
  pub refusal_closes : (k : ℕ) → eqb k 5 ≡ false → AnswerCloses l (refusal k)
  unfolding AnswerCloses
  refusal_closes k h = λ e. absurd (false≢true (sym h ∙ e))

module _ (t : Table) (spaces l : List ℕ) (ok : passes t ≡ true) (h : namespaces_pass spaces ≡ true) where
  answer_to_closes : (p : Parsed) → p ≡ parsed l → Tagged l p → AnswerCloses l (answer_to (rows t) (entries spaces) p)
  unfolding answer_to Tagged
  answer_to_closes (refused k) q e = unfold AnswerCloses untagged_word in (λ five. ap (word_for (started l)) (sym q))
  answer_to_closes (namespace tag) q e = closes_as l tag (text "NAMESPACE") _ e (word q) (namespace_closes spaces tag h)
    where
      word : namespace tag ≡ parsed l → text "NAMESPACE" ≡ untagged_word l
      word q = unfold untagged_word word_for in ap (word_for (started l)) q
  answer_to_closes (listing tag o ps) q e = closes_as l tag (text "LIST") _ e (word q) (list_closes t ok tag o ps)
    where
      word : listing tag o ps ≡ parsed l → text "LIST" ≡ untagged_word l
      word q = unfold untagged_word word_for in ap (word_for (started l)) q
  answer_to_closes (root_of tag) q e = closes_as l tag (text "LIST") _ e (word q)
      (ok_after tag (text "LIST") (root_line ++ ok_line tag) (root ∷ []) begins plain is)
    where
      root : List ℕ
      root = text "LIST (\\Noselect) \"/\" \"\""

      word : root_of tag ≡ parsed l → text "LIST" ≡ untagged_word l
      word q = unfold untagged_word word_for in ap (word_for (started l)) q

      begins : Begin (text "LIST") (root ∷ [])
      begins = unfold open_bytes open_lists first_word run with_first got in refl

      plain : every (all printable) (root ∷ []) ≡ true
      plain = unfold open_bytes open_lists printable in refl

      is : root_line ++ ok_line tag ≡ joined (untagged root ∷ []) ++ ok_line tag
      is = unfold open_bytes open_lists root_line untagged no_tag in refl
  answer_to_closes (subscriptions tag ps) q e = closes_as l tag (text "LSUB") _ e (word q) (lsub_closes t ok tag ps)
    where
      word : subscriptions tag ps ≡ parsed l → text "LSUB" ≡ untagged_word l
      word q = unfold untagged_word word_for in ap (word_for (started l)) q
  answer_to_closes (editing tag x) q e = closes_as l tag [] _ e (word q) (ok_after tag [] (ok_line tag) [] (none_so _) (none_so _) none_is)
    where
      word : editing tag x ≡ parsed l → [] ≡ untagged_word l
      word q = unfold untagged_word word_for in ap (word_for (started l)) q

      none_so : (p : List ℕ → Bool) → every p [] ≡ true
      none_so p = unfold every in refl

      none_is : ok_line tag ≡ joined [] ++ ok_line tag
      none_is = unfold joined in refl

-- Every answer over a table and a namespace list closes so.
pub answer_closes : (t : Table) (spaces l : List ℕ) → AnswerCloses l (answer t spaces l)
unfolding answer
answer_closes t spaces l = go (passes t) refl (namespaces_pass spaces) refl
  where
    go : (b : Bool) → passes t ≡ b → (d : Bool) → namespaces_pass spaces ≡ d
        → AnswerCloses l (cond b (cond d (answer_to (rows t) (entries spaces) (parsed l)) (refusal 2)) (refusal 1))
    go true p true q = answer_to_closes t spaces l p q (parsed l) refl (parsed_tag l)
    go true p false q = refusal_closes l 2 refl
    go false p d q = refusal_closes l 1 refl
