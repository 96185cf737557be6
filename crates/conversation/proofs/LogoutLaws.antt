-- A word that the library does not know is answered by the server itself, and LOGOUT is always answered. Rests on TagLaws, SeenLaws and
-- KeepsLaws.
use Rattle.listing_rules.proofs.Prelude.{◌∙◌, ◌≡◌, ap, refl, sym, Bool, ◌||◌, cond, false, true, not, Option, some, List, ℕ, eqb, option_some_injective, false≢true}
use Rattle.listing_rules.proofs.Keys.{open_bytes}
use Rattle.listing_rules.proofs.ListLaws.{same_true}
use Rattle.listing_rules.proofs.TokenLaws.{bind_some}
use Rattle.listing_rules.proofs.SummaryAlike.{summed_seen_passes}
use Rattle.listing_rules.specs.Bytes.{text, same, is_empty, spells, raised}
use Rattle.listing_rules.specs.Tokens.{Got, after, tag_byte, atom_byte, run₁, atom}
use Rattle.listing_rules.specs.Table.{Table, rows, passes}
use Rattle.listing_rules.specs.Namespaces.{entries, namespaces_pass}
use Rattle.listing_rules.specs.Readers.{is_reader}
use Rattle.listing_rules.specs.Command.{Parsed, refused, or_refuse, worded as readWord, tagged, parsed, line_text, is_edit}
use Rattle.listing_rules.specs.Feeder.{handed}
use Rattle.listing_rules.specs.Server.{Reply, refusal, answer_to, answer, limited, from_reader}
use Rattle.listing_rules.specs.Summary.{Summed, SummedCommand, summed_table, summed_seen}
use Rattle.conversation.specs.Texts.{bye_text}
use Rattle.conversation.specs.Conversation.{Setting, tag_of, Started, started, Own, done, alone, own_answer, worded, replied}
use Rattle.conversation.specs.Conversation.{reply_to, Talk, conversed, unserved, is_served}
use Rattle.conversation.proofs.TagLaws.{run₁_is, started_tag}
use Rattle.conversation.proofs.KeepsLaws.{conversed_sound}
use Rattle.conversation.proofs.SeenLaws.{calm, strange, calm_reply, calm_decides}

-- what is served: a reader of 0 to 7, a table that passes with its summary, a namespace list that passes
served_parts : (w : Setting) (m : Summed) → is_served w m ≡ true
    → (is_reader w.reader ≡ true) × (passes (summed_table m) ≡ true) × (namespaces_pass w.namespaces ≡ true)
unfolding is_served unserved
served_parts w m h = go (is_reader w.reader) (passes (summed_table m)) (namespaces_pass w.namespaces) h
  where
    go : (a b c : Bool) → eqb (cond a (cond b (cond c 0 2) 1) 16) 0 ≡ true → (a ≡ true) × (b ≡ true) × (c ≡ true)
    go true true true q = (refl, refl, refl)
    go true true false q = absurd (false≢true q)
    go true false c q = absurd (false≢true q)
    go false b c q = absurd (false≢true q)

-- the library's reply to a word that it does not know
word_refused : (w : Setting) (m : Summed) (l : List ℕ) → is_served w m ≡ true → parsed l ≡ refused 5 →
    calm_reply w (summed_seen w.reader m) l ≡ refusal 5
unfolding calm_reply from_reader answer
word_refused w m l h p =
    let t = summed_seen w.reader m in
    let s = served_parts w m h in
    let over : passes t ≡ true = summed_seen_passes w.reader m ∙ s.1 in
    (λ i. cond (s.0 i) (pick (is_edit (p i)) (cond (over i) (cond (s.2 i) (answer_to (rows t) (entries w.namespaces) (p i)) (refusal 2))
    (refusal 1))) (refusal 16))
    ∙ known t
  where
    pick : Bool → Reply → Reply
    pick b r = cond b (strange r) (limited w.longest r)

    known : (t : Table) → pick (is_edit (refused 5)) (answer_to (rows t) (entries w.namespaces) (refused 5)) ≡ refusal 5
    known t = unfold is_edit answer_to limited in refl

-- "other words are answered as above": where the library refuses the word with 5, the server answers, and the store stays.
pub own_answered : (w : Setting) (m : Summed) (kept l : List ℕ) → is_served w m ≡ true → parsed l ≡ refused 5
    → reply_to w m kept (handed l) ≡ worded w.accepts_login m l (started l)
unfolding reply_to
own_answered w m kept l h p = ap (replied w l) (calm_decides w m l calmed ∙ reply_is) ∙ said
  where
    calmed : calm w l ≡ true
    calmed = ap (λ (q : Parsed). not (is_edit q) || not (eqb w.reader 0)) p ∙ (unfold is_edit in refl)

    reply_is : Path SummedCommand (record { reply = calm_reply w (summed_seen w.reader m) l; left = m }) (record { reply = refusal 5; left = m })
    reply_is = λ i. record { reply = word_refused w m l h p i; left = m }

    said : replied w l (record { reply = refusal 5; left = m }) ≡ worded w.accepts_login m l (started l)
    said = unfold replied in refl

-- a word that spells one text spells no other
apart : (v a b : List ℕ) → same a b ≡ false → spells v a ≡ true → spells v b ≡ false
unfolding spells
apart v a b h e = ap (λ (x : List ℕ). same x b) (same_true (raised v) a e) ∙ h

-- LOGOUT is no word of the library
logout_read : (tag : List ℕ) (w : Got (List ℕ)) → spells w.val (text "LOGOUT") ≡ true → readWord tag w ≡ refused 5
unfolding readWord
logout_read tag w h =
    rw
    (other (text "LIST") list, other (text "NAMESPACE") spaces, other (text "LSUB") lsub, other (text "SUBSCRIBE") adding, other (text "UNSUBSCRIBE") taking)
  where
    other : (b : List ℕ) → same (text "LOGOUT") b ≡ false → spells w.val b ≡ false
    other b q = apart w.val (text "LOGOUT") b q h

    list : same (text "LOGOUT") (text "LIST") ≡ false
    list = unfold open_bytes in refl

    spaces : same (text "LOGOUT") (text "NAMESPACE") ≡ false
    spaces = unfold open_bytes in refl

    lsub : same (text "LOGOUT") (text "LSUB") ≡ false
    lsub = unfold open_bytes in refl

    adding : same (text "LOGOUT") (text "SUBSCRIBE") ≡ false
    adding = unfold open_bytes in refl

    taking : same (text "LOGOUT") (text "UNSUBSCRIBE") ≡ false
    taking = unfold open_bytes in refl

logout_parsed : (l : List ℕ) (x : Started) → started l ≡ some x → spells x.word (text "LOGOUT") ≡ true → parsed l ≡ refused 5
unfolding started parsed tagged or_refuse
logout_parsed l x e h =
    let a = bind_some (line_text l) _ x e in
    let b = bind_some (run₁ tag_byte a.0) _ x a.2 in
    let c = bind_some (after (text " ") b.0.rest) _ x b.2 in
    let d = bind_some (atom c.0) _ x c.2 in
    let word : x.word ≡ d.0.val = ap (λ (y : Started). y.word) (sym (option_some_injective _ x d.2)) in
    rw (a.1, b.1, c.1)
    (ap (readWord b.0.val) (run₁_is atom_byte c.0 d.0 (unfold atom in d.1)).0
    ∙ logout_read b.0.val d.0 (ap (λ (v : List ℕ). spells v (text "LOGOUT")) (sym word) ∙ h))

logout_own : (accepts : Bool) (x : Started) → spells x.word (text "LOGOUT") ≡ true → is_empty x.rest ≡ true
    → own_answer accepts x ≡ record { lines = done x.tag bye_text; ends = true }
unfolding own_answer alone
logout_own accepts x h e =
    rw (apart x.word (text "LOGOUT") (text "CAPABILITY") first_no h, apart x.word (text "LOGOUT") (text "NOOP") second_no h, h, e)
  where
    first_no : same (text "LOGOUT") (text "CAPABILITY") ≡ false
    first_no = unfold open_bytes in refl

    second_no : same (text "LOGOUT") (text "NOOP") ≡ false
    second_no = unfold open_bytes in refl

-- LOGOUT is always answered: in every conversation that has begun, with `* BYE` and OK, and then it has ended.
pub logout_answered : (w : Setting) (m : Summed) (kept l : List ℕ) (x : Started) → is_served w m ≡ true
    → started l ≡ some x → spells x.word (text "LOGOUT") ≡ true → is_empty x.rest ≡ true
    → reply_to w m kept (handed l) ≡ record { bytes = done (tag_of l) bye_text; store = m; ended = true; accepted = false }
logout_answered w m kept l x s e h r =
    own_answered w m kept l s (logout_parsed l x e h) ∙ ap (worded w.accepts_login m l) e ∙ answer_is_lem
  where
    answer_is_lem : worded w.accepts_login m l (some x) ≡ record { bytes = done (tag_of l) bye_text; store = m; ended = true; accepted = false }
    answer_is_lem = unfold worded in
        (λ i. record {
          bytes = (ap (λ (o : Own). o.lines) (logout_own w.accepts_login x h r) ∙ ap (λ (tag : List ℕ). done tag bye_text) (started_tag l x e)) i;
          store = m;
          ended = (logout_own w.accepts_login x h r i).ends;
          accepted = false;
        })

-- What is served stays served, whatever the client sends; so in every state of a conversation that has begun, LOGOUT is answered.
pub served_throughout : (w : Setting) (k : Talk) (input : List ℕ) → is_served w k.store ≡ true →
    is_served w (conversed w k input).state.store ≡ true
unfolding is_served unserved
served_throughout w k input h = let s = served_parts w k.store h in rw (s.0, conversed_sound w k input s.1, s.2)
