-- The tag and the word: what the line gives, step by step. Rests on Returning and Refusing, and on Binds of command_tokens.
use Rattle.listing_rules.proofs.Prelude.{◌∙◌, ◌≡◌, ap, refl, sym, Bool, cond, false, true, option_none_ne_some, none, some, List, [], ◌∷◌, ◌<◌, ◌≤◌}
use Rattle.listing_rules.proofs.Prelude.{ℕ, drop, length}
use Rattle.listing_rules.specs.Bytes.{text, spells, same, raised, is_empty}
use Rattle.listing_rules.specs.Tokens.{Got, got, after, tag_byte, atom_byte, run, run₁, unless_empty, atom}
use Rattle.listing_rules.specs.Command.{Parsed, refused, namespace, or_refuse, worded, tagged}
use Rattle.command_tokens.specs.declared.Span.{Span}
use Rattle.command_tokens.specs.declared.Cursor.{Cursor}
use Rattle.command_tokens.specs.Tokens.{Bare}
use Rattle.command_tokens.proofs.Cuts.{lies_ahead}
use Rattle.command_line.specs.declared.reading.Word.{Word}
use Rattle.command_line.specs.declared.reading.Word.TheVariants.{List as ListWord, Namespace, Lsub, Subscribe, Unsubscribe, Other}
use Rattle.command_line.specs.Words.{word_of, worded_as}
use Rattle.command_line.specs.Commands.{TagIn}
use Rattle.command_line.proofs.Returning.{empty_out, empty_not}
use Rattle.command_line.proofs.Refusing.{read_on, read_off}

-- a bare token at the front is a tag
pub tag_in : (s : List ℕ) (t : Span) (c : Cursor) → Bare s 0 t c → TagIn s t
tag_in s t c h = record { lies = lies_ahead s 0 t c h.ahead; bare = h.bare; front = h.front }

-- the word by its number in the table
worded_is : (tag : List ℕ) (g : Got (List ℕ)) → worded tag g ≡ worded_as (word_of g.val) tag g.rest
unfolding worded word_of worded_as
worded_is tag g =
    cond_word (spells g.val (text "LIST")) ListWord _ _
    (cond_word (spells g.val (text "NAMESPACE")) Namespace _ _
    (cond_word (spells g.val (text "LSUB")) Lsub _ _
    (cond_word (spells g.val (text "SUBSCRIBE")) Subscribe _ _
    (cond_word (spells g.val (text "UNSUBSCRIBE")) Unsubscribe _ _ refl))))
  where
    -- one word of the table, and the rest of it
    cond_word : (b : Bool) (w v : Word) (p : Parsed) → p ≡ worded_as v tag g.rest → cond b (worded_as w tag g.rest) p ≡ worded_as (cond b w v) tag g.rest
    cond_word true w v p e = refl
    cond_word false w v p e = e

-- a word that was found is the run, and one that was not is empty
some_same : {A : Type 0} {a b : A} → some a ≡ some b → a ≡ b
some_same e = cc

run_some : (g h : Got (List ℕ)) → unless_empty g ≡ some h → g ≡ h
unfolding unless_empty
run_some g h e = go (is_empty g.val) e
  where
    go : (o : Bool) → cond o none (some g) ≡ some h → g ≡ h
    go true q = absurd (option_none_ne_some _ q)
    go false q = some_same q

run_none : (g : Got (List ℕ)) → unless_empty g ≡ none → g.val ≡ []
unfolding unless_empty is_empty
run_none g e = go g.val e
  where
    go : (v : List ℕ) → cond (is_empty v) none (some g) ≡ none → v ≡ []
    go [] q = refl
    go (b ∷ v) q = absurd (option_none_ne_some _ (sym q))

module _ (tag t : List ℕ) where
  -- no word
  pub word_off : atom t ≡ none → worded tag (run atom_byte t) ≡ refused 5
  unfolding atom run₁ worded spells raised same text
  word_off e = rw (run_none (run atom_byte t) e)

  pub word_read : (w u : List ℕ) → atom t ≡ some (got w u) → worded tag (run atom_byte t) ≡ worded_as (word_of w) tag u
  unfolding atom run₁ got
  word_read w u e = ap (worded tag) (run_some (run atom_byte t) (got w u) e) ∙ worded_is tag (got w u)

-- the line after its tag
after_tag : Got (List ℕ) → Parsed
after_tag tag = or_refuse 4 (after (text " ") tag.rest) (λ u. worded tag.val (run atom_byte u))

module _ (s : List ℕ) where
  pub tag_off : run₁ tag_byte s ≡ none → tagged s ≡ refused 4
  unfolding tagged
  tag_off e = read_off 4 _ e

  module _ (tag : List ℕ) (i : ℕ) (e : run₁ tag_byte s ≡ some (got tag (drop i s))) where
    after_tag_lem : tagged s ≡ after_tag (got tag (drop i s))
    unfolding tagged after_tag
    after_tag_lem = read_on 4 after_tag e

    pub space_off : after (text " ") (drop i s) ≡ none → tagged s ≡ refused 4
    unfolding after_tag got
    space_off q = after_tag_lem ∙ read_off 4 _ q

    pub space_read : (t : List ℕ) → after (text " ") (drop i s) ≡ some t → tagged s ≡ worded tag (run atom_byte t)
    unfolding after_tag got
    space_read t q = after_tag_lem ∙ read_on 4 (λ u. worded tag (run atom_byte u)) q

-- NAMESPACE ends there, or not
module _ (tag s : List ℕ) (i : ℕ) where
  pub namespace_ends : length s ≤ i → worded_as Namespace tag (drop i s) ≡ namespace tag
  unfolding worded_as
  namespace_ends h = rw (empty_out s i h)

  pub namespace_goes_on : i < length s → worded_as Namespace tag (drop i s) ≡ refused 4
  unfolding worded_as
  namespace_goes_on h = rw (empty_not s i h)

pub other_word : (tag t : List ℕ) → worded_as Other tag t ≡ refused 5
unfolding worded_as
other_word tag t = refl
