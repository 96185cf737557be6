-- The words that a command may begin with, and what each asks for.
use Rattle.std.specs.Prelude.{cond, List as Seq, ℕ}
use Rattle.listing_rules.specs.Bytes.{text, spells, is_empty}
use Rattle.listing_rules.specs.Command.{Parsed, refused, namespace, editing, subscribe, unsubscribe, list_args, judged, lsub_args, judged_lsub, name_arg, or_refuse}
use Rattle.command_line.specs.declared.reading.Word.{Word}
use Rattle.command_line.specs.declared.reading.Word.TheVariants.{List, Namespace, Lsub, Subscribe, Unsubscribe, Other}

unfoldable pub word_of : Seq ℕ → Word
word_of w =
    cond (spells w (text "LIST")) List
    (cond (spells w (text "NAMESPACE")) Namespace
    (cond (spells w (text "LSUB")) Lsub
    (cond (spells w (text "SUBSCRIBE")) Subscribe
    (cond (spells w (text "UNSUBSCRIBE")) Unsubscribe Other))))

-- what the rest of the line gives after the word (law `worded-is`: as `worded` of document 01)
unfoldable pub worded_as : Word → Seq ℕ → Seq ℕ → Parsed
worded_as List tag t = or_refuse 4 (list_args t) (judged tag)
worded_as Namespace tag t = cond (is_empty t) (namespace tag) (refused 4)
worded_as Lsub tag t = or_refuse 4 (lsub_args t) (judged_lsub tag)
worded_as Subscribe tag t = or_refuse 4 (name_arg t) (λ n. editing tag (subscribe n))
worded_as Unsubscribe tag t = or_refuse 4 (name_arg t) (λ n. editing tag (unsubscribe n))
worded_as Other tag t = refused 5
