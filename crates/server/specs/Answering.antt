-- What one command leaves of the words, the summary, the area and the answer buffer.
use Rattle.std.specs.Prelude.{◌≡◌, true, List, map, ◌++◌, ℕ, min, ltb, length, take, drop}
use Rattle.listing_rules.specs.Command.{Parsed, refused, namespace, listing, root_of, subscriptions, editing, parsed}
use Rattle.listing_rules.specs.Namespaces.{namespaces_pass}
use Rattle.listing_rules.specs.Server.{Reply, refusal, answered, buffer_after}
use Rattle.octets.specs.Written.{written_is}
use Rattle.octets.specs.Refusals.{numbered}
use Rattle.records.specs.Words.{record_of}
use Rattle.records.specs.Numbers.{summary_of}
use Rattle.records.specs.Stores.{Handed, word_command, Between}
use Rattle.subscriptions.specs.declared.Change.{Change}
use Rattle.subscriptions.specs.Plans.{edited_name}
use Rattle.subscriptions.specs.Applied.{words_after, change_of}
use Rattle.subscriptions.specs.Stored.{plan_of}
use Rattle.server.specs.declared.Stored.{Stored}

-- the memory that a command may change
pub record Memory : Type 0 where
  pub words : List ℕ
  pub sums : List ℕ
  pub area : List ℕ
  pub out : List ℕ

abbrev pub memory : List ℕ → List ℕ → List ℕ → List ℕ → Memory
memory words sums area out = record { words = words; sums = sums; area = area; out = out }

-- as many words are lent as there are words and numbers
abbrev pub lent_words : Memory → ℕ
lent_words m = min (length m.words) (length m.sums)

-- Every bit of the words after a command with this reply, where the first `lent` of them are lent and the first `count` are rows: an edit that is
-- answered leaves what its plan leaves; a refusal, and a command that reads, leaves the words as they were lent.
unfoldable pub words_left : Parsed → Reply → List ℕ → ℕ → ℕ → List ℕ → List ℕ
words_left (editing tag e) (answered a) ws lent count area =
    words_after (plan_of (take lent ws) count area e) (take lent ws) count (edited_name e) ++ drop lent ws
words_left (editing tag e) (refusal k) ws lent count area = ws
words_left (refused k) r ws lent count area = ws
words_left (namespace tag) r ws lent count area = ws
words_left (listing tag o ps) r ws lent count area = ws
words_left (root_of tag) r ws lent count area = ws
words_left (subscriptions tag ps) r ws lent count area = ws

-- which of them changed or moved, and how many are rows then
unfoldable pub change_left : Parsed → Reply → List ℕ → ℕ → ℕ → List ℕ → Change
change_left (editing tag e) (answered a) ws lent count area = change_of (plan_of (take lent ws) count area e) count
change_left (editing tag e) (refusal k) ws lent count area = record { from = 0; to = 0; count = count }
change_left (refused k) r ws lent count area = record { from = 0; to = 0; count = count }
change_left (namespace tag) r ws lent count area = record { from = 0; to = 0; count = count }
change_left (listing tag o ps) r ws lent count area = record { from = 0; to = 0; count = count }
change_left (root_of tag) r ws lent count area = record { from = 0; to = 0; count = count }
change_left (subscriptions tag ps) r ws lent count area = record { from = 0; to = 0; count = count }

-- what a reader's command hands back, over this memory
abbrev pub handed : Memory → ℕ → ℕ → List ℕ → List ℕ → Handed
handed d count reader spaces l = word_command d.words (length d.words) count reader d.area d.sums spaces l d.out

-- The result, every byte, every number of the summary and every bit of the words. Words changed only from `from` up to `to`, among those that are lent.
pub record Answers (before after : Memory) (count reader : ℕ) (spaces l : List ℕ) (r : Stored) : Type 0 where
  pub written : numbered r.written ≡ written_is (handed before count reader spaces l).reply
  pub count_is : r.count ≡ (handed before count reader spaces l).count
  pub changed : ltb r.from r.to ≡ (handed before count reader spaces l).changed
  pub bytes : after.out ≡ buffer_after before.out (handed before count reader spaces l).reply
  pub area_is : after.area ≡ (handed before count reader spaces l).area
  pub records : map record_of (take (lent_words before) after.words) ≡ (handed before count reader spaces l).records
  pub summary : map summary_of after.sums ≡ (handed before count reader spaces l).summary
  pub words : after.words ≡ words_left (parsed l) (handed before count reader spaces l).reply before.words (lent_words before) count before.area
  pub change : record { from = r.from; to = r.to; count = r.count }
      ≡ change_left (parsed l) (handed before count reader spaces l).reply before.words (lent_words before) count before.area
  pub between : Between before.words after.words (lent_words before) r.from r.to

-- an edit of reader 0, beside any namespace list that passes
abbrev pub AnswersEdit : Memory → Memory → ℕ → List ℕ → Stored → Type 0
AnswersEdit before after count l r = (spaces : List ℕ) → namespaces_pass spaces ≡ true → Answers before after count 0 spaces l r
