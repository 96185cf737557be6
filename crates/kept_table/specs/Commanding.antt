-- A command over what is kept: its line, by the server's answer, and what it leaves.
use Rattle.std.specs.Prelude.{Result, Ok, Err}
use Rattle.std.specs.Prelude.{◌≡◌, true, false, cond, List, ◌∷◌, map, length, take, ℕ, ◌≤◌}
use Rattle.listing_rules.specs.Command.{parsed}
use Rattle.listing_rules.specs.Frames.{Kept, bytes, records, Stored, program_store, kept_summed, accepted, answer_line, refusal_line, reply_line}
use Rattle.listing_rules.specs.Frames.{command_over, command_step}
use Rattle.records.specs.Words.{cell_of}
use Rattle.records.specs.Numbers.{summary_word}
use Rattle.server.specs.Answering.{words_left}
use Rattle.kept_table.specs.declared.Lengths.{Lengths}
use Rattle.kept_table.specs.declared.outcome.Outcome.{Outcome}
use Rattle.kept_table.specs.Kept.{Lent, stored_in, numbers_with, is_within, outcome_is, Carries}

-- the line that answers a reader's command
abbrev pub command_line : ℕ → Kept → List ℕ → List ℕ → List ℕ
command_line reader kept namespaces command = reply_line (command_over reader kept namespaces command).reply

-- the line of what the server answers, with the number of a refusal: an answer lies at the front of its buffer
unfoldable pub written_line : Result ℕ ℕ → List ℕ → List ℕ
written_line (Ok n) answer = answer_line (0x41 ∷ take n answer)
written_line (Err k) answer = refusal_line k

-- how many bytes of the buffer are the answer
unfoldable pub answer_length : Result ℕ ℕ → ℕ
answer_length (Ok n) = n
answer_length (Err k) = 0

-- the answer lies in its buffer, which has 16,384 bytes at most
pub record Fits (w : Result ℕ ℕ) (answer : List ℕ) : Type 0 where
  pub inside : answer_length w ≤ length answer
  pub small : length answer ≤ 16384

-- the words of what is kept, over which an edit is made: those that are lent, or those of the records that the packed bytes become
abbrev pub cells_of : Kept → List ℕ → List ℕ
cells_of (records m) numbers = take 512 numbers
cells_of (bytes t) numbers = map cell_of (program_store t).records

-- Every bit of the numbers after a reader's command over what is stored: as they were, unless it is an edit that is accepted; then the words that the
-- edit leaves, their summary, and what follows.
unfoldable pub numbers_after : Stored → ℕ → List ℕ → List ℕ → List ℕ
numbers_after s reader l numbers =
    let c = command_over reader s.table s.namespaces l in
    let m = kept_summed s.table in
    cond
    (accepted (parsed l) c.reply)
    (numbers_with (words_left (parsed l) c.reply (cells_of s.table numbers) 512 m.store.count m.store.area) (map summary_word c.left.summary) numbers)
    numbers

-- a command was carried out, to the last bit of the numbers
pub record Obeys (stored : Lengths) (reader : ℕ) (command : List ℕ) (d e : Lent) (r : Outcome) : Type 0 where
  pub carried : Carries (command_step (stored_in d stored) reader command) d e r
  pub numbers : e.records ≡ numbers_after (stored_in d stored) reader command d.records

-- What `obey` promises of any lent memory: the command was carried out where what is stored lies within it; else nothing was done.
pub record ObeysLent (stored : Lengths) (reader : ℕ) (command : List ℕ) (d e : Lent) (r : Outcome) : Type 0 where
  pub obeys : is_within stored d.table d.records d.namespaces ≡ true → Obeys stored reader command d e r
  pub refuses : is_within stored d.table d.records d.namespaces ≡ false → (r ≡ outcome_is stored 0) × (e ≡ d)
