-- The replies of the server, of what its functions have: an index, the namespace list, the line, a command that was read.
use Rattle.std.specs.Prelude.{cond, List, ◌++◌, ℕ}
use Rattle.listing_rules.specs.Table.{Table, rows, passes}
use Rattle.listing_rules.specs.Namespaces.{entries, namespaces_pass}
use Rattle.listing_rules.specs.Command.{Parsed, is_edit, parsed}
use Rattle.listing_rules.specs.Lines.{root_line, ok_line}
use Rattle.listing_rules.specs.Server.{Reply, refusal, answered, answer_to, from_reader, list_answer, lsub_answer, namespace_answer}
use Rattle.command_line.specs.declared.Command.{Command}
use Rattle.command_line.specs.OptionSets.{options_is}
use Rattle.command_line.specs.Commands.{patterns_of}
use Rattle.mailbox_table.specs.Index.{rows_at}

-- The reply where a table is only read: an edit has nothing to change there, and its word is one that is not known, 5.
unfoldable pub read_only : Parsed → Reply → Reply
read_only p r = cond (is_edit p) (refusal 5) r

-- a reader's command over the table that it sees, which is only read; 9 comes after all of these
unfoldable pub read_to : ℕ → Table → List ℕ → List ℕ → Reply
read_to reader t spaces l =
    let r = read_only (parsed l) (answer_to (rows t) (entries spaces) (parsed l)) in
    let e2 = cond (namespaces_pass spaces) r (refusal 2) in
    from_reader reader (cond (passes t) e2 (refusal 1))

-- to a line, over an index
abbrev pub command_reply : List ℕ → List ℕ → List ℕ → List ℕ → Reply
command_reply area words namespaces line = read_only (parsed line) (answer_to (rows_at area words) (entries namespaces) (parsed line))

-- the same after check 2
abbrev pub index_reply : List ℕ → List ℕ → List ℕ → List ℕ → Reply
index_reply area words namespaces line = cond (namespaces_pass namespaces) (command_reply area words namespaces line) (refusal 2)

-- the same where an edit is of another reader than 0
abbrev pub seen_reply : List ℕ → List ℕ → List ℕ → List ℕ → Reply
seen_reply area words namespaces line =
    cond (namespaces_pass namespaces) (cond (is_edit (parsed line)) (refusal 16) (command_reply area words namespaces line)) (refusal 2)

-- to NAMESPACE
abbrev pub spaces_text : List ℕ → List ℕ → List ℕ
spaces_text namespaces tag = namespace_answer (entries namespaces) tag

abbrev pub spaces_reply : List ℕ → List ℕ → Reply
spaces_reply namespaces tag = answered (spaces_text namespaces tag)

-- the root line
abbrev pub root_text : List ℕ → List ℕ
root_text tag = root_line ++ ok_line tag

abbrev pub root_reply : List ℕ → Reply
root_reply tag = answered (root_text tag)

-- to LIST
abbrev pub listing_reply : List ℕ → List ℕ → List ℕ → Command → List ℕ → Reply
listing_reply area words line c tag = answered (list_answer (rows_at area words) tag (options_is c.options) (patterns_of line c))

-- to LSUB
abbrev pub subscriptions_reply : List ℕ → List ℕ → List ℕ → Command → List ℕ → Reply
subscriptions_reply area words line c tag = answered (lsub_answer (rows_at area words) tag (patterns_of line c))
