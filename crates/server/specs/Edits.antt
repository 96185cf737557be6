-- An edit that was read, and what it comes to.
use Rattle.std.specs.Prelude.{◌≡◌, Bool, true, false, cond, ◌&&◌, eqb, Option, Some, None, Result, Ok, Err, IfOk, List, ℕ, ◌≤◌, length, take}
use Rattle.listing_rules.specs.Command.{Edit, subscribe, unsubscribe, Parsed, editing, parsed}
use Rattle.listing_rules.specs.Namespaces.{namespaces_pass}
use Rattle.listing_rules.specs.Subscriptions.{Store, edited}
use Rattle.listing_rules.specs.Lines.{ok_line}
use Rattle.listing_rules.specs.Server.{Commanded, answered, concluded, changes}
use Rattle.listing_rules.specs.Summary.{Summed, SummedCommand, sums_after}
use Rattle.octets.specs.declared.refusals.Refusal.{Refusal}
use Rattle.command_tokens.specs.Spans.{span_bytes}
use Rattle.command_line.specs.declared.Kind.{Kind}
use Rattle.command_line.specs.declared.Kind.TheVariants.{List as Listing, Root, Namespace, Lsub, Subscribe, Unsubscribe}
use Rattle.command_line.specs.declared.Command.{Command}
use Rattle.command_line.specs.Commands.{meaning, meaning_of, name_of, Inside}

-- these bytes lie at the front of a buffer, r of them
pub record Fronts (bs buffer : List ℕ) (r : ℕ) : Type 0 where
  pub within : r ≤ length buffer
  pub size : r ≡ length (take r buffer)
  pub bytes : take r buffer ≡ bs

-- the command is what the line says
pub record Reads (line : List ℕ) (c : Command) : Type 0 where
  pub means : meaning_of line c ≡ parsed line
  pub inside : Inside line c

-- the line was read as this command, or refused as this says
pub record Reading (line : List ℕ) (r : Result Command Refusal) : Type 0 where
  pub means : meaning line r ≡ parsed line
  pub inside : IfOk r (λ c. Inside line c)

abbrev pub edit_kind : Kind → Bool
edit_kind Subscribe = true
edit_kind Unsubscribe = true
edit_kind Listing = false
edit_kind Root = false
edit_kind Namespace = false
edit_kind Lsub = false

abbrev pub subscribe_kind : Kind → Bool
subscribe_kind Subscribe = true
subscribe_kind Unsubscribe = false
subscribe_kind Listing = false
subscribe_kind Root = false
subscribe_kind Namespace = false
subscribe_kind Lsub = false

-- the edit that its reader may make, beside a namespace list that passes
abbrev pub own_edit : Result Command Refusal → ℕ → List ℕ → Option Command
own_edit (Ok c) reader spaces = cond (eqb reader 0 && (edit_kind c.kind && namespaces_pass spaces)) (Some c) None
own_edit (Err e) reader spaces = None

-- the edit of a command that is one
unfoldable pub edit_as : Bool → List ℕ → Edit
edit_as true n = subscribe n
edit_as false n = unsubscribe n

abbrev pub edit_of : List ℕ → Command → Edit
edit_of line c = edit_as (subscribe_kind c.kind) (name_of line c)

-- what an edit comes to, over a table that passes and beside a namespace list that passes; and whether it changes a row
abbrev pub edit_stored : Store → List ℕ → Command → List ℕ → Commanded
edit_stored s line c out = concluded s (length out) (edited s (edit_of line c)) (answered (ok_line (span_bytes line c.tag)))

abbrev pub edit_parsed : List ℕ → Command → Parsed
edit_parsed line c = editing (span_bytes line c.tag) (edit_of line c)

abbrev pub edit_command : Summed → List ℕ → Command → List ℕ → SummedCommand
edit_command m line c out =
    let d = edit_stored m.store line c out in
    record { reply = d.reply; left = record { store = d.store; summary = sums_after m (edit_parsed line c) d.reply } }

abbrev pub edit_change : Summed → List ℕ → Command → List ℕ → Bool
edit_change m line c out = changes m.store (edit_parsed line c) (edit_stored m.store line c out).reply
