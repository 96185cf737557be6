-- One command: its line in a local buffer, the server's reply, and what the lines of the answer give. Rests on the laws of writes.
use Rattle.std.specs.Prelude.{Result, Ok, Err}
use Rattle.octets.specs.declared.refusals.Refusal.{Refusal}
use Rattle.listing_rules.proofs.Prelude.{◌∙◌, ◌≡◌, ap, refl, subst, sym, Bool, false, not, true, List, [], ◌∷◌, ◌*◌, ◌+◌, ◌≤◌, ℕ, arith, drop, length}
use Rattle.listing_rules.proofs.Prelude.{length-append, length-replicate, replicate, take, take_at}
use Rattle.listing_rules.specs.Table.{Table}
use Rattle.listing_rules.specs.Readers.{is_reader}
use Rattle.listing_rules.specs.Command.{is_edit, parsed}
use Rattle.listing_rules.specs.Bytes.{text, crlf, quote}
use Rattle.listing_rules.proofs.Keys.{open_bytes}
use Rattle.listing_rules.specs.Lines.{escaped, quoted}
use Rattle.listing_rules.specs.Server.{Reply, refusal, answered, answer, limited, buffer_after, served}
use Rattle.listing_rules.specs.Walk.{Lists, Step, stop, go, ◌then◌, when, wants_remote, wants_special, drops_subscribed, command_line, replied, asked}
use Rattle.listing_rules.proofs.TokenLaws.{length_escaped}
use Rattle.octets.specs.Put.{Put}
use Rattle.listing_rules.proofs.WalkReads.{walk_command_reads}
use Rattle.octets.specs.Written.{written_is, Gives}
use Rattle.server.specs.Replies.{read_to}
use Rattle.server.proofs.ReadLaws.{gives_served}
use Rattle.octets.specs.Refusals.{number_of, numbered}
use Rattle.octets.proofs.Puts.{front, put_length}
use Rattle.collector.specs.Options.{byte_of}
use Rattle.collector.specs.Rooms.{reference_room, command_room}
use Rattle.collector.specs.Taking.{Takes, answer_step, command_step}
use Rattle.collector.specs.declared.lines.Progress.{Progress}
use Rattle.collector.specs.declared.options.WalkOptions.{WalkOptions}

-- the bytes stand at the front of a buffer
pub record Fronts (e : List ℕ) (n : ℕ) (bs : List ℕ) : Type 0 where
  pub inside : n ≤ length e
  pub counted : n ≡ length bs
  pub bytes : take n e ≡ bs

-- what was written at the front, where it fits
pub put_fronts : (d e bs : List ℕ) (n room : ℕ) → d ≡ replicate room 0 → Put d e 0 bs n → length bs ≤ room → Fronts e n bs
put_fronts d e bs n room z p h =
    record {
      inside = omega (arith, size, counted, put_length p);
      counted = counted;
      bytes = ap (take n) (p.bytes ∙ front d bs (omega (arith, size))) ∙ take_at bs (drop (length bs) d) n (sym counted);
    }
  where
    size : length d ≡ room
    size = ap length z ∙ length-replicate {A = ℕ} room 0

    counted : n ≡ length bs
    counted = omega (arith, size, p.place, p.fits)

when_length : (o : Bool) (t : List ℕ) → length (when o t) ≤ length t
unfolding when
when_length true t = omega arith
when_length false t = omega arith

-- a text that was put, or not, where it is known whether it was asked for
pub put_when_as : {v v' : Bool} {d e : List ℕ} {at r : ℕ} (t : List ℕ) → v ≡ v' → Put d e at (when v t) r → Put d e at (when v' t) r
put_when_as {v} {v'} {d} {e} {at} {r} t a p = subst (λ (x : Bool). Put d e at (when x t) r) a p

-- a command's length: its texts, and twice the reference
text_lengths :
    (length (text "w LIST (") ≡ 8)
    × (length (text "SUBSCRIBED ") ≡ 11)
    × (length (text "RECURSIVEMATCH") ≡ 14)
    × (length (text " SPECIAL-USE") ≡ 12)
    × (length (text " REMOTE") ≡ 7)
    × (length (text ") ") ≡ 2)
    × (length (text " \"%\"") ≡ 4)
    × (length crlf ≡ 2)
unfolding open_bytes
text_lengths = (refl, refl, refl, refl, refl, refl, refl, refl)

command_length : (o : ℕ) (reference : List ℕ) → length (command_line o reference) ≤ 62 + 2 * length reference
unfolding command_line quoted
command_length o reference =
    simp length-append
    (omega (
      arith,
      text_lengths,
      length-append (escaped reference) (quote ∷ []),
      length_escaped reference,
      when_length (not (drops_subscribed o)) (text "SUBSCRIBED "),
      when_length (wants_special o) (text " SPECIAL-USE"),
      when_length (wants_remote o) (text " REMOTE"),
    ))

pub command_fits : (o : ℕ) (reference : List ℕ) → length reference ≤ reference_room → length (command_line o reference) ≤ command_room
command_fits o reference h = omega (arith, command_length o reference)

-- the command stands at the front of the line, which had room for it
pub sent : (w : WalkOptions) (reference : List ℕ) {line line' : List ℕ} {n : ℕ} → line ≡ replicate command_room 0 → length reference ≤ reference_room →
    Put line line' 0 (command_line (byte_of w) reference) n → Fronts line' n (command_line (byte_of w) reference)
sent w reference {line} {line'} {n} z few put = put_fronts line line' (command_line (byte_of w) reference) n command_room z put (command_fits (byte_of w) reference few)

-- it is no edit, so the server serves it
pub serves : (w : WalkOptions) (reference : List ℕ) {line : List ℕ} {n : ℕ} (reader : ℕ) (table : Table) (scratch : List ℕ) {scratch' : List ℕ} (r : Result ℕ Refusal) →
    Fronts line n (command_line (byte_of w) reference) → is_reader reader ≡ true → Gives (read_to reader table [] (take n line)) scratch scratch' r →
    (numbered r ≡ written_is (served table [] (take n line) scratch)) × (scratch' ≡ buffer_after scratch (served table [] (take n line) scratch))
serves w reference {line} {n} reader table scratch {scratch'} r F known g =
    gives_served reader table [] (take n line) scratch scratch' r known
    (ap (λ (l : List ℕ). is_edit (parsed l)) F.bytes ∙ walk_command_reads (byte_of w) reference) g

-- the server's reply to a line, by the code's answer
abbrev pub reply : Table → List ℕ → List ℕ → Step (List ℕ)
reply table l scratch = replied (limited (length scratch) (answer table [] l))

module _ (table : Table) (l scratch : List ℕ) where
  server_refused : {r : Result ℕ Refusal} (k : Refusal) → numbered r ≡ written_is (served table [] l scratch) → r ≡ Err k → reply table l scratch ≡ stop 9
  unfolding served written_is replied
  server_refused k a e = pick (served table [] l scratch) (sym a ∙ ap numbered e)
    where
      pick : (x : Reply) → written_is x ≡ Err (number_of k) → replied x ≡ stop 9
      pick (refusal j) z = refl
      pick (answered a) z = cc

  pub server_done : {r : Result ℕ Refusal} (scratch' : List ℕ) (len : ℕ) → numbered r ≡ written_is (served table [] l scratch) → r ≡ Ok len →
      scratch' ≡ buffer_after scratch (served table [] l scratch) → (len ≤ length scratch') × (reply table l scratch ≡ go (take len scratch'))
  unfolding served written_is replied buffer_after
  server_done scratch' len a e g = pick (served table [] l scratch) (sym a ∙ ap numbered e) g
    where
      pick : (x : Reply) → written_is x ≡ Ok len → scratch' ≡ buffer_after scratch x → (len ≤ length scratch') × (replied x ≡ go (take len scratch'))
      pick (refusal j) z f = let y : ◌≡◌ {A = ℕ} 0 1 = cc in absurd (omega arith)
      pick (answered a) z f =
          let y : length a ≡ len = cc in
          (omega (arith, ap length f, length-append a (drop (length a) scratch)), ap go (sym (ap (take len) f ∙ take_at a (drop (length a) scratch) len y)))

-- one command, by its line at the front of a buffer
module _ (table : Table) (w : WalkOptions) (reference scratch : List ℕ) {line : List ℕ} {n : ℕ} (F : Fronts line n (command_line (byte_of w) reference)) where
  asks_as : (found pending : List ℕ) (s : Lists) (x : Step (List ℕ)) → reply table (take n line) scratch ≡ x →
      command_step table w reference scratch found pending s ≡ (x then λ a. answer_step w a found pending s)
  unfolding asked
  asks_as found pending s x e = ap (λ (y : Step (List ℕ)). y then λ a. answer_step w a found pending s) (ap (λ (l : List ℕ). reply table l scratch) (sym F.bytes) ∙ e)

  pub asked_refused : {r : Result ℕ Refusal} {k : Refusal} → numbered r ≡ written_is (served table [] (take n line) scratch) → r ≡ Err k →
      (found pending : List ℕ) (s : Lists) → command_step table w reference scratch found pending s ≡ stop 9
  unfolding ◌then◌
  asked_refused {k} a e found pending s = asks_as found pending s (stop 9) (server_refused table (take n line) scratch k a e)

  pub asked_done : {a : List ℕ} → reply table (take n line) scratch ≡ go a → (found pending : List ℕ) (s : Lists) →
      command_step table w reference scratch found pending s ≡ answer_step w a found pending s
  unfolding ◌then◌
  asked_done {a} e found pending s = asks_as found pending s (go a) e

-- another name for a step, which begins with another count
pub takes_step : (step step' : Lists → Step Lists) (count n : ℕ) (p : Progress) (found pending found' pending' : List ℕ) (r : Result Progress Refusal) →
    ((s : Lists) → step' s ≡ step s) →
    Takes step count (record { count = n; found = p.found; pending = p.pending }) found pending found' pending' r →
    Takes step' count p found pending found' pending' r
takes_step step step' count n p found pending found' pending' (Ok q) e t =
    record {
      inside = t.inside;
      counted = t.counted;
      lists = λ s h. let u = t.lists s (record { finds = h.finds; asks = h.asks }) in (u.0, e s ∙ u.1, u.2);
    }
takes_step step step' count n p found pending found' pending' (Err k) e t = λ s h. e s ∙ t s (record { finds = h.finds; asks = h.asks })
