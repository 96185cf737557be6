-- The refusals in document 01's order, and the reply to a command by its kind. Rests on FewLaws of command_patterns.
use Rattle.std.specs.Prelude.{Option, Some, None, Err}
use Rattle.std.specs.Option.{ok_or}
use Rattle.listing_rules.proofs.Prelude.{◌∙◌, ◌≡◌, ap, refl, sym, false, true, List, ◌++◌, map, ◌≤◌, ℕ, arith, drop, length, length-append, take}
use Rattle.listing_rules.proofs.Prelude.{take_at}
use Rattle.listing_rules.specs.Table.{Table, rows, passes, packed_table}
use Rattle.listing_rules.specs.Records.{Record, record_table, packed_records}
use Rattle.listing_rules.specs.Readers.{is_reader, visible, records_seen, packed_seen}
use Rattle.listing_rules.proofs.ReaderLaws.{records_seen_passes, records_seen_is, packed_seen_passes, packed_seen_is}
use Rattle.listing_rules.specs.Namespaces.{entries, namespaces_pass}
use Rattle.listing_rules.specs.Command.{Parsed, refused, is_edit, parsed}
use Rattle.listing_rules.specs.Server.{refusal, answer_to, limited, from_reader, buffer_after}
use Rattle.octets.specs.declared.refusals.Refusal.{Refusal}
use Rattle.octets.specs.Refusals.{number_of}
use Rattle.octets.specs.Written.{written_is, Gives}
use Rattle.command_line.specs.declared.Kind.{Kind}
use Rattle.command_line.specs.declared.Kind.TheVariants.{Root, Namespace, List as Listing, Lsub, Subscribe, Unsubscribe}
use Rattle.command_line.specs.declared.Command.{Command}
use Rattle.command_line.specs.OptionSets.{options_is}
use Rattle.command_line.specs.Commands.{meaning_of, meaning_as, patterns_of, Few}
use Rattle.command_tokens.specs.Spans.{span_bytes}
use Rattle.records.specs.Words.{record_of}
use Rattle.mailbox_table.specs.Index.{rows_at}
use Rattle.mailbox_table.specs.Seen.{seen_words}
use Rattle.mailbox_table.proofs.SeenLaws.{seen_rows}
use Rattle.server.specs.Replies.{read_only, read_to, command_reply, index_reply, seen_reply, spaces_reply, root_reply, listing_reply, subscriptions_reply}
use Rattle.command_line.proofs.Packed.{listing_few, subscriptions_few}

-- a number of refusal, and no byte changed
pub refused_with_lem : (e : Refusal) (d : List ℕ) → Gives (refusal (number_of e)) d d (Err e)
unfolding limited written_is buffer_after
refused_with_lem e d = (refl, refl)

-- where `ok_or` refuses, there was nothing
pub none_refused : {A : Type 0} {r : Option A} {e : Refusal} (k : Refusal) → Err e ≡ ok_or r k → (r ≡ None) × (e ≡ k)
none_refused {A} {r} {e} k a = go r a
  where
    go : (r : Option A) → Err e ≡ ok_or r k → (r ≡ None) × (e ≡ k)
    go (Some x) z = cc
    go None z = (refl, cc)

-- a reader's command that only reads: 16, 1, and what is left over the rows that it sees
module _ (reader : ℕ) (t : Table) (s l : List ℕ) where
  pub read_16 : is_reader reader ≡ false → read_to reader t s l ≡ refusal 16
  unfolding read_to from_reader
  read_16 e = rw e

  module _ (known : is_reader reader ≡ true) where
    pub read_1 : passes t ≡ false → read_to reader t s l ≡ refusal 1
    unfolding read_to from_reader
    read_1 e = rw (known, e)

    pub read_on : (area words : List ℕ) → passes t ≡ true → rows_at area words ≡ rows t → read_to reader t s l ≡ index_reply area words s l
    unfolding read_to from_reader
    read_on area words e f = rw (known, e, f)

-- over the index of the records that are counted, and of packed bytes
module _ (reader : ℕ) (area words s l : List ℕ) (known : is_reader reader ≡ true) where
  pub records_on : (rs : List Record) (count : ℕ) → passes (record_table area rs count) ≡ true → map record_of words ≡ take count rs
      → read_to reader (records_seen reader area rs count) s l ≡ index_reply area (seen_words reader words) s l
  unfolding rows
  records_on rs count e told =
      let shown : rows_at area (seen_words reader words) ≡ rows (records_seen reader area rs count)
      = seen_rows reader area words ∙ ap (visible reader area) told ∙ sym (ap rows (records_seen_is reader area rs count e)) in
      read_on reader (records_seen reader area rs count) s l known area (seen_words reader words) (records_seen_passes reader area rs count ∙ e) shown

  pub packed_on : passes (packed_table area) ≡ true → map record_of words ≡ packed_records area
      → read_to reader (packed_seen reader area) s l ≡ index_reply area (seen_words reader words) s l
  unfolding rows
  packed_on e told =
      let shown : rows_at area (seen_words reader words) ≡ rows (packed_seen reader area)
      = seen_rows reader area words ∙ ap (visible reader area) told ∙ sym (ap rows (packed_seen_is reader area e)) in
      read_on reader (packed_seen reader area) s l known area (seen_words reader words) (packed_seen_passes reader area ∙ e) shown

-- the words that `see_rows` left at the front are those that the reader sees
pub seen_first : (reader : ℕ) (index exit : List ℕ) (r : ℕ) → (r ≡ length (seen_words reader index)) × (exit ≡ seen_words reader index ++ drop r index)
    → (r ≤ length exit) × (take r exit ≡ seen_words reader index)
seen_first reader index exit r p = (
  omega (arith, p.0, ap length p.1, length-append (seen_words reader index) (drop r index)),
  ap (take r) p.1 ∙ take_at (seen_words reader index) (drop r index) r (sym p.0),
)

-- over an index: the namespace list, then the command
module _ (area words s l : List ℕ) where
  pub index_2 : namespaces_pass s ≡ false → index_reply area words s l ≡ refusal 2
  index_2 e = rw e

  pub index_on : namespaces_pass s ≡ true → index_reply area words s l ≡ command_reply area words s l
  index_on e = rw e

  -- a line that is refused
  pub reply_refused : (k : ℕ) → refused k ≡ parsed l → refusal k ≡ command_reply area words s l
  unfolding answer_to read_only is_edit
  reply_refused k e = ap (λ (p : Parsed). read_only p (answer_to (rows_at area words) (entries s) p)) e

  -- the same where an edit is of another reader
  pub seen_2 : namespaces_pass s ≡ false → seen_reply area words s l ≡ refusal 2
  seen_2 e = rw e

  module _ (listed : namespaces_pass s ≡ true) where
    pub seen_16 : is_edit (parsed l) ≡ true → seen_reply area words s l ≡ refusal 16
    seen_16 e = rw (listed, e)

    pub seen_on : is_edit (parsed l) ≡ false → seen_reply area words s l ≡ command_reply area words s l
    seen_on e = rw (listed, e)

    pub seen_refused : (k : ℕ) → refused k ≡ parsed l → refusal k ≡ seen_reply area words s l
    unfolding is_edit
    seen_refused k e = reply_refused k e ∙ sym (seen_on (ap is_edit (sym e)))

-- The reply to a command that was read, by its kind
module _ (area words namespaces l : List ℕ) (c : Command) (m : meaning_of l c ≡ parsed l) where
  reply_as : (k : Kind) → c.kind ≡ k
      → read_only (meaning_as k l c) (answer_to (rows_at area words) (entries namespaces) (meaning_as k l c)) ≡ command_reply area words namespaces l
  unfolding meaning_of
  reply_as k e =
      ap (λ (p : Parsed). read_only p (answer_to (rows_at area words) (entries namespaces) p)) (ap (λ (q : Kind). meaning_as q l c) (sym e) ∙ m)

  module _ (tag : List ℕ) (t : tag ≡ span_bytes l c.tag) where
    pub reply_spaces : c.kind ≡ Namespace → spaces_reply namespaces tag ≡ command_reply area words namespaces l
    unfolding answer_to meaning_as read_only is_edit
    reply_spaces e = ap (spaces_reply namespaces) t ∙ reply_as Namespace e

    pub reply_root : c.kind ≡ Root → root_reply tag ≡ command_reply area words namespaces l
    unfolding answer_to meaning_as read_only is_edit
    reply_root e = ap root_reply t ∙ reply_as Root e

    pub reply_list : c.kind ≡ Listing → listing_reply area words l c tag ≡ command_reply area words namespaces l
    unfolding answer_to meaning_as read_only is_edit
    reply_list e = ap (listing_reply area words l c) t ∙ reply_as Listing e

    pub reply_lsub : c.kind ≡ Lsub → subscriptions_reply area words l c tag ≡ command_reply area words namespaces l
    unfolding answer_to meaning_as read_only is_edit
    reply_lsub e = ap (subscriptions_reply area words l c) t ∙ reply_as Lsub e

  pub reply_subscribe : c.kind ≡ Subscribe → refusal 5 ≡ command_reply area words namespaces l
  unfolding answer_to meaning_as read_only is_edit
  reply_subscribe e = reply_as Subscribe e

  pub reply_unsubscribe : c.kind ≡ Unsubscribe → refusal 5 ≡ command_reply area words namespaces l
  unfolding answer_to meaning_as read_only is_edit
  reply_unsubscribe e = reply_as Unsubscribe e

  -- what a listing asks for is few and short
  pub list_few : c.kind ≡ Listing → Few (patterns_of l c)
  unfolding meaning_of meaning_as
  list_few e = listing_few l (span_bytes l c.tag) (options_is c.options) (patterns_of l c) (sym m ∙ ap (λ (q : Kind). meaning_as q l c) e)

  -- and so is what LSUB asks for, which is one pattern at most
  pub lsub_one : c.kind ≡ Lsub → Few (patterns_of l c) × (length (patterns_of l c) ≤ 1)
  unfolding meaning_of meaning_as
  lsub_one e = subscriptions_few l (span_bytes l c.tag) (patterns_of l c) (sym m ∙ ap (λ (q : Kind). meaning_as q l c) e)
