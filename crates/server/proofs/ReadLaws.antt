-- What only reads answers a command that is no edit as document 01 says. Rests on nothing.
use Rattle.std.specs.Prelude.{Result}
use Rattle.octets.specs.declared.refusals.Refusal.{Refusal}
use Rattle.listing_rules.proofs.Prelude.{◌∙◌, ◌≡◌, ap, refl, Bool, cond, false, true, List, ℕ, length}
use Rattle.listing_rules.specs.Table.{Table, rows, passes}
use Rattle.listing_rules.specs.Readers.{is_reader}
use Rattle.listing_rules.specs.Namespaces.{entries, namespaces_pass}
use Rattle.listing_rules.specs.Command.{is_edit, parsed}
use Rattle.listing_rules.specs.Server.{Reply, refusal, answer, answer_to, limited, served, from_reader, served_to, buffer_after}
use Rattle.octets.specs.Refusals.{numbered}
use Rattle.octets.specs.Written.{written_is, Gives}
use Rattle.server.specs.Replies.{read_only, read_to}

-- a command that is no edit is answered as document 01 says
pub read_served : (reader : ℕ) (t : Table) (s l d : List ℕ) → is_edit (parsed l) ≡ false
    → limited (length d) (read_to reader t s l) ≡ served_to reader t s l d
unfolding read_to read_only served_to served answer from_reader limited
read_served reader t s l d e = rw e (go (is_reader reader))
  where
    r : Reply
    r = cond (passes t) (cond (namespaces_pass s) (answer_to (rows t) (entries s) (parsed l)) (refusal 2)) (refusal 1)

    go : (b : Bool) → limited (length d) (cond b r (refusal 16)) ≡ cond b (limited (length d) r) (refusal 16)
    go true = refl
    go false = refl

-- so is what is written
pub gives_served_to : (reader : ℕ) (t : Table) (s l d e : List ℕ) (r : Result ℕ Refusal) → is_edit (parsed l) ≡ false → Gives (read_to reader t s l) d e r
    → (numbered r ≡ written_is (served_to reader t s l d)) × (e ≡ buffer_after d (served_to reader t s l d))
gives_served_to reader t s l d e r reads g =
    let so = read_served reader t s l d reads in
    (g.0 ∙ ap written_is so, g.1 ∙ ap (buffer_after d) so)

-- and for a reader up to 7
pub gives_served : (reader : ℕ) (t : Table) (s l d e : List ℕ) (r : Result ℕ Refusal) → is_reader reader ≡ true → is_edit (parsed l) ≡ false
    → Gives (read_to reader t s l) d e r → (numbered r ≡ written_is (served t s l d)) × (e ≡ buffer_after d (served t s l d))
unfolding served_to from_reader
gives_served reader t s l d e r known reads g =
    let so : served_to reader t s l d ≡ served t s l d = rw known in
    let w = gives_served_to reader t s l d e r reads g in
    (w.0 ∙ ap written_is so, w.1 ∙ ap (buffer_after d) so)
