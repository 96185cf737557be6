-- An answer at the front of a lent buffer: its length and its bytes where it fits, else refusal 9 and no byte. Rests on Puts.
use Rattle.std.specs.Prelude.{Ok, Err}
use Rattle.octets.specs.declared.refusals.Refusal.TheVariants.{ShortBuffer}
use Rattle.listing_rules.proofs.Prelude.{◌∙◌, ap, refl, List, ◌<◌, ◌≤◌, ℕ, arith, length, le-leb, lt-leb}
use Rattle.listing_rules.specs.Server.{answered, limited, buffer_after}
use Rattle.octets.specs.Put.{Put}
use Rattle.octets.specs.Written.{written_is, Gives}
use Rattle.octets.proofs.Puts.{front}

module _ (d a : List ℕ) where
  pub written_fits : {e : List ℕ} {r : ℕ} → Put d e 0 a r → length a ≤ length d → Gives (answered a) d e (Ok r)
  unfolding limited written_is buffer_after
  written_fits p h = rw (le-leb (length a) (length d) h) (ap Ok (omega (arith, p.place, p.fits)), p.bytes ∙ front d a h)

  pub written_short : length d < length a → Gives (answered a) d d (Err ShortBuffer)
  unfolding limited written_is buffer_after
  written_short h = rw (lt-leb (length a) (length d) h) (refl, refl)
