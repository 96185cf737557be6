-- A text that is put piece by piece: what is put, then what is left, is the whole.
use Rattle.listing_rules.proofs.Prelude.{◌∙◌, ◌≡◌, ap, subst, sym, List, [], ◌++◌, append_assoc, append-nil, ◌+◌, ◌<◌, ◌^◌, ℕ, length}
use Rattle.octets.specs.Put.{Put}
use Rattle.octets.proofs.Puts.{put_none, put_then}

pub record Putting (d e : List ℕ) (at to : ℕ) (rest whole : List ℕ) : Type 0 where
  pub acc : List ℕ
  pub put : Put d e at acc to
  pub left : acc ++ rest ≡ whole

pub putting_none : (d : List ℕ) (at : ℕ) {rest whole : List ℕ} → length d + 1 < 2 ^ 64 → at < 2 ^ 64 → rest ≡ whole → Putting d d at at rest whole
putting_none d at h g e = record { acc = []; put = put_none d at h g; left = e }

module _ {d e : List ℕ} {at to : ℕ} {rest whole : List ℕ} (p : Putting d e at to rest whole) where
  pub putting_more : {f : List ℕ} {r : ℕ} (t left : List ℕ) → rest ≡ t ++ left → Put e f to t r → Putting d f at r left whole
  putting_more t left s q =
      record {
        acc = p.acc ++ t;
        put = put_then p.put q;
        left = append_assoc p.acc t left ∙ ap (λ (l : List ℕ). p.acc ++ l) (sym s) ∙ p.left;
      }

  pub putting_end : rest ≡ [] → Put d e at whole to
  putting_end s = subst (λ (l : List ℕ). Put d e at l to) (sym (append-nil p.acc) ∙ ap (λ (l : List ℕ). p.acc ++ l) (sym s) ∙ p.left) p.put
