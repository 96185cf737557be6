-- A run of bytes that a loop writes piece by piece: what is written, with what is left, is the whole. Rests on octets' Puts.
use Rattle.listing_rules.proofs.Prelude.{◌∙◌, ◌≡◌, ap, refl, subst, sym, List, [], ◌++◌, append_assoc, append-nil, ◌+◌, ◌<◌, ◌^◌, ℕ, length}
use Rattle.octets.specs.Put.{Put}
use Rattle.octets.proofs.Puts.{put_none, put_then}

-- Of `whole`, all but `rest` is written to the buffer `d` at the place `at`, which leaves `e` and the place `to`.
pub record Pieces (d e : List ℕ) (at to : ℕ) (rest whole : List ℕ) : Type 0 where
  pub acc : List ℕ
  pub put : Put d e at acc to
  pub joined : acc ++ rest ≡ whole

-- nothing yet
pub pieces_none : (d : List ℕ) (at : ℕ) (whole : List ℕ) → length d + 1 < 2 ^ 64 → at < 2 ^ 64 → Pieces d d at at whole whole
pieces_none d at whole h g = record { acc = []; put = put_none d at h g; joined = refl }

-- one piece more
pub pieces_more : {d e f : List ℕ} {at to q : ℕ} {left whole : List ℕ} (part rest : List ℕ) → Pieces d e at to left whole → left ≡ part ++ rest → Put e f to part q → Pieces d f at q rest whole
pieces_more part rest p e w =
    record { acc = p.acc ++ part; put = put_then p.put w; joined = append_assoc p.acc part rest ∙ ap (λ (x : List ℕ). p.acc ++ x) (sym e) ∙ p.joined }

-- nothing is left
pub pieces_all : {d e : List ℕ} {at to : ℕ} {rest whole : List ℕ} → Pieces d e at to rest whole → rest ≡ [] → Put d e at whole to
pieces_all {d} {e} {at} {to} p h =
    subst (λ (x : List ℕ). Put d e at x to) (sym (append-nil p.acc) ∙ ap (λ (x : List ℕ). p.acc ++ x) (sym h) ∙ p.joined) p.put
