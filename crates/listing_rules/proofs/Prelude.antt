-- What proofs take of the kit's libraries, under one name.
pub use mathlib.Core.Path.{◌∙◌, ◌≡◌, ap, ap₂, refl, subst, sym}
pub use mathlib.Core.Bool.{Bool, ◌&&◌, ◌||◌, and_assoc, and_comm, and-false, and-true, cond, false, false≢true, not, or_assoc, or-false, or_self}
pub use mathlib.Core.Bool.{or-true, true}
pub use mathlib.Core.Logic.{◌↔◌, ◌⊎◌, inl, inr, ⊎_elim}
pub use mathlib.Core.Option.{IsSome, Option, get_or as option_get_or, none-ne-some as option_none_ne_some, some-injective as option_some_injective, none, some}
pub use mathlib.Core.List.Memᴰ.{append_cases as list_mem_append_cases}
pub use mathlib.Core.List.Memᴰ.{cases_cons as list_mem_cases_cons}
pub use mathlib.Core.List.Memᴰ.{eq_of_singleton as list_mem_eq_of_singleton}
pub use mathlib.Core.List.Memᴰ.{head as list_mem_head}
pub use mathlib.Core.List.{List, Memᴰ as list_mem}
pub use mathlib.Core.List.Memᴰ.{append_left as mem_append_left}
pub use mathlib.Core.List.Memᴰ.{append_right as mem_append_right}
pub use mathlib.Core.List.Memᴰ.{map as mem_map}
pub use mathlib.Core.List.Memᴰ.{not-nil as list_mem_not_nil}
pub use mathlib.Core.List.Memᴰ.{of_map as mem_of_map}
pub use mathlib.Core.List.Memᴰ.{tail as list_mem_tail}
pub use mathlib.Core.List.{[], ◌++◌, ◌∷◌, append_assoc}
pub use mathlib.Core.List.{append_cancel_left, append-nil, map, map-append, nil≢cons, tail-eq_of_cons-eq}
pub use Prim.Native.Nat.Ordering.{eq as ordering_eq}
pub use Prim.Native.Nat.Ordering.{gt as ordering_gt}
pub use Prim.Native.Nat.Ordering.{lt as ordering_lt}
pub use Prim.Native.Nat.compare.{suc-suc as compare_suc_suc}
pub use Prim.Native.Nat.{Ordering, ◌%◌, ◌*◌, ◌+◌, ◌-◌, ◌/◌, ◌<◌, ◌^◌, ◌≤◌, compare}
pub use Prim.Native.Nat.compare.{suc-zero as compare_suc_zero}
pub use Prim.Native.Nat.compare.{zero-suc as compare_zero_suc}
pub use Prim.Native.Nat.compare.{zero-zero as compare_zero_zero}
pub use Prim.Native.Nat.{max, min, suc, zero, zero-le, ℕ}
pub use native.Mathlib.Nat.{add_assoc, add-suc, add-zero, div-div-eq-div-mul, div-eq_of_lt, div-one, le_antisymm, le_of_suc-le-suc, le_refl}
pub use native.Mathlib.Nat.{lt_of_le_of_lt, mod-eq_of_lt, mod-lt, not-suc-le-zero, one-mul, pow-suc, pow-succ', sub-zero, suc-add, suc-mul}
pub use native.Mathlib.Nat.{suc-sub-suc, zero-add, zero-div, zero-lt-suc, zero-sub}
pub use native.Mathlib.Numerals.{add-one, add-one-dec, add-one-le}
pub use native.Mathlib.Decide.{dec_le, dec_lt, ℕ_discrete}
pub use native.Mathlib.Omega.{arith}
pub use lib.Dec.{T, eqb, leb, lit<, lit≤, ltb, ltb→lt, nltb→le}
pub use lib.ListN.{get_or-append as list_get_or_append, get_or-eq_default as list_get_or_eq_default, get_or-map as list_get_or_map, drop, drop_of_length-le, get_or, get_or-replicate, length, length-append}
pub use lib.ListN.{length-drop, length-map, length-replicate, length-set, length-take, replicate, set, take, take-append-drop}
pub use lib.Seq.{append_snoc, drop-append-add, drop-append-le, drop-append_seam, drop_at, drop-cons, drop-drop, drop-length, drop-nil, drop-paste}
pub use lib.Seq.{drop-set-lt, ext_get_or, get_or-append-add, get_or-append_seam, get_or_at, get_or-drop, get_or-set_other, get_or-set_same, get_or-take, length-paste}
pub use lib.Seq.{length_paste_head, length-sets, length-take-le, paste, paste-suc, paste-zero, set_at, set_out, set_split, sets, sets-eq, split_at}
pub use lib.Seq.{take-add, take_all, take-append-add, take-append-le, take-append_seam, take_at, take-length, take-nil, take-paste, take-suc}
pub use lib.Seq.{take-suc-set, take-take}
pub use borrow.Author.Tests.{eq-eqb, eqb-false, eqb-true, le-leb, le-ltb, leb-false, leb-true, lt-leb, lt-ltb, ltb-false, ltb-true, ne_eqb, not-false}
pub use borrow.Author.Tests.{not-true}
pub use borrow.Author.Rules.{rules, scaled_Fits}
