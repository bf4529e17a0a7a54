-- The kit's names that the proofs of all crates cite, passed on. Assumes nothing.
pub use Prim.Native.Nat.{◌%◌, ◌*◌, ◌+◌, ◌-◌, ◌/◌, ◌<◌, ◌^◌, ◌≤◌, min, suc, zero, ℕ}
pub use mathlib.Core.Bool.{Bool, ◌&&◌, ◌||◌, and-false, and-true, cond, false, false≢true, not, or_assoc, or-false, or-true, true}
pub use mathlib.Core.List.{List, [], ◌++◌, ◌∷◌, append_assoc, append-nil, map}
pub use mathlib.Core.Logic.Iff.{rfl as Iff·rfl}
pub use mathlib.Core.Logic.{◌↔◌, ◌⊎◌, inl, inr, ⊎_elim}
pub use mathlib.Core.Path.{◌∙◌, ◌≡◌, ap, ap₂, fun_ext, refl, subst, sym}
pub use mathlib.Mathlib.Data.Bool.Basic.{dichotomy}
pub use native.Mathlib.Nat.{add-mul, add-suc, add-zero, div-add-mod, div-add-mod', div-div-eq-div-mul, div-one, eq-or-lt_of_le, min-zero}
pub use native.Mathlib.Nat.{mod-eq_of_lt, mul-add-div_right, mul_comm, mul-div_cancel, mul-mod_left, not-suc-le-zero, one-le-pow}
pub use native.Mathlib.Nat.{pow-le-pow_right, pow-suc, suc-add, suc-min-suc, zero-add, zero-min}
pub use native.Mathlib.Numerals.{add-one}
pub use native.Mathlib.Omega.{arith}
pub use lib.Dec.{eqb, leb, lit<, lit≤, ltb}
pub use lib.ListN.{get_or-append as List·getD-append, get_or-eq_default as List·getD-eq-default, drop, drop_of_length-le, get_or, length, length-append, length-drop, length-map}
pub use lib.ListN.{length-replicate, length-set, length-take, replicate, replicate-append-replicate, set, take, take-append-drop}
pub use lib.Seq.{drop-append-le, drop-append_seam, drop_at, drop-cons, drop-drop, drop-nil, drop-set-add, drop-set-lt, get_or-append-add}
pub use lib.Seq.{get_or_at, get_or-drop, get_or-set_other, get_or-set_same, get_or-take, length-take-le, lt-length-set, paste, paste-suc, paste-zero}
pub use lib.Seq.{set-append_seam, set_at, set-get_or, set-set, take-add, take_all, take-append-le, take-append_seam, take_at, take-length}
pub use lib.Seq.{take-nil, take-set-lt, take-suc, take-suc-set, take-take}
pub use borrow.Author.Rules.{rules}
pub use borrow.Author.Tests.{eq-eqb, eqb-false, eqb-true, le-leb, le-ltb, leb-false, leb-true, lt-leb, lt-ltb, ltb-false, ltb-true, ne_eqb}
pub use borrow.Author.Tests.{not-false, not-true}
