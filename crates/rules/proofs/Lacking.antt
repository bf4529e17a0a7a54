-- A number at most as large as a list is long that is not in the list. Assumes nothing.
use Rattle.wire.proofs.Prelude.{Bool, List, [], ◌<◌, ◌∙◌, ◌∷◌, ◌≡◌, ◌≤◌, ap, arith, dichotomy, eqb, false, inl, inr, length, ne_eqb, refl}
use Rattle.wire.proofs.Prelude.{suc, sym, true, zero, ℕ}
use native.Mathlib.Decide.{ℕ_discrete}
use Rattle.rules.proofs.Lists.{never_both_tests, or_neither, or_second}
use Rattle.rules.specs.Lists.{any}

-- a number is in a list
unfoldable pub is_in : ℕ → List ℕ → Bool
is_in n xs = any (λ (x : ℕ). eqb n x) xs

-- a list without one occurrence of a number
record Without (n : ℕ) (xs : List ℕ) : Type 0 where
  rest : List ℕ
  shorter : suc (length rest) ≡ length xs
  keeps : (m : ℕ) → (m ≡ n → ⊥) → is_in m rest ≡ false → is_in m xs ≡ false

-- there is one for a number that is in the list
without : (n : ℕ) (xs : List ℕ) → is_in n xs ≡ true → Without n xs
unfolding is_in any
without n [] h = absurd (never_both_tests (sym h))
without n (x ∷ xs) h =
    elim (ℕ_discrete n x) [
      | yes q ↦ record { rest = xs; shorter = refl; keeps = λ m ne k. simp (ne_eqb m x (λ p. ne (p ∙ sym q)), k) }
      | no q ↦
          let w = without n xs (or_second (eqb n x) (is_in n xs) h (ne_eqb n x q)) in
          record {
            rest = x ∷ w.rest;
            shorter = ap suc w.shorter;
            keeps = λ m ne k. let u = or_neither (eqb m x) (is_in m w.rest) k in simp (u.0, w.keeps m ne u.1);
          }
    ]

-- of more numbers than a list is long, one is not in it
lacking_below : (n : ℕ) (xs : List ℕ) → length xs < n → (m : ℕ) × (m < n) × (is_in m xs ≡ false)
lacking_below zero xs h = absurd (omega arith)
lacking_below (suc n) xs h =
    elim (dichotomy (is_in n xs)) [
      | inl q ↦ (n, omega arith, q)
      | inr q ↦
          let w = without n xs q in
          let f = lacking_below n w.rest (omega (arith, w.shorter)) in
          (f.0, omega (arith, f.1), w.keeps f.0 (omega (arith, f.1)) f.2)
    ]

-- a number that is not in the list, at most as large as it is long
pub lacking : (xs : List ℕ) → (m : ℕ) × (m ≤ length xs) × (is_in m xs ≡ false)
lacking xs = let f = lacking_below (suc (length xs)) xs (omega arith) in (f.0, omega (arith, f.1), f.2)
