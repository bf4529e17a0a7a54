-- A sum in two limbs, against an amount and against another one. Assumes nothing.
use Rattle.wire.proofs.Prelude.{Bool, ◌<◌, ◌^◌, ◌≡◌, ◌≤◌, ap, arith, eq-eqb, eqb, eqb-false, eqb-true, false, ne_eqb, refl, sym, true, ℕ}
use Rattle.ledgers.specs.Limits.{max_amount}
use Rattle.places.proofs.ExactSums.{same_limbs, same_wide, wide_passes}
use Rattle.places.specs.ExactSums.{wide}
use Rattle.places.specs.declared.exact_sums.Wide.{Wide}

-- with a high limb it is no amount
pub high_passes : (w : Wide) (x supply : ℕ) → wide w ≡ x → supply ≤ max_amount → (w.high ≡ 0 → ⊥) → false ≡ eqb x supply
high_passes w x supply e fits high = sym (ne_eqb x supply (λ q. omega (arith, q, e, fits, wide_passes w high)))

-- without one it is its low limb
pub low_compares : (w : Wide) (x supply : ℕ) → wide w ≡ x → w.high ≡ 0 → eqb w.low supply ≡ eqb x supply
unfolding wide
low_compares w x supply e high = ap (λ (y : ℕ). eqb y supply) (let z : w.low ≡ x = omega (arith, e, high) in z)

module _ (v w : Wide) (x y : ℕ) (a : v.low < 2 ^ 63) (b : w.low < 2 ^ 63) (p : wide v ≡ x) (q : wide w ≡ y) where
  -- high limbs that differ are sums that differ
  pub high_differs : (v.high ≡ w.high → ⊥) → false ≡ eqb x y
  high_differs differs = rw (← p, ← q) (sym (ne_eqb (wide v) (wide w) (λ e. differs (same_limbs v w a b e).0)))

  -- under the same high limb the low limbs are compared
  pub low_compared : v.high ≡ w.high → eqb v.low w.low ≡ eqb x y
  low_compared high = rw (← p, ← q) (by (eqb v.low w.low) refl)
    where
      by : (t : Bool) → eqb v.low w.low ≡ t → t ≡ eqb (wide v) (wide w)
      by true test = sym (eq-eqb _ _ (same_wide v w high (eqb-true _ _ test)))
      by false test = sym (ne_eqb _ _ (λ e. eqb-false _ _ test (same_limbs v w a b e).1))
