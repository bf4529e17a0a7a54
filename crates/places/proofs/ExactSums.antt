-- Laws of sums in two limbs. Assumes nothing.
use Rattle.wire.proofs.Prelude.{Bool, ◌%◌, ◌*◌, ◌+◌, ◌-◌, ◌/◌, ◌<◌, ◌^◌, ◌≡◌, ◌≤◌, arith, cond, false, true, ℕ}
use Rattle.ledgers.specs.Limits.{max_amount}
use Rattle.places.specs.ExactSums.{Added, Halves, IsNoSum, wide}
use Rattle.places.specs.declared.exact_sums.Wide.{Wide}

-- ## Two limbs and the number that they stand for

-- the same number in its one form is the same limbs
pub same_limbs : (v w : Wide)
    → v.low < 2 ^ 63
    → w.low < 2 ^ 63
    → wide v ≡ wide w
    → (v.high ≡ w.high) × (v.low ≡ w.low)
unfolding wide
same_limbs v w a b e = (omega arith, omega arith)

-- the same limbs are the same number
pub same_wide : (v w : Wide) → v.high ≡ w.high → v.low ≡ w.low → wide v ≡ wide w
unfolding wide
same_wide v w a b = rw (a, b)

-- a number without a high limb is an amount
pub wide_fits : (w : Wide) → w.low < 2 ^ 63 → w.high ≡ 0 → wide w ≤ max_amount
unfolding wide
wide_fits w a e = omega arith

-- a number with a high limb is more than every amount
pub wide_passes : (w : Wide) → (w.high ≡ 0 → ⊥) → max_amount < wide w
unfolding wide
wide_passes w e = omega arith

-- ## One number more

-- one number added after another is their sum added
pub added_after : {u v w : Wide} {x y p q : ℕ} → Added u x p v → Added v y q w → Added u (x + y) (p + q) w
added_after {u} {v} {w} {x} {y} {p} {q} a b =
    record {
      value = omega (arith, a.value, b.value);
      low_fits = b.low_fits;
      high_most = omega (arith, a.high_most, b.high_most);
    }

-- what was added to the sum of no number
pub added_value : {v w : Wide} {x n : ℕ} → IsNoSum v → Added v x n w → wide w ≡ x
unfolding wide
added_value z a = omega (arith, a.value, z.0, z.1)

-- ## Two sums of halves

-- no number
pub halves_none : (s k : ℕ) → s ≡ 0 → Halves s k 0 0
halves_none s k e = record { value = omega (arith, e); high_most = omega arith; low_most = omega arith }

-- a number is its two halves
halves_of : (a : ℕ) → a / 2 ^ 32 * 2 ^ 32 + a % 2 ^ 32 ≡ a
halves_of a = omega arith

-- the high half of a number below 2^64
half_high : (a : ℕ) → a < 2 ^ 64 → a / 2 ^ 32 ≤ 2 ^ 32 - 1
half_high a h = omega arith

-- the low half of a number
half_low : (a : ℕ) → a % 2 ^ 32 ≤ 2 ^ 32 - 1
half_low a = omega arith

-- the sums with two halves more
with_halves : (s k high low a x y t m : ℕ) → Halves s k high low → x * 2 ^ 32 + y ≡ a → x ≤ 2 ^ 32 - 1 → y ≤ 2 ^ 32 - 1
    → t ≡ s + a → m ≡ k + 1 → Halves t m (high + x) (low + y)
with_halves s k high low a x y t m h e p q u v =
    record {
      value = omega (arith, h.value, e, u);
      high_most = omega (arith, h.high_most);
      low_most = omega (arith, h.low_most);
    }

-- one number more
pub halves_more : (s k high low a t m : ℕ) → Halves s k high low → a < 2 ^ 64 → t ≡ s + a → m ≡ k + 1
    → Halves t m (high + a / 2 ^ 32) (low + a % 2 ^ 32)
halves_more s k high low a t m h p u v =
    with_halves s k high low a (a / 2 ^ 32) (a % 2 ^ 32) t m h (halves_of a) (half_high a p) (half_low a) u v

-- those of other numbers too
pub halves_both : {s k high low t m above below : ℕ} → Halves s k high low → Halves t m above below
    → Halves (s + t) (k + m) (high + above) (low + below)
halves_both {s} {k} {high} {low} {t} {m} {above} {below} a b =
    record {
      value = omega (arith, a.value, b.value);
      high_most = omega (arith, a.high_most, b.high_most);
      low_most = omega (arith, a.low_most, b.low_most);
    }

-- a number that is counted or not
pub counted_most : (t : Bool) (x y : ℕ) → x < y → cond t x 0 < y
counted_most true x y h = h
counted_most false x y h = omega arith

-- what may be added to limbs
pub halves_fit : {s k high low : ℕ} (h : ℕ) → Halves s k high low → h + 2 * k < 65535
    → (low < 2 ^ 63) × (h * 2 ^ 31 + high < 65535 * 2 ^ 31)
halves_fit h a p = (omega (arith, a.low_most), omega (arith, a.high_most))

-- sums of halves added to a sum
pub halves_added : (v w : Wide) {s k high low : ℕ} → Halves s k high low → wide w ≡ wide v + (high * 2 ^ 32 + low)
    → Added v s (2 * k) w
unfolding wide
halves_added v w h e =
    record {
      value = omega (arith, h.value, e);
      low_fits = w.low_fits;
      high_most = omega (arith, h.high_most, h.low_most, e, v.low_fits, w.low_fits);
    }
