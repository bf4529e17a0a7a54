-- Sums that may pass 64 bits, in two limbs. Assumes nothing.
use Rattle.std.specs.Prelude.{ℕ, ◌+◌, ◌*◌, ◌-◌, ◌^◌, ◌<◌, ◌≤◌, ◌≡◌}
use Rattle.places.specs.declared.exact_sums.Wide.{Wide}

-- the number that two limbs stand for
unfoldable pub wide : Wide → ℕ
wide w = w.high * 2 ^ 63 + w.low

-- w is the sum of no number
abbrev pub IsNoSum : Wide → Type 0
IsNoSum w = (w.high ≡ 0) × (w.low ≡ 0)

-- w is v and x more, in its one form, and its high limb grew by at most n
pub record Added (v : Wide) (x n : ℕ) (w : Wide) : Type 0 where
  pub value : wide w ≡ wide v + x
  pub low_fits : w.low < 2 ^ 63
  pub high_most : w.high ≤ v.high + n

-- the high and the low sum of the halves, by 2^32, of k numbers whose sum is s
pub record Halves (s k high low : ℕ) : Type 0 where
  pub value : high * 2 ^ 32 + low ≡ s
  pub high_most : high ≤ k * (2 ^ 32 - 1)
  pub low_most : low ≤ k * (2 ^ 32 - 1)
