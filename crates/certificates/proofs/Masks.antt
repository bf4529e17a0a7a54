-- The mask of signers: its leading zeros tell whether a bit beyond the committee's is set. Assumes nothing.
use Rattle.wire.proofs.Prelude.{◌*◌, ◌+◌, ◌<◌, ◌^◌, ◌∙◌, ◌≡◌, ◌≤◌, arith, false, le-leb, le-ltb, leb, lt-leb, lt-ltb, ltb, refl, suc, sym, ℕ}
use native.Mathlib.Decide.{dec_le}
use native.Mathlib.Nat.{pow-succ'}
use lib.Count.{leading_length, count_leading_zeros, ones}
use lib.Pow.{pow_mono}
use Rattle.certificates.specs.Certificates.{SignersHold, enough_signers, signer_rows}
use Rattle.wire.proofs.Lists.{every_not, every_one, every_skip}
use Rattle.wire.specs.BigEndian.{every}

-- a mask of w bits has all its bits among the first n exactly where the zeros above them and n make up w at least
pub bits_within : (w n mask : ℕ) → mask < 2 ^ w → leb w (count_leading_zeros w mask + n) ≡ ltb mask (2 ^ n)
bits_within w n mask h = go (leading_length w mask h)
  where
    go : (m : ℕ) × (count_leading_zeros w mask + m ≡ w) × (mask < 2 ^ m) × (2 ^ m ≤ 2 * mask + 1)
        → leb w (count_leading_zeros w mask + n) ≡ ltb mask (2 ^ n)
    go t = by (dec_le t.0 n)
      where
        by : Dec (t.0 ≤ n) → leb w (count_leading_zeros w mask + n) ≡ ltb mask (2 ^ n)
        by (yes l) = le-leb w (count_leading_zeros w mask + n) (omega (arith, t.1)) ∙ sym (lt-ltb mask (2 ^ n) (omega (arith, t.2, pow_mono l)))
        by (no l) =
            let more : suc n ≤ t.0 = omega arith in
            lt-leb w (count_leading_zeros w mask + n) (omega (arith, t.1))
            ∙ sym (le-ltb mask (2 ^ n) (omega (arith, t.3, pow_mono more, pow-succ' 2 n)))

-- too few bits
pub few : (k signers : ℕ) → ones signers ≤ k → enough_signers k signers ≡ false
unfolding enough_signers
few k signers h = every_not 0 _ (le-ltb k (ones signers) h)

-- enough, if none is beyond
pub many : (k signers : ℕ) → k < ones signers → signers < 2 ^ 64 → enough_signers k signers ≡ leb 64 (count_leading_zeros 64 signers + 2 * k)
unfolding enough_signers
many k signers h f = every_skip _ _ (lt-ltb k (ones signers) h) ∙ every_one _ ∙ sym (bits_within 64 (2 * k) signers f)

-- the rows hold
pub signers_hold_lem : SignersHold
unfolding SignersHold signer_rows enough_signers every ones
signers_hold_lem = refl
