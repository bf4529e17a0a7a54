-- The library's text of a number is its decimal digits. Assumes nothing.
use Rattle.wire.proofs.Prelude.{List, [], ◌%◌, ◌*◌, ◌++◌, ◌+◌, ◌/◌, ◌<◌, ◌^◌, ◌∷◌, ◌≡◌, ◌≤◌}
use Rattle.wire.proofs.Prelude.{arith, le-ltb}
use Rattle.wire.proofs.Prelude.{lt-ltb, pow-suc, refl, suc}
use Rattle.wire.proofs.Prelude.{zero, ℕ}
use Rattle.std.proofs.lemmas.Fmt.{decimal_by_steps}
use Rattle.std.specs.Fmt.{decimal as number_digits}
use Rattle.listing_lines.specs.Lines.{decimal, decimal_in}

-- a number below 10^k, for some k above 0, has the decimal digits ds
DigitsOf : ℕ → List ℕ → Type 0
DigitsOf n ds = (k : ℕ) → n < 10 ^ suc k → decimal_in (suc k) n ≡ ds

-- a number below 10 has one digit
digits_one : (n : ℕ) → n < 10 → DigitsOf n ((48 + n) ∷ [])
unfolding decimal_in DigitsOf
digits_one n h k f = rw (lt-ltb n 10 h) refl

-- another has those of its tenth part and one more
digits_more : (n : ℕ) (ds : List ℕ) → 10 ≤ n → DigitsOf (n / 10) ds → DigitsOf n (ds ++ (48 + n % 10) ∷ [])
unfolding decimal_in DigitsOf
digits_more n ds h p zero f = absurd (omega arith)
digits_more n ds h p (suc k) f =
    let q : 10 ^ suc (suc k) ≡ 10 ^ suc k * 10 = pow-suc 10 (suc k) in
    rw (le-ltb n 10 h, p k (omega (arith, q))) refl

-- the library's text of a number of 64 bits is its decimal digits
pub text_decimal : (n : ℕ) → n < 2 ^ 64 → decimal n ≡ number_digits n
unfolding decimal DigitsOf
text_decimal n h = decimal_by_steps DigitsOf digits_one digits_more n h 19 (omega arith)
