-- The charge by quotient and remainder of the amount, with no product of the whole amount; that it is never above the amount; the charge
-- where nothing is taken; and its rows. Other crates know no more of the charge than the second and the third. Assumes nothing.
use Rattle.wire.proofs.Prelude.{◌%◌, ◌*◌, ◌+◌, ◌/◌, ◌∙◌, ◌≡◌, ◌≤◌, add-mul, ap, arith, lit<, refl, ℕ}
use native.Mathlib.Nat.{mod-lt, mul_assoc, mul-le-mul_left}
use lib.Arith.{digits_div}
use Rattle.tariffs.specs.Tariffs.{ChargesHold, charge, rounded_rows, parts}
use Rattle.wire.specs.BigEndian.{every}

-- an amount times a rate, by the ten thousands of the amount and the rest
product : (rate amount : ℕ)
    → amount * rate ≡ (amount / parts * rate + amount % parts * rate / parts) * parts + amount % parts * rate % parts
product rate amount =
    let q = amount / parts in
    let s = amount % parts in
    let whole : amount ≡ parts * q + s = omega arith in
    let split : amount * rate ≡ parts * q * rate + s * rate = ap (λ (n : ℕ). n * rate) whole ∙ add-mul (parts * q) s rate in
    let assoc : parts * q * rate ≡ parts * (q * rate) = mul_assoc parts q rate in
    omega (arith, split, assoc)

-- the charge without that product
pub charge_parts : (rate amount : ℕ) → charge rate amount ≡ amount / parts * rate + amount % parts * rate / parts
unfolding charge
charge_parts rate amount =
    ap (λ (n : ℕ). n / parts) (product rate amount)
    ∙ digits_div (amount / parts * rate + amount % parts * rate / parts) (mod-lt (amount % parts * rate) (lit< tt))

-- the charge is at most the amount
pub charge_most : (rate amount : ℕ) → rate ≤ parts → charge rate amount ≤ amount
charge_most rate amount h =
    omega (arith, charge_parts rate amount, mul-le-mul_left (amount / parts) h, mul-le-mul_left (amount % parts) h)

-- nothing is taken at rate 0
pub charge_free : (amount : ℕ) → charge 0 amount ≡ 0
unfolding charge
charge_free amount = omega arith

-- the rows hold
pub charges_hold : ChargesHold
unfolding ChargesHold rounded_rows charge every
charges_hold = refl
