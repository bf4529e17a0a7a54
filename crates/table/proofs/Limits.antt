-- The head of a record in parts, and what it shows to be below the limits of its kind. Assumes nothing.
use Rattle.wire.proofs.Prelude.{◌%◌, ◌*◌, ◌+◌, ◌/◌, ◌<◌, ◌^◌, ◌≡◌, ◌≤◌, arith, cond, div-add-mod, div-div-eq-div-mul, eqb, get_or, suc, zero}
use Rattle.wire.proofs.Prelude.{ℕ}
use Rattle.ledgers.specs.Limits.{account_limit}
use Rattle.table.specs.Table.{head_bases, receiver_limits, sender_limits}

-- a head is kind, ledger, sender, receiver and two bytes more
pub record Parts (head kind ledger sender receiver zeros : ℕ) : Type 0 where
  pub whole : head ≡ kind * 2 ^ 56 + ledger * 2 ^ 48 + sender * 2 ^ 32 + receiver * 2 ^ 16 + zeros
  pub ledger_fits : ledger < 2 ^ 8
  pub sender_fits : sender < 2 ^ 16
  pub receiver_fits : receiver < 2 ^ 16
  pub zeros_fit : zeros < 2 ^ 16

-- as every number is
pub parts_of_lem : (head : ℕ)
    → Parts head (head / 2 ^ 56) (head / 2 ^ 48 % 256) (head / 2 ^ 32 % 2 ^ 16) (head / 2 ^ 16 % 2 ^ 16) (head % 2 ^ 16)
parts_of_lem head =
    let a : head / 2 ^ 16 / 2 ^ 16 ≡ head / 2 ^ 32 = div-div-eq-div-mul head (2 ^ 16) (2 ^ 16) in
    let b : head / 2 ^ 32 / 2 ^ 16 ≡ head / 2 ^ 48 = div-div-eq-div-mul head (2 ^ 32) (2 ^ 16) in
    let c : head / 2 ^ 48 / 256 ≡ head / 2 ^ 56 = div-div-eq-div-mul head (2 ^ 48) 256 in
    let u = div-add-mod head (2 ^ 16) in
    let v = div-add-mod (head / 2 ^ 16) (2 ^ 16) in
    let x = div-add-mod (head / 2 ^ 32) (2 ^ 16) in
    let y = div-add-mod (head / 2 ^ 48) 256 in
    record {
      whole = omega (arith, a, b, c, u, v, x, y);
      ledger_fits = omega arith;
      sender_fits = omega arith;
      receiver_fits = omega arith;
      zeros_fit = omega arith;
    }

module _ (l own other : ℕ) (hl : l ≤ 1) (ho : own ≤ account_limit) (ht : other ≤ account_limit) where
  -- no head is far above the last base
  base_most : (j : ℕ) → get_or (head_bases l) j 0 + get_or (sender_limits own other) j 0 < 4 * 2 ^ 56
  base_most zero = omega arith
  base_most (suc zero) = omega arith
  base_most (suc (suc zero)) = omega arith
  base_most (suc (suc (suc zero))) = omega arith
  base_most (suc (suc (suc (suc j)))) = omega arith

  -- how far a head is above a base below the limit, counted round 2^64, is how far it is
  near_base : (j head d : ℕ) → (d + get_or (head_bases l) j 0) % 2 ^ 64 ≡ head → d < get_or (sender_limits own other) j 0
      → head ≡ d + get_or (head_bases l) j 0
  near_base j head d e h = omega (arith, e, h, base_most j)

  -- a head so near to the base of its kind: a right kind, the ledger, and a sender whose account is open
  pub below_head : (k head m s r z d : ℕ) → Parts head k m s r z → (d + get_or (head_bases l) (k % 4) 0) % 2 ^ 64 ≡ head
      → d < get_or (sender_limits own other) (k % 4) 0 → (0 < k) × (k ≤ 3) × (m ≡ l) × (s < cond (eqb k 3) other own)
  below_head zero head m s r z d p e h = absurd (omega arith)
  below_head (suc zero) head m s r z d p e h =
      let w : head ≡ d + (2 ^ 56 + l * 2 ^ 48) = near_base 1 head d e h in
      let q : m ≡ l = omega (arith, w, h, p.whole, p.sender_fits, p.receiver_fits, p.zeros_fit) in
      (omega arith, omega arith, q, omega (arith, w, h, p.whole, q))
  below_head (suc (suc zero)) head m s r z d p e h =
      let w : head ≡ d + (2 * 2 ^ 56 + l * 2 ^ 48) = near_base 2 head d e h in
      let q : m ≡ l = omega (arith, w, h, p.whole, p.sender_fits, p.receiver_fits, p.zeros_fit) in
      (omega arith, omega arith, q, omega (arith, w, h, p.whole, q))
  below_head (suc (suc (suc zero))) head m s r z d p e h =
      let w : head ≡ d + (3 * 2 ^ 56 + l * 2 ^ 48) = near_base 3 head d e h in
      let q : m ≡ l = omega (arith, w, h, p.whole, p.sender_fits, p.receiver_fits, p.zeros_fit) in
      (omega arith, omega arith, q, omega (arith, w, h, p.whole, q))
  below_head (suc (suc (suc (suc k)))) head m s r z d p e h =
      let j = suc (suc (suc (suc k))) % 4 in
      absurd (omega (arith, near_base j head d e h, h, base_most j, p.whole))

  -- how far a head is above its base
  above_base : (head d base : ℕ) → (d + base) % 2 ^ 64 ≡ head → d < 2 ^ 64 → base ≤ head → head < 2 ^ 64 → d + base ≡ head
  above_base head d base e hd hb hh = omega (arith, e, hd, hb, hh)

  -- and back
  pub head_below : (k head s r z d : ℕ) → Parts head k l s r z → (d + get_or (head_bases l) (k % 4) 0) % 2 ^ 64 ≡ head → d < 2 ^ 64
      → head < 2 ^ 64 → 0 < k → k ≤ 3 → s < cond (eqb k 3) other own → d < get_or (sender_limits own other) (k % 4) 0
  head_below zero head s r z d p e hd hh a b h = absurd (omega arith)
  head_below (suc zero) head s r z d p e hd hh a b h =
      let w : d + (2 ^ 56 + l * 2 ^ 48) ≡ head = above_base head d _ e hd (omega (arith, p.whole)) hh in
      omega (arith, w, h, p.whole, p.receiver_fits, p.zeros_fit)
  head_below (suc (suc zero)) head s r z d p e hd hh a b h =
      let w : d + (2 * 2 ^ 56 + l * 2 ^ 48) ≡ head = above_base head d _ e hd (omega (arith, p.whole)) hh in
      omega (arith, w, h, p.whole, p.receiver_fits, p.zeros_fit)
  head_below (suc (suc (suc zero))) head s r z d p e hd hh a b h =
      let w : d + (3 * 2 ^ 56 + l * 2 ^ 48) ≡ head = above_base head d _ e hd (omega (arith, p.whole)) hh in
      omega (arith, w, h, p.whole, p.receiver_fits, p.zeros_fit)
  head_below (suc (suc (suc (suc k)))) head s r z d p e hd hh a b h = absurd (omega arith)

  -- a receiver below the limit of its kind: zeros, and its account is open
  pub below_receiver : (k r z : ℕ) → 0 < k → k ≤ 3 → z * 2 ^ 16 + r < get_or (receiver_limits own other) (k % 4) 0
      → (z ≡ 0) × (r < cond (eqb k 2) other own)
  below_receiver zero r z a b h = absurd (omega arith)
  below_receiver (suc zero) r z a b h = (omega arith, omega arith)
  below_receiver (suc (suc zero)) r z a b h = (omega arith, omega arith)
  below_receiver (suc (suc (suc zero))) r z a b h = (omega arith, omega arith)
  below_receiver (suc (suc (suc (suc k)))) r z a b h = absurd (omega arith)

  -- and back
  pub receiver_below : (k r z : ℕ) → 0 < k → k ≤ 3 → z ≡ 0 → r < cond (eqb k 2) other own
      → z * 2 ^ 16 + r < get_or (receiver_limits own other) (k % 4) 0
  receiver_below zero r z a b e h = absurd (omega arith)
  receiver_below (suc zero) r z a b e h = omega (arith, e, h)
  receiver_below (suc (suc zero)) r z a b e h = omega (arith, e, h)
  receiver_below (suc (suc (suc zero))) r z a b e h = omega (arith, e, h)
  receiver_below (suc (suc (suc (suc k)))) r z a b e h = absurd (omega arith)
