-- An index of a ledger's numbers, beside its table: chains of places by the low bits of their numbers. Of each value of the low bits
-- it has the last place, and of each place the one before it with the same low bits. A place is kept as itself plus one; 0 ends a
-- chain. Assumes nothing.
use Rattle.std.specs.Prelude.{ℕ, ◌+◌, ◌-◌, ◌%◌, ◌<◌, ◌≤◌, ◌≡◌, List, length, get_or}

-- the number of chains
abbrev pub chain_count : ℕ
chain_count = 4096

-- heads and nexts are the chains of the first n places
pub record Chains (f heads nexts : ℕ → ℕ) (n : ℕ) : Type 0 where
  pub head_low : (j : ℕ) → j < n → j + 1 ≤ heads (f j % chain_count)
  pub head_most : (h : ℕ) → h < chain_count → heads h ≤ n
  pub head_is : (h : ℕ) → h < chain_count → 0 < heads h → f (heads h - 1) % chain_count ≡ h
  pub next_low : (k j : ℕ) → k < n → j < k → f j % chain_count ≡ f k % chain_count → j + 1 ≤ nexts k
  pub next_most : (k : ℕ) → k < n → nexts k ≤ k
  pub next_is : (k : ℕ) → k < n → 0 < nexts k → f (nexts k - 1) % chain_count ≡ f k % chain_count

-- ys are xs but for the places from a up to b
pub record Kept (a b : ℕ) (xs ys : List ℕ) : Type 0 where
  pub long : length ys ≡ length xs
  pub before : (k : ℕ) → k < a → get_or ys k 0 ≡ get_or xs k 0
  pub after : (k : ℕ) → b ≤ k → get_or ys k 0 ≡ get_or xs k 0
