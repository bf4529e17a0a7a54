-- Walks down the chain of a number of a table, for a test that only places with the number meet. Assumes nothing.
use Rattle.wire.proofs.Prelude.{Bool, List, ◌%◌, ◌+◌, ◌-◌, ◌<◌, ◌≡◌, false, get_or, refl, sym, true, ℕ}
use Rattle.places.proofs.Walks.{WalkOver, over_end, over_first, over_found, over_next}
use Rattle.places.specs.NumberIndex.{chain_count}
use Rattle.places.specs.OverPlaces.{any_at}
use Rattle.table.specs.Table.{IndexOf, number_at}

-- a walk for a test of places with number x
abbrev pub WalkFor : List ℕ → ℕ → ℕ → (ℕ → Bool) → ℕ → ℕ → Type 0
WalkFor s from n p x at = WalkOver (number_at s from) n p x at

module _ (s : List ℕ) (from : ℕ) (index : List ℕ) (base n : ℕ) (c : IndexOf s from index base n) (p : ℕ → Bool) (x : ℕ)
    (has : (j : ℕ) → p j ≡ true → x ≡ number_at s from j) where
  abbrev heads : ℕ → ℕ
  heads h = get_or index (base + h) 0

  abbrev nexts : ℕ → ℕ
  nexts k = get_or index (base + chain_count + k) 0

  -- it starts at the head
  pub walk_first : (at h : ℕ) → h ≡ x % chain_count → at ≡ get_or index (base + h) 0 → WalkFor s from n p x at
  walk_first = over_first (number_at s from) heads nexts n c p x has

  module _ (at : ℕ) (w : WalkFor s from n p x at) where
    -- it goes on
    pub walk_next : (to : ℕ) → 0 < at → p (at - 1) ≡ false → to ≡ get_or index (base + chain_count + (at - 1)) 0 → WalkFor s from n p x to
    walk_next = over_next (number_at s from) heads nexts n c p x has at w

    -- it finds a place
    pub walk_found : 0 < at → p (at - 1) ≡ true → any_at p 0 n ≡ true
    walk_found = over_found (number_at s from) heads nexts n c p x has at w

    -- or none meets the test
    pub walk_end : at ≡ 0 → any_at p 0 n ≡ false
    walk_end = over_end (number_at s from) heads nexts n c p x has at w

  -- none meets it where the chain is empty
  pub chain_empty : (h : ℕ) → h ≡ x % chain_count → get_or index (base + h) 0 ≡ 0 → any_at p 0 n ≡ false
  chain_empty h q z = walk_end 0 (walk_first 0 h q (sym z)) refl
