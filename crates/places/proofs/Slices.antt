-- The numbers of a slice that is part of a longer one, and tests of all of them. Assumes nothing.
use Rattle.wire.proofs.Prelude.{Bool, List, ◌+◌, ◌-◌, ◌<◌, ◌∙◌, ◌≡◌, ◌≤◌, arith, drop, eq-eqb, eqb, eqb-true, false, get_or, length}
use Rattle.wire.proofs.Prelude.{ap, get_or-drop, get_or-take, length-drop, length-take, refl, sym, take, true, ℕ}
use Rattle.places.proofs.OverPlaces.{all_each, all_of}
use Rattle.places.specs.LedgerBalances.{zeros_at}
use Rattle.places.specs.OverPlaces.{all_at}
use Rattle.std.specs.Bool.{MatchBool}
use Rattle.std.specs.List.{AllWithin, HoldsAt}

-- n numbers from a place on
abbrev pub part : List ℕ → ℕ → ℕ → List ℕ
part xs from n = take (from + n - from) (drop from xs)

module _ (xs : List ℕ) (from n : ℕ) where
  -- one of them
  pub part_at : (k d : ℕ) → k < n → get_or (part xs from n) k d ≡ get_or xs (from + k) d
  part_at k d p =
      let b : k < from + n - from = omega arith in
      get_or-take (from + n - from) (drop from xs) k d b ∙ get_or-drop from xs k d

  -- how many
  pub part_length : from + n ≤ length xs → length (part xs from n) ≡ n
  part_length h = omega (arith, length-take (from + n - from) (drop from xs), length-drop from xs)

  -- their zeros, by a test of all
  pub part_zeros : (r : Bool) → from + n ≤ length xs
      → MatchBool r (AllWithin (λ (x : ℕ). x ≡ 0) (part xs from n) 0 (length (part xs from n)))
      ((k : ℕ) × (k < length (part xs from n)) × HoldsAt (λ (x : ℕ). x ≡ 0 → ⊥) (part xs from n) k)
      → r ≡ zeros_at xs from n
  unfolding zeros_at
  part_zeros true h m =
      sym
      (all_of (λ (i : ℕ). eqb (get_or xs i 0) 0) from n
      (λ j a b.
      let k : j - from < n = omega arith in
      let e : from + (j - from) ≡ j = omega arith in
      let z = m (j - from) 0 (omega arith) (omega (arith, part_length h)) in
      eq-eqb _ _ (ap (λ (i : ℕ). get_or xs i 0) (sym e) ∙ sym (part_at (j - from) 0 k) ∙ z)))
  part_zeros false h m = go (all_at zero from n) refl
    where
      zero : ℕ → Bool
      zero i = eqb (get_or xs i 0) 0

      go : (t : Bool) → all_at zero from n ≡ t → false ≡ t
      go false q = refl
      go true q =
          let k : m.0 < n = omega (arith, m.1, part_length h) in
          absurd (m.2 0 (part_at m.0 0 k ∙ eqb-true _ _ (all_each zero from n q (from + m.0) (omega arith) (omega arith))))
