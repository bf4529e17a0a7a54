-- Laws of a test of two places that holds at no two, one place more at a time. Assumes nothing.
use Rattle.wire.proofs.Prelude.{Bool, ◌+◌, ◌<◌, ◌||◌, ◌∙◌, ◌≡◌, ◌≤◌, ap, arith, eq-or-lt_of_le, false, refl, suc, sym, true, zero, ℕ}
use Rattle.wire.proofs.Prelude.{⊎_elim}
use Rattle.places.proofs.OverPlaces.{apart_all_lem, apart_not}
use Rattle.places.specs.OverPlaces.{any_at, apart_at}
use Rattle.rules.proofs.Lists.{never_both_tests, or_neither}

-- it holds at no two of the first n places
abbrev pub Apart : (ℕ → ℕ → Bool) → ℕ → Type 0
Apart p n = (j k : ℕ) → j < k → k < n → p j k ≡ false

-- a test that holds at one of the places has a place where it holds
any_found : {C : Type 0} (p : ℕ → Bool) (i n : ℕ)
    → any_at p i n ≡ true
    → ((j : ℕ) → i ≤ j → j < i + n → p j ≡ true → C)
    → C
unfolding any_at
any_found p i zero h k = absurd (never_both_tests (sym h))
any_found {C} p i (suc n) h k =
    by (p i) (any_at p (suc i) n) refl h (λ g. any_found p (suc i) n g (λ j a b. k j (omega arith) (omega arith)))
  where
    by : (t s : Bool) → p i ≡ t → (t || s) ≡ true → (s ≡ true → C) → C
    by true s q g r = k i (omega arith) (omega arith) q
    by false s q g r = r g

-- one that holds at none does not hold at any of them
any_not : (p : ℕ → Bool) (i n j : ℕ) → any_at p i n ≡ false → i ≤ j → j < i + n → p j ≡ false
unfolding any_at
any_not p i zero j h a b = absurd (omega arith)
any_not p i (suc n) j h a b =
    let u = or_neither (p i) (any_at p (suc i) n) h in
    ⊎_elim (λ (q : i ≡ j). sym (ap p q) ∙ u.0) (λ q. any_not p (suc i) n j u.1 q (omega arith)) (eq-or-lt_of_le a)

module _ (p : ℕ → ℕ → Bool) where
  -- one place more
  pub apart_more : (i : ℕ) → Apart p i → ((j : ℕ) → j < i → p j i ≡ false) → Apart p (i + 1)
  apart_more i h none j k a b =
      ⊎_elim
      (λ (r : k ≡ i). ap (p j) r ∙ none j (rw r at a))
      (λ r. h j k a r)
      (eq-or-lt_of_le (let z : k ≤ i = omega arith in z))

  -- all of them
  pub apart_every : (n : ℕ) → Apart p n → apart_at p 0 n ≡ true
  apart_every n h = apart_all_lem p 0 n (λ j k x y w. h j k y (omega arith))

  module _ (turned : (j k : ℕ) → p j k ≡ p k j) (i : ℕ) where
    -- the test holds at a place with one before it
    pub place_twice : (n : ℕ) → i < n → any_at (p i) 0 i ≡ true → apart_at p 0 n ≡ false
    place_twice n b h =
        any_found (p i) 0 i h (λ j x y e. apart_not p 0 n j i x (omega arith) (omega arith) (turned j i ∙ e))

    -- with none before it
    pub place_fresh : any_at (p i) 0 i ≡ false → (j : ℕ) → j < i → p j i ≡ false
    place_fresh h j x = turned j i ∙ any_not (p i) 0 i j h (omega arith) (omega arith)
