-- Tests of four places at a time. Assumes nothing.
use Rattle.wire.proofs.Prelude.{Bool, List, ◌*◌, ◌+◌, ◌-◌, ◌<◌, ◌||◌, ◌∙◌, ◌≡◌, ap, ap₂, arith, eqb, eqb-false, false, get_or, or_assoc, or-false}
use Rattle.wire.proofs.Prelude.{refl, suc, sym, true, zero, ℕ}
use Rattle.places.specs.OverPlaces.{any_at}
use Rattle.rules.proofs.Lists.{or_neither}
use Rattle.table.specs.Table.{number_at, numbered_at}

-- four tests and a rest
regroup : (a b c d r : Bool) → (a || (b || (c || (d || r)))) ≡ ((a || (b || (c || (d || false)))) || r)
regroup true b c d r = refl
regroup false true c d r = refl
regroup false false true d r = refl
regroup false false false true r = refl
regroup false false false false r = refl

module _ (p : ℕ → Bool) (i : ℕ) where
  -- four places one by one
  pub four_are : any_at p i 4 ≡ (p i || (p (i + 1) || (p (i + 2) || p (i + 3))))
  unfolding any_at
  four_are =
      let a : suc i ≡ i + 1 = omega arith in
      let b : suc (i + 1) ≡ i + 2 = omega arith in
      let c : suc (i + 2) ≡ i + 3 = omega arith in
      rw (a, b, c, or-false (p (i + 3)))

  module _ (end : ℕ) (h : i + 3 < end) where
    -- four places and those after them
    four_left : any_at p i (end - i) ≡ (any_at p i 4 || any_at p (i + 4) (end - (i + 4)))
    unfolding any_at
    four_left =
        let m = end - (i + 4) in
        let z : end - i ≡ suc (suc (suc (suc m))) = omega arith in
        let k : suc (suc (suc (suc i))) ≡ i + 4 = omega arith in
        ap (any_at p i) z
        ∙ regroup (p i) (p (suc i)) (p (suc (suc i))) (p (suc (suc (suc i)))) (any_at p (suc (suc (suc (suc i)))) m)
        ∙ ap (λ (j : ℕ). any_at p i 4 || any_at p j m) k

    -- the test holds at one of four
    pub four_here : any_at p i 4 ≡ true → any_at p i (end - i) ≡ true
    four_here e = four_left ∙ ap (λ (t : Bool). t || any_at p (i + 4) (end - (i + 4))) e

    -- it holds at none of them
    pub four_on : any_at p i 4 ≡ false → any_at p i (end - i) ≡ any_at p (i + 4) (end - (i + 4))
    four_on e = four_left ∙ ap (λ (t : Bool). t || any_at p (i + 4) (end - (i + 4))) e

-- ## Numbers

module _ (x : ℕ) (s : List ℕ) (from : ℕ) where
  -- the numbers of four places, by their words
  pub four_numbers : (i : ℕ)
      → ((eqb x (get_or s (from + 4 * i + 1) 0) || eqb x (get_or s (from + 4 * i + 5) 0))
      || (eqb x (get_or s (from + 4 * i + 9) 0) || eqb x (get_or s (from + 4 * i + 13) 0)))
      ≡ any_at (numbered_at x s from) i 4
  four_numbers i =
      let a : from + 4 * i + 5 ≡ from + 4 * (i + 1) + 1 = omega arith in
      let b : from + 4 * i + 9 ≡ from + 4 * (i + 2) + 1 = omega arith in
      let c : from + 4 * i + 13 ≡ from + 4 * (i + 3) + 1 = omega arith in
      rw (a, b, c)
      (or_assoc (numbered_at x s from i) (numbered_at x s from (i + 1)) (numbered_at x s from (i + 2) || numbered_at x s from (i + 3))
      ∙ sym (four_are (numbered_at x s from) i))

  -- where no place has the number, none meets a test that only places with it meet
  pub unnumbered : (p : ℕ → Bool) (y : ℕ) → x ≡ y → ((j : ℕ) → p j ≡ true → y ≡ number_at s from j) → (i n : ℕ)
      → any_at (numbered_at x s from) i n ≡ false → any_at p i n ≡ false
  unfolding any_at
  unnumbered p y e only i zero h = refl
  unnumbered p y e only i (suc n) h =
      let u = or_neither (numbered_at x s from i) (any_at (numbered_at x s from) (suc i) n) h in
      ap₂ ◌||◌ (without (p i) (only i) u.0) (unnumbered p y e only (suc i) n u.1)
    where
      without : (t : Bool) → (t ≡ true → y ≡ number_at s from i) → numbered_at x s from i ≡ false → t ≡ false
      without false o q = refl
      without true o q = absurd (eqb-false _ _ q (e ∙ o refl))
