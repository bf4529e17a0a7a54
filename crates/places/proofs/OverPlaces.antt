-- Laws of lists, tests and sums over places: what a loop at place i before an end cites, and how they meet the rules' lists.
-- Assumes nothing.
use Rattle.wire.proofs.Prelude.{Bool, List, [], ◌&&◌, ◌++◌, ◌+◌, ◌-◌, ◌<◌, ◌||◌, ◌∙◌, ◌∷◌, ◌≡◌, ◌≤◌, add-one, ap, arith, cond}
use Rattle.wire.proofs.Prelude.{eq-or-lt_of_le, false, length, not, refl, suc, sym, true, zero, ℕ, ⊎_elim}
use Rattle.places.specs.OverPlaces.{all_at, any_at, apart_at, list_at, sum_at}
use Rattle.rules.proofs.Lists.{never_both_tests, or_right}
use Rattle.rules.specs.Lists.{all, any, sum}
use Rattle.wire.proofs.Lists.{and_both}

-- ## A loop at place i before an end

-- the places left, where one is left
left : (i end : ℕ) → i < end → end - i ≡ suc (end - (i + 1))
left i end h = omega arith

module _ (p : ℕ → Bool) (i end : ℕ) where
  -- the test holds here
  pub any_here : i < end → p i ≡ true → any_at p i (end - i) ≡ true
  unfolding any_at
  any_here h e = rw (left i end h, e)

  -- it does not hold here
  pub any_on : i < end → p i ≡ false → any_at p i (end - i) ≡ any_at p (i + 1) (end - (i + 1))
  unfolding any_at
  any_on h e = rw (left i end h, e, add-one)

  -- no place is left
  pub any_end : end ≤ i → any_at p i (end - i) ≡ false
  unfolding any_at
  any_end h = let z : end - i ≡ 0 = omega arith in rw z

  -- the test does not hold here
  pub all_here : i < end → p i ≡ false → all_at p i (end - i) ≡ false
  unfolding all_at
  all_here h e = rw (left i end h, e)

  -- it holds here
  pub all_on : i < end → p i ≡ true → all_at p i (end - i) ≡ all_at p (i + 1) (end - (i + 1))
  unfolding all_at
  all_on h e = rw (left i end h, e, add-one)

  -- no place is left
  pub all_end : end ≤ i → all_at p i (end - i) ≡ true
  unfolding all_at
  all_end h = let z : end - i ≡ 0 = omega arith in rw z

-- ## Every place, or none

-- a test that holds nowhere
pub any_none : (p : ℕ → Bool) (i n : ℕ) → ((j : ℕ) → i ≤ j → j < i + n → p j ≡ false) → any_at p i n ≡ false
unfolding any_at
any_none p i zero h = refl
any_none p i (suc n) h = rw (h i (omega arith) (omega arith), any_none p (suc i) n (λ j a b. h j (omega arith) (omega arith)))

-- a conjunction with a second part that does not hold
and_right : (s t : Bool) → t ≡ false → (s && t) ≡ false
and_right true t r = r
and_right false t r = refl

-- a disjunction with a first part that holds
or_left : (s t : Bool) → s ≡ true → (s || t) ≡ true
or_left true t q = refl
or_left false t q = absurd (never_both_tests (sym q))

-- a test that holds somewhere
pub any_some : (p : ℕ → Bool) (i n j : ℕ) → i ≤ j → j < i + n → p j ≡ true → any_at p i n ≡ true
unfolding any_at
any_some p i zero j a b e = absurd (omega arith)
any_some p i (suc n) j a b e =
    ⊎_elim
    (λ q. or_left (p i) (any_at p (suc i) n) (ap p q ∙ e))
    (λ q. or_right (p i) (any_at p (suc i) n) (any_some p (suc i) n j q (omega arith) e))
    (eq-or-lt_of_le a)

-- a test that holds everywhere
pub all_of : (p : ℕ → Bool) (i n : ℕ) → ((j : ℕ) → i ≤ j → j < i + n → p j ≡ true) → all_at p i n ≡ true
unfolding all_at
all_of p i zero e = refl
all_of p i (suc n) e = rw (e i (omega arith) (omega arith), all_of p (suc i) n (λ j a b. e j (omega arith) (omega arith)))

-- and back
pub all_each : (p : ℕ → Bool) (i n : ℕ) → all_at p i n ≡ true → (j : ℕ) → i ≤ j → j < i + n → p j ≡ true
unfolding all_at
all_each p i zero h j a b = absurd (omega arith)
all_each p i (suc n) h j a b =
    let u = and_both (p i) (all_at p (suc i) n) h in
    ⊎_elim (λ q. rw (← q) u.0) (λ q. all_each p (suc i) n u.1 j q (omega arith)) (eq-or-lt_of_le a)

-- a test that holds at no two places
pub apart_all_lem : (p : ℕ → ℕ → Bool) (i n : ℕ) → ((a b : ℕ) → i ≤ a → a < b → b < i + n → p a b ≡ false) → apart_at p i n ≡ true
unfolding apart_at
apart_all_lem p i zero h = refl
apart_all_lem p i (suc n) h =
    rw (
      any_none (p i) (suc i) n (λ j a b. h i j (omega arith) (omega arith) (omega arith)),
      apart_all_lem p (suc i) n (λ a b x y z. h a b (omega arith) y (omega arith)),
    )

-- one that holds at two
pub apart_not : (p : ℕ → ℕ → Bool) (i n a b : ℕ) → i ≤ a → a < b → b < i + n → p a b ≡ true → apart_at p i n ≡ false
unfolding apart_at
apart_not p i zero a b x y z q = absurd (omega arith)
apart_not p i (suc n) a b x y z q =
    ⊎_elim
    (λ (r : i ≡ a). rw (any_some (p i) (suc i) n b (omega arith) (omega arith) (ap (λ (k : ℕ). p k b) r ∙ q)))
    (λ r. and_right (not (any_at (p i) (suc i) n)) (apart_at p (suc i) n) (apart_not p (suc i) n a b r y (omega arith) q))
    (eq-or-lt_of_le x)

-- ## Against the rules' lists

module _ {A : Type 0} (g : ℕ → A) where
  -- a test of some record
  pub any_list : (f : A → Bool) (i n : ℕ) → any f (list_at g i n) ≡ any_at (λ (j : ℕ). f (g j)) i n
  unfolding list_at any_at any
  any_list f i zero = refl
  any_list f i (suc n) = ap (λ (t : Bool). f (g i) || t) (any_list f (suc i) n)

  -- a test of every record
  pub all_list : (f : A → Bool) (i n : ℕ) → all f (list_at g i n) ≡ all_at (λ (j : ℕ). f (g j)) i n
  unfolding list_at all_at all
  all_list f i zero = refl
  all_list f i (suc n) = ap (λ (t : Bool). f (g i) && t) (all_list f (suc i) n)

  -- a sum over records
  pub sum_list : (f : A → ℕ) (i n : ℕ) → sum f (list_at g i n) ≡ sum_at (λ (j : ℕ). f (g j)) i n
  unfolding list_at sum_at sum
  sum_list f i zero = refl
  sum_list f i (suc n) = ap (λ (t : ℕ). f (g i) + t) (sum_list f (suc i) n)

  -- as many as places
  pub length_list : (i n : ℕ) → length (list_at g i n) ≡ n
  unfolding list_at
  length_list i zero = refl
  length_list i (suc n) = ap suc (length_list (suc i) n)

  -- one place more
  pub list_snoc : (i n : ℕ) → list_at g i (suc n) ≡ list_at g i n ++ g (i + n) ∷ []
  unfolding list_at
  list_snoc i zero = ap (λ (j : ℕ). g j ∷ []) (omega arith)
  list_snoc i (suc n) =
      ap (λ (t : List A). g i ∷ t)
      (list_snoc (suc i) n ∙ ap (λ (j : ℕ). list_at g (suc i) n ++ g j ∷ []) (let z : suc i + n ≡ i + suc n = omega arith in z))

-- ## Two functions that agree at the places

-- their lists
pub list_ext : {A : Type 0} (g h : ℕ → A) (i n : ℕ) → ((j : ℕ) → i ≤ j → j < i + n → g j ≡ h j) → list_at g i n ≡ list_at h i n
unfolding list_at
list_ext g h i zero e = refl
list_ext g h i (suc n) e = rw (e i (omega arith) (omega arith), list_ext g h (suc i) n (λ j a b. e j (omega arith) (omega arith)))

-- their tests of all
pub all_ext : (p q : ℕ → Bool) (i n : ℕ) → ((j : ℕ) → i ≤ j → j < i + n → p j ≡ q j) → all_at p i n ≡ all_at q i n
unfolding all_at
all_ext p q i zero e = refl
all_ext p q i (suc n) e = rw (e i (omega arith) (omega arith), all_ext p q (suc i) n (λ j a b. e j (omega arith) (omega arith)))

-- their sums
pub sum_ext : (p q : ℕ → ℕ) (i n : ℕ) → ((j : ℕ) → i ≤ j → j < i + n → p j ≡ q j) → sum_at p i n ≡ sum_at q i n
unfolding sum_at
sum_ext p q i zero e = refl
sum_ext p q i (suc n) e = rw (e i (omega arith) (omega arith), sum_ext p q (suc i) n (λ j a b. e j (omega arith) (omega arith)))

-- a sum one place further
sum_last : (f : ℕ → ℕ) (i n : ℕ) → sum_at f i (suc n) ≡ sum_at f i n + f (i + n)
unfolding sum_at
sum_last f i zero = let z : i ≡ i + 0 = omega arith in rw (← z) (omega arith)
sum_last f i (suc n) = let z : suc i + n ≡ i + suc n = omega arith in omega (arith, rw z at (sum_last f (suc i) n))

-- the sum up to place j, and to the next
pub sum_more : (f : ℕ → ℕ) (i j : ℕ) → i ≤ j → sum_at f i (j + 1 - i) ≡ sum_at f i (j - i) + f j
sum_more f i j h =
    let z : j + 1 - i ≡ suc (j - i) = omega arith in
    let y : i + (j - i) ≡ j = omega arith in
    rw z (sum_last f i (j - i) ∙ ap (λ (k : ℕ). sum_at f i (j - i) + f k) y)

-- the sum of none
pub sum_none : (f : ℕ → ℕ) (i : ℕ) → sum_at f i (i - i) ≡ 0
unfolding sum_at
sum_none f i = let z : i - i ≡ 0 = omega arith in rw z

-- ## Choices

-- the first of two numbers, where the test holds
pub chosen : (t : Bool) (x y : ℕ) → t ≡ true → x ≡ cond t x y
chosen t x y h = rw h

-- the second, where it does not
pub not_chosen : (t : Bool) (x y : ℕ) → t ≡ false → y ≡ cond t x y
not_chosen t x y h = rw h
