-- Laws of sums, tests and balances. Assumes nothing.
use Rattle.wire.proofs.Prelude.{Bool, List, [], ◌++◌, ◌+◌, ◌-◌, ◌<◌, ◌||◌, ◌∙◌, ◌∷◌, ◌≡◌, ◌≤◌, ◌⊎◌, ap, arith, dichotomy, eq-eqb, eqb}
use Rattle.wire.proofs.Prelude.{eqb-false, eqb-true, false, get_or, get_or-set_same, inl, inr, length, length-set, ne_eqb, not, or_assoc}
use Rattle.wire.proofs.Prelude.{or-false, or-true, refl, set, suc, sym, true, zero, ℕ}
use Rattle.rules.specs.Lists.{all, any, lowered, raised, same_truth, sum, total}
use Rattle.rules.specs.Rules.{Kind, Local, Receiving, Record, Sending, Tariff, moved}
use Rattle.wire.proofs.Lists.{and_both, every_both, every_first, every_none}
use Rattle.wire.specs.BigEndian.{All, every}

-- ## Tests

-- neither test holds where their disjunction does not
pub or_neither : (s t : Bool) → (s || t) ≡ false → (s ≡ false) × (t ≡ false)
or_neither true t h = (h, cc)
or_neither false t h = (refl, h)

-- the second test holds where one of the two does and the first does not
pub or_second : (s t : Bool) → (s || t) ≡ true → s ≡ false → t ≡ true
or_second true t h q = cc
or_second false t h q = h

-- a disjunction whose second test holds
pub or_right : (s t : Bool) → t ≡ true → (s || t) ≡ true
or_right true t h = refl
or_right false t h = h

-- a number is 0 or one more than another
pub zero_or_more : (n : ℕ) → (n ≡ 0) ⊎ ((m : ℕ) × (n ≡ suc m))
zero_or_more zero = inl refl
zero_or_more (suc n) = inr (n, refl)

-- no test both holds and does not
pub never_both_tests : true ≡ false → ⊥
never_both_tests h = let z : ◌≡◌ {A = ℕ} 0 1 = cc in omega arith

-- a test has its own outcome
pub truth_self : (t : Bool) → same_truth t t ≡ true
truth_self true = refl
truth_self false = refl

-- two tests have one outcome either way round
pub truth_turned : (s t : Bool) → same_truth s t ≡ same_truth t s
truth_turned true true = refl
truth_turned true false = refl
truth_turned false true = refl
truth_turned false false = refl

-- the first of them turned into its opposite, or the second
pub truth_not : (s t : Bool) → same_truth (not s) t ≡ same_truth s (not t)
truth_not true t = refl
truth_not false true = refl
truth_not false false = refl

-- two numbers are the same either way round
pub eqb_turned : (a b : ℕ) → eqb a b ≡ eqb b a
eqb_turned a b =
    elim (dichotomy (eqb a b)) [
      | inl q ↦ q ∙ sym (ne_eqb b a (λ e. eqb-false a b q (sym e)))
      | inr q ↦ q ∙ sym (eq-eqb b a (sym (eqb-true a b q)))
    ]

-- tests that all hold, one by one
pub every_all : (ts : List Bool) → every ts ≡ true → All (λ (t : Bool). t ≡ true) ts
unfolding All
every_all [] h = tt
every_all (t ∷ ts) h = let u = every_first t ts h in (u.0, every_all ts u.1)

-- and back
pub all_every : (ts : List Bool) → All (λ (t : Bool). t ≡ true) ts → every ts ≡ true
unfolding All
all_every [] h = every_none
all_every (t ∷ ts) h = every_both t ts h.0 (all_every ts h.1)

-- ## Sums and tests over lists

module _ {A : Type 0} where
  -- the sum with one element more
  pub sum_snoc : (f : A → ℕ) (xs : List A) (x : A) → sum f (xs ++ x ∷ []) ≡ sum f xs + f x
  unfolding sum
  sum_snoc f [] x = omega arith
  sum_snoc f (y ∷ xs) x = omega (arith, sum_snoc f xs x)

  -- functions with the same values have the same sum
  pub sum_ext : (f g : A → ℕ) → ((x : A) → f x ≡ g x) → (xs : List A) → sum f xs ≡ sum g xs
  unfolding sum
  sum_ext f g h [] = refl
  sum_ext f g h (x ∷ xs) = omega (arith, h x, sum_ext f g h xs)

  -- some element of one of two lists passes
  pub any_append : (f : A → Bool) (xs ys : List A) → any f (xs ++ ys) ≡ (any f xs || any f ys)
  unfolding any
  any_append f [] ys = refl
  any_append f (x ∷ xs) ys = rw (any_append f xs ys) (sym (or_assoc (f x) (any f xs) (any f ys)))

  -- some element passes, with one element more
  pub any_snoc : (f : A → Bool) (xs : List A) (x : A) → any f (xs ++ x ∷ []) ≡ (any f xs || f x)
  unfolding any
  any_snoc f xs x = rw (any_append f xs (x ∷ []), or-false (f x))

  -- no element passes a test that implies one that none passes
  pub any_none : (f g : A → Bool) → ((x : A) → f x ≡ false → g x ≡ false) → (xs : List A) → any f xs ≡ false → any g xs ≡ false
  unfolding any
  any_none f g w [] h = refl
  any_none f g w (x ∷ xs) h = let u = or_neither (f x) (any f xs) h in simp (w x u.0, any_none f g w xs u.1)

  -- an element that passes, and those before and after it
  pub any_split : (f : A → Bool) (xs : List A) → any f xs ≡ true
      → (before : List A) × (x : A) × (later : List A) × (xs ≡ before ++ x ∷ later) × (f x ≡ true)
  unfolding any
  any_split f [] h = absurd (never_both_tests (sym h))
  any_split f (x ∷ xs) h =
      elim (dichotomy (f x)) [
        | inl q ↦ let w = any_split f xs (or_second (f x) (any f xs) h q) in (x ∷ w.0, w.1, w.2, ap (λ (l : List A). x ∷ l) w.3, w.4)
        | inr q ↦ ([], x, xs, refl, q)
      ]

  -- the last element passes
  pub any_last : (f : A → Bool) (xs : List A) (x : A) → f x ≡ true → any f (xs ++ x ∷ []) ≡ true
  any_last f xs x h = any_snoc f xs x ∙ rw (h, or-true)

  -- every element passes, with one element more
  pub all_snoc : (f : A → Bool) (xs : List A) (x : A) → all f xs ≡ true → f x ≡ true → all f (xs ++ x ∷ []) ≡ true
  unfolding all
  all_snoc f [] x h k = simp k
  all_snoc f (y ∷ xs) x h k =
      let u = and_both (f y) (all f xs) h in
      simp (u.0, all_snoc f xs x u.1 k)

  -- every element passes a test that is implied
  pub all_weaken : (f g : A → Bool) → ((x : A) → f x ≡ true → g x ≡ true) → (xs : List A) → all f xs ≡ true → all g xs ≡ true
  unfolding all
  all_weaken f g w [] h = refl
  all_weaken f g w (x ∷ xs) h =
      let u = and_both (f x) (all f xs) h in
      simp (w x u.0, all_weaken f g w xs u.1)

-- ## Balances

-- the total once one account is set
total_set : (balances : List ℕ) (i v : ℕ) → i < length balances → total (set balances i v) + get_or balances i 0 ≡ total balances + v
unfolding sum
total_set [] i v h = omega arith
total_set (x ∷ balances) zero v h = omega arith
total_set (x ∷ balances) (suc i) v h = omega (arith, total_set balances i v (omega arith))

-- the total once an amount is taken
pub total_lowered : (balances : List ℕ) (i a : ℕ) → i < length balances → a ≤ get_or balances i 0
    → total (lowered balances i a) + a ≡ total balances
unfolding lowered
total_lowered balances i a h l = omega (arith, total_set balances i (get_or balances i 0 - a) h)

-- the total once an amount is given
pub total_raised : (balances : List ℕ) (i a : ℕ) → i < length balances → total (raised balances i a) ≡ total balances + a
unfolding raised
total_raised balances i a h = omega (arith, total_set balances i (get_or balances i 0 + a) h)

-- taking leaves the number of accounts
pub length_lowered : (balances : List ℕ) (i a : ℕ) → length (lowered balances i a) ≡ length balances
unfolding lowered
length_lowered balances i a = length-set balances i (get_or balances i 0 - a)

-- giving leaves the number of accounts
pub length_raised : (balances : List ℕ) (i a : ℕ) → length (raised balances i a) ≡ length balances
unfolding raised
length_raised balances i a = length-set balances i (get_or balances i 0 + a)

-- a passed record leaves the number of accounts
pub length_moved : (t : Tariff) (balances : List ℕ) (r : Record) (k : Kind) → length (moved t balances r k) ≡ length balances
length_moved t balances r (Local l) = simp (length_raised, length_lowered, length-set)
length_moved t balances r (Sending l) = simp (length_raised, length_lowered, length-set)
length_moved t balances r (Receiving l) = simp (length_raised, length_lowered, length-set)

-- ## One account

-- the balance of an account that was given to
pub raised_same : (balances : List ℕ) (i a : ℕ) → i < length balances → get_or (raised balances i a) i 0 ≡ get_or balances i 0 + a
unfolding raised
raised_same balances i a h = get_or-set_same balances i (get_or balances i 0 + a) 0 h

-- the balance of an account that was taken from
pub lowered_same : (balances : List ℕ) (i a : ℕ) → i < length balances → get_or (lowered balances i a) i 0 ≡ get_or balances i 0 - a
unfolding lowered
lowered_same balances i a h = get_or-set_same balances i (get_or balances i 0 - a) 0 h

-- ## Beside these

-- a balance is at most all of them
pub balance_total : (xs : List ℕ) (i : ℕ) → get_or xs i 0 ≤ total xs
unfolding sum
balance_total [] i = omega arith
balance_total (x ∷ xs) zero = omega arith
balance_total (x ∷ xs) (suc i) = omega (arith, balance_total xs i)
