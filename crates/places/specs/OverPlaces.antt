-- Lists, tests and sums over the places i, i + 1, .. of a table, n of them. Assumes nothing.
use Rattle.std.specs.Prelude.{ℕ, zero, suc, ◌+◌, Bool, true, false, not, ◌&&◌, ◌||◌, List, [], ◌∷◌}

-- what a function gives at the places
unfoldable pub list_at : {A : Type 0} → (ℕ → A) → ℕ → ℕ → List A
list_at g i zero = []
list_at g i (suc n) = g i ∷ list_at g (suc i) n

-- a test holds at one of the places
unfoldable pub any_at : (ℕ → Bool) → ℕ → ℕ → Bool
any_at p i zero = false
any_at p i (suc n) = p i || any_at p (suc i) n

-- a test holds at all of the places
unfoldable pub all_at : (ℕ → Bool) → ℕ → ℕ → Bool
all_at p i zero = true
all_at p i (suc n) = p i && all_at p (suc i) n

-- the sum over the places
unfoldable pub sum_at : (ℕ → ℕ) → ℕ → ℕ → ℕ
sum_at f i zero = 0
sum_at f i (suc n) = f i + sum_at f (suc i) n

-- a test of two places holds at no two of them
unfoldable pub apart_at : (ℕ → ℕ → Bool) → ℕ → ℕ → Bool
apart_at p i zero = true
apart_at p i (suc n) = not (any_at (p i) (suc i) n) && apart_at p (suc i) n
