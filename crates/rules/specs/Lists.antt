-- Sums, tests, changes and interleavings of lists. Assumes nothing.
--
-- Of the language's library: `get_or xs i 0` is the number at index i, or 0 past the end; `set xs i x` is the list with x at i.
use Rattle.std.specs.Prelude.{ℕ, zero, suc, ◌+◌, ◌-◌, Bool, true, false, not, ◌&&◌, ◌||◌, List, [], ◌∷◌, take, drop, get_or, set}

-- ## Sums and tests

module _ {A : Type 0} where
  -- the sum of f over a list
  unfoldable pub sum : (A → ℕ) → List A → ℕ
  sum f [] = 0
  sum f (x ∷ xs) = f x + sum f xs

  -- some element passes the test
  unfoldable pub any : (A → Bool) → List A → Bool
  any f [] = false
  any f (x ∷ xs) = f x || any f xs

  -- every element passes the test
  unfoldable pub all : (A → Bool) → List A → Bool
  all f [] = true
  all f (x ∷ xs) = f x && all f xs

  -- the third list has all elements of the first two and no others, each in its own order (document 01: woven together)
  pub data Interleaving : List A → List A → List A → Type 0 where
    none : Interleaving [] [] []
    left : {x : A} {xs ys zs : List A} → Interleaving xs ys zs → Interleaving (x ∷ xs) ys (x ∷ zs)
    right : {y : A} {xs ys zs : List A} → Interleaving xs ys zs → Interleaving xs (y ∷ ys) (y ∷ zs)

-- two tests have one outcome
abbrev pub same_truth : Bool → Bool → Bool
same_truth true t = t
same_truth false t = not t

-- the total of a list of numbers
abbrev pub total : List ℕ → ℕ
total xs = sum (λ (x : ℕ). x) xs

-- ## Balances

-- balances with an amount taken from account i
unfoldable pub lowered : List ℕ → ℕ → ℕ → List ℕ
lowered balances i amount = set balances i (get_or balances i 0 - amount)

-- balances with an amount given to account i
unfoldable pub raised : List ℕ → ℕ → ℕ → List ℕ
raised balances i amount = set balances i (get_or balances i 0 + amount)

-- ## Parts

-- bytes cut into parts of n, the last perhaps shorter; at most as many parts as the first argument says
unfoldable pub cut : ℕ → ℕ → List ℕ → List (List ℕ)
cut zero n b = []
cut (suc most) n [] = []
cut (suc most) n (x ∷ b) = take n (x ∷ b) ∷ cut most n (drop n (x ∷ b))
