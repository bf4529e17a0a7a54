-- Byte strings, and the numbers in them, highest byte first. A byte string is a list of numbers. Assumes nothing.
--
-- Of the language's library: `eqb`, `ltb` and `leb` test =, < and ≤; `cond t x y` is x where t holds and else y; `take n s`
-- and `drop n s` are the first n elements of s and those after them; `get_or s i d` is the element at index i, or d past the
-- end; `replicate n x` is n times x.
use Rattle.std.specs.Prelude.{ℕ, zero, suc, ◌+◌, ◌*◌, ◌/◌, ◌%◌, ◌^◌, ◌<◌, Bool, true, false, ◌&&◌, List, [], ◌∷◌, eqb, take, drop}

-- ## Bytes

-- every element of a list has the property
unfoldable pub All : {A : Type 0} → (A → Type 0) → List A → Type 0
All P [] = Unit {0}
All P (x ∷ xs) = P x × All P xs

-- every element is a byte
abbrev pub Bytes : List ℕ → Type 0
Bytes = All (λ (x : ℕ). x < 256)

-- all tests of a list hold
unfoldable pub every : List Bool → Bool
every [] = true
every (t ∷ ts) = t && every ts

-- every byte is zero
unfoldable pub zeros : List ℕ → Bool
zeros [] = true
zeros (x ∷ xs) = eqb x 0 && zeros xs

-- two byte strings are the same
unfoldable pub same : List ℕ → List ℕ → Bool
same [] [] = true
same [] (y ∷ ys) = false
same (x ∷ xs) [] = false
same (x ∷ xs) (y ∷ ys) = eqb x y && same xs ys

-- ## Numbers

-- the number that bytes write after a number a
unfoldable pub value_after : ℕ → List ℕ → ℕ
value_after a [] = a
value_after a (b ∷ bs) = value_after (a * 256 + b) bs

-- the number that bytes write
abbrev pub value : List ℕ → ℕ
value = value_after 0

-- the number in the n bytes from index i
unfoldable pub field : ℕ → ℕ → List ℕ → ℕ
field i n s = value (take n (drop i s))

-- a number in k bytes; what does not fit in them is left out
unfoldable pub bytes_of : ℕ → ℕ → List ℕ
bytes_of zero n = []
bytes_of (suc k) n = n / 256 ^ k % 256 ∷ bytes_of k n
