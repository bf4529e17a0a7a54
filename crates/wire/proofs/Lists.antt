-- Laws of tests, properties and zero bytes over lists. Assumes nothing.
pub use Rattle.wire.proofs.Prelude.{and-false}
use Rattle.wire.proofs.Prelude.{Bool, List, [], ◌&&◌, ◌++◌, ◌<◌, ◌∷◌, ◌≡◌, and-true, ap, ap₂, arith}
use Rattle.wire.proofs.Prelude.{drop, eq-eqb, eqb, eqb-true, false, false≢true, get_or, length, refl}
use Rattle.wire.proofs.Prelude.{replicate, suc, sym, take, true, zero, ℕ}
use Rattle.std.specs.List.{list_all}
use lib.Pointwise.{pointwise}
use Rattle.wire.specs.BigEndian.{All, Bytes, every, same, zeros}

-- ## Tests

-- both tests hold where their conjunction does
pub and_both : (s t : Bool) → (s && t) ≡ true → (s ≡ true) × (t ≡ true)
and_both true t h = (refl, h)
and_both false t h = (h, let z : false ≡ true = h in cc)

-- a test that cannot hold does not
pub not_held : (t : Bool) → (t ≡ true → ⊥) → false ≡ t
not_held true h = absurd (h refl)
not_held false h = refl

-- tests that hold together are the same
pub same_tests : (s t : Bool) → (s ≡ true → t ≡ true) → (t ≡ true → s ≡ true) → s ≡ t
same_tests true t p q = sym (p refl)
same_tests false t p q = not_held t (λ h. false≢true (q h))

-- no test at all
pub every_none : every [] ≡ true
unfolding every
every_none = refl

-- one test alone
pub every_one : (t : Bool) → every (t ∷ []) ≡ t
unfolding every
every_one t = and-true t

-- the first test holds, and so do the others
pub every_first : (t : Bool) (ts : List Bool) → every (t ∷ ts) ≡ true → (t ≡ true) × (every ts ≡ true)
unfolding every
every_first t ts h = and_both t (every ts) h

-- where the first test holds, all do as the others do
pub every_both : (t : Bool) (ts : List Bool) {s : Bool} → t ≡ true → every ts ≡ s → every (t ∷ ts) ≡ s
unfolding every
every_both t ts h k = rw h k

-- a first test that holds changes nothing
pub every_skip : (t : Bool) (ts : List Bool) → t ≡ true → every (t ∷ ts) ≡ every ts
unfolding every
every_skip t ts h = rw h

-- every test of a list holds
abbrev pub Hold : List Bool → Type 0
Hold = All (λ (t : Bool). t ≡ true)

-- each where all do
pub every_hold : (ts : List Bool) → every ts ≡ true → Hold ts
unfolding every All
every_hold [] h = tt
every_hold (t ∷ ts) h = let b = and_both t (every ts) h in (b.0, every_hold ts b.1)

-- and all where each does
pub hold_every : (ts : List Bool) → Hold ts → every ts ≡ true
unfolding every All
hold_every [] h = refl
hold_every (t ∷ ts) h = rw h.0 (hold_every ts h.1)

-- not all tests hold where the one at k does not
pub every_not : (k : ℕ) (ts : List Bool) → get_or ts k true ≡ false → every ts ≡ false
unfolding every
every_not zero [] h = h
every_not (suc k) [] h = h
every_not zero (t ∷ ts) h = rw h
every_not (suc k) (true ∷ ts) h = every_not k ts h
every_not (suc k) (false ∷ ts) h = refl

-- ## Properties

module _ {A : Type 0} (P : A → Type 0) where
  -- of lists joined
  pub all_append : (xs ys : List A) → All P xs → All P ys → All P (xs ++ ys)
  unfolding All
  all_append [] ys h k = k
  all_append (x ∷ xs) ys h k = (h.0, all_append xs ys h.1 k)

  -- of the first elements
  pub all_take : (n : ℕ) (xs : List A) → All P xs → All P (take n xs)
  unfolding All
  all_take zero xs h = tt
  all_take (suc n) [] h = tt
  all_take (suc n) (x ∷ xs) h = (h.0, all_take n xs h.1)

  -- of what follows the first elements
  pub all_drop : (n : ℕ) (xs : List A) → All P xs → All P (drop n xs)
  unfolding All
  all_drop zero xs h = h
  all_drop (suc n) [] h = tt
  all_drop (suc n) (x ∷ xs) h = all_drop n xs h.1

  -- of each of two lists joined
  pub all_split : (xs ys : List A) → All P (xs ++ ys) → All P xs × All P ys
  unfolding All
  all_split [] ys h = (tt, h)
  all_split (x ∷ xs) ys h = let t = all_split xs ys h.1 in ((h.0, t.0), t.1)

  -- of what holds at every index
  pub all_of : (d : A) (xs : List A) → ((i : ℕ) → P (get_or xs i d)) → All P xs
  unfolding All
  all_of d [] h = tt
  all_of d (x ∷ xs) h = (h 0, all_of d xs (λ i. h (suc i)))

-- ## Zero bytes

-- zeros are zeros
pub zeros_replicate : (n : ℕ) → zeros (replicate n 0) ≡ true
unfolding zeros
zeros_replicate zero = refl
zeros_replicate (suc n) = zeros_replicate n

-- a list that passes the test is zeros
pub zeros_are : (s : List ℕ) → zeros s ≡ true → s ≡ replicate (length s) 0
unfolding zeros
zeros_are [] h = refl
zeros_are (x ∷ xs) h =
    let b = and_both (eqb x 0) (zeros xs) h in
    ap₂ (λ (y : ℕ) (l : List ℕ). y ∷ l) (eqb-true x 0 b.0) (zeros_are xs b.1)

-- the test of every byte
pub zeros_all : (s : List ℕ) → list_all (λ x. eqb x 0) s ≡ zeros s
unfolding zeros
zeros_all [] = refl
zeros_all (x ∷ xs) = ap (λ (t : Bool). eqb x 0 && t) (zeros_all xs)

-- ## The same bytes

-- every byte string is the same as itself
pub same_self : (xs : List ℕ) → same xs xs ≡ true
unfolding same
same_self [] = refl
same_self (x ∷ xs) = rw (eq-eqb x x refl) (same_self xs)

-- those that are the same are equal
pub same_equal : (xs ys : List ℕ) → same xs ys ≡ true → xs ≡ ys
unfolding same
same_equal [] [] h = refl
same_equal [] (y ∷ ys) h = cc
same_equal (x ∷ xs) [] h = cc
same_equal (x ∷ xs) (y ∷ ys) h =
    let b = and_both (eqb x y) (same xs ys) h in
    ap₂ (λ (z : ℕ) (l : List ℕ). z ∷ l) (eqb-true x y b.0) (same_equal xs ys b.1)

-- the library's test of two lists
pub same_pointwise : (xs ys : List ℕ) → pointwise eqb xs ys ≡ same xs ys
unfolding same
same_pointwise [] [] = refl
same_pointwise [] (y ∷ ys) = refl
same_pointwise (x ∷ xs) [] = refl
same_pointwise (x ∷ xs) (y ∷ ys) = ap (λ (t : Bool). eqb x y && t) (same_pointwise xs ys)

-- zero bytes are bytes
pub bytes_zeros : (n : ℕ) → Bytes (replicate n 0)
unfolding All
bytes_zeros zero = tt
bytes_zeros (suc n) = (omega arith, bytes_zeros n)

-- a list is of bytes where each element is one
pub bytes_each : (s : List ℕ) → ((i : ℕ) → get_or s i 0 < 256) → Bytes s
unfolding All
bytes_each [] h = tt
bytes_each (x ∷ xs) h = (h 0, bytes_each xs (λ i. h (suc i)))

-- bytes after bytes are bytes
pub bytes_append : (xs ys : List ℕ) → Bytes xs → Bytes ys → Bytes (xs ++ ys)
bytes_append xs ys h k = all_append (λ (x : ℕ). x < 256) xs ys h k
