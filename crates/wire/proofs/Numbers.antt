-- Numbers and their bytes: one law each over every width. Assumes nothing.
use Rattle.wire.proofs.Prelude.{List, [], ◌%◌, ◌*◌, ◌++◌, ◌+◌, ◌/◌, ◌<◌, ◌^◌, ◌∙◌, ◌∷◌, ◌≡◌, ◌≤◌, add-mul, ap, ap₂, arith, div-one, drop}
use Rattle.wire.proofs.Prelude.{drop-cons, drop-drop, drop_of_length-le, get_or, length, length-drop, length-take-le, lit<}
use Rattle.wire.proofs.Prelude.{mod-eq_of_lt, mul-add-div_right, mul_comm, one-le-pow, pow-suc, refl, subst, suc, sym, take}
use Rattle.wire.proofs.Prelude.{take-add, take-append-drop, take-nil, zero, ℕ}
use Rattle.std.specs.Int.{bytes_high_first}
use lib.Arith.{digits_lt, digits_div, digits_mod, mod-mul}
use Rattle.wire.proofs.Lists.{all_drop, all_take, bytes_append}
use Rattle.wire.specs.BigEndian.{All, Bytes, bytes_of, field, value, value_after}

-- a power of 256 is positive
pub positive : (k : ℕ) → 0 < 256 ^ k
positive k = one-le-pow k 256 (lit< tt)

-- ## The value of bytes

-- bytes after bytes
after_append : (a : ℕ) (xs ys : List ℕ) → value_after a (xs ++ ys) ≡ value_after (value_after a xs) ys
unfolding value_after
after_append a [] ys = refl
after_append a (x ∷ xs) ys = after_append (a * 256 + x) xs ys

-- what stands before bytes counts for as many places
after_splits : (a : ℕ) (xs : List ℕ) → value_after a xs ≡ a * 256 ^ length xs + value xs
unfolding value_after
after_splits a [] = omega arith
after_splits a (x ∷ xs) =
    let p = after_splits (a * 256 + x) xs in
    let q = after_splits (0 * 256 + x) xs in
    rw pow-suc (omega (arith, p, q, add-mul (a * 256) x (256 ^ length xs)))

-- the value of bytes and bytes after them
pub value_append : (xs ys : List ℕ) → value (xs ++ ys) ≡ value xs * 256 ^ length ys + value ys
value_append xs ys = after_append 0 xs ys ∙ after_splits (value xs) ys

-- n bytes write a number below 256 ^ n
pub value_fits : (xs : List ℕ) → Bytes xs → value xs < 256 ^ length xs
unfolding value_after All
value_fits [] h = omega arith
value_fits (x ∷ xs) h =
    let p = after_splits (0 * 256 + x) xs in
    let q : x * 256 ^ length xs + value xs < 256 * 256 ^ length xs = digits_lt h.0 (value_fits xs h.1) in
    rw pow-suc (omega (arith, p, q))

-- ## A field of a byte string

-- a field of m + n bytes is one of m bytes and one of n
pub field_split : (i m n : ℕ) (s : List ℕ) → i + (m + n) ≤ length s → field i (m + n) s ≡ field i m s * 256 ^ n + field (i + m) n s
unfolding field
field_split i m n s h =
    let d : List ℕ = drop i s in
    let l : length (take n (drop m d)) ≡ n = length-take-le n (drop m d) (omega (arith, length-drop m d, length-drop i s)) in
    ap value (take-add m n d)
    ∙ value_append (take m d) (take n (drop m d))
    ∙ ap₂ (λ (k : ℕ) (t : List ℕ). value (take m d) * 256 ^ k + value (take n t)) l (drop-drop m i s)

-- a field of one byte
pub field_one : (i : ℕ) (s : List ℕ) → i < length s → field i 1 s ≡ get_or s i 0
unfolding field value_after
field_one i s h = ap (λ (t : List ℕ). value (take 1 t)) (drop-cons s i 0 h) ∙ omega arith

-- past the end there is nothing
pub field_none : (i n : ℕ) (s : List ℕ) → length s ≤ i → field i n s ≡ 0
unfolding field value_after
field_none i n s h = ap (λ (t : List ℕ). value (take n t)) (drop_of_length-le s {i = i} h) ∙ ap value (take-nil n)

-- a field of n bytes is below 256 ^ n
pub field_fits : (i n : ℕ) (s : List ℕ) → Bytes s → i + n ≤ length s → field i n s < 256 ^ n
unfolding field
field_fits i n s b h =
    let t : List ℕ = take n (drop i s) in
    let l : length t ≡ n = length-take-le n (drop i s) (omega (arith, length-drop i s)) in
    subst (λ (k : ℕ). value t < 256 ^ k) l (value_fits t (all_take _ n (drop i s) (all_drop _ i s b)))

-- the first m of m + n bytes, and the last n
module _ (i m n : ℕ) (s : List ℕ) (b : Bytes s) (h : i + (m + n) ≤ length s) where
  -- the last n bytes write a number below 256 ^ n
  low_fits : field (i + m) n s < 256 ^ n
  low_fits = field_fits (i + m) n s b (omega arith)

  -- the number of the first m
  pub field_high : field i (m + n) s / 256 ^ n ≡ field i m s
  field_high = ap (λ (x : ℕ). x / 256 ^ n) (field_split i m n s h) ∙ digits_div (field i m s) low_fits

  -- the number of the last n
  pub field_low : field i (m + n) s % 256 ^ n ≡ field (i + m) n s
  field_low = ap (λ (x : ℕ). x % 256 ^ n) (field_split i m n s h) ∙ digits_mod (field i m s) low_fits

-- ## The bytes of a number

-- k bytes are k
pub length_bytes_of : (k n : ℕ) → length (bytes_of k n) ≡ k
unfolding bytes_of
length_bytes_of zero n = refl
length_bytes_of (suc k) n = ap suc (length_bytes_of k n)

-- they are bytes
pub bytes_bytes_of : (k n : ℕ) → Bytes (bytes_of k n)
unfolding bytes_of All
bytes_bytes_of zero n = tt
bytes_bytes_of (suc k) n = (omega arith, bytes_bytes_of k n)

-- and so are they with bytes after them
pub bytes_then : (k n : ℕ) (s : List ℕ) → Bytes s → Bytes (bytes_of k n ++ s)
bytes_then k n s h = bytes_append (bytes_of k n) s (bytes_bytes_of k n) h

-- what k bytes write of a number
pub value_bytes_of : (k n : ℕ) → value (bytes_of k n) ≡ n % 256 ^ k
unfolding bytes_of value_after
value_bytes_of zero n = omega arith
value_bytes_of (suc k) n =
    after_splits (0 * 256 + n / 256 ^ k % 256) (bytes_of k n)
    ∙ rw (length_bytes_of, value_bytes_of k n, pow-suc, mul_comm (256 ^ k) 256)
    (rw (mod-mul n {m = 256} {c = 256 ^ k} (lit< tt) (positive k)) (omega arith))

-- a number that fits in k bytes reads back from them
pub value_back : (k n : ℕ) → n < 256 ^ k → value (bytes_of k n) ≡ n
value_back k n h = value_bytes_of k n ∙ mod-eq_of_lt h

-- the library's bytes of a number
pub library_bytes : (k n : ℕ) → bytes_high_first k n ≡ bytes_of k n
unfolding bytes_of
library_bytes zero n = refl
library_bytes (suc zero) n = ap (λ (x : ℕ). x % 256 ∷ []) (sym (div-one n))
library_bytes (suc (suc k)) n = ap (λ (s : List ℕ). n / 256 ^ suc k % 256 ∷ s) (library_bytes (suc k) n)

-- bytes whose number has them as its own are those that write it
pub written_by : (k n : ℕ) {bs : List ℕ} → n < 256 ^ k → bytes_high_first k n ≡ bs → n ≡ value bs
written_by k n h e = sym (value_back k n h) ∙ ap value (sym (library_bytes k n) ∙ e)

-- the k bytes of a number do not depend on what is above them
bytes_low : (k a n : ℕ) → bytes_of k (a * 256 ^ k + n) ≡ bytes_of k n
unfolding bytes_of
bytes_low zero a n = refl
bytes_low (suc k) a n =
    let e : a * 256 ^ suc k + n ≡ a * 256 * 256 ^ k + n = rw pow-suc (omega arith) in
    rw (e, mul-add-div_right (positive k) (a * 256) n, bytes_low k (a * 256) n) (ap (λ (x : ℕ). x ∷ bytes_of k n) (omega arith))

-- bytes are those of the number that they write
pub bytes_back : (xs : List ℕ) → Bytes xs → bytes_of (length xs) (value xs) ≡ xs
unfolding bytes_of value_after All
bytes_back [] h = refl
bytes_back (x ∷ xs) h =
    let l : ℕ = length xs in
    let p : value (x ∷ xs) ≡ x * 256 ^ l + value xs = omega (arith, after_splits (0 * 256 + x) xs) in
    rw (p, digits_div x (value_fits xs h.1), mod-eq_of_lt h.0, bytes_low l x (value xs), bytes_back xs h.1)

-- the bytes of a field are those that stand there
pub bytes_field : (i n : ℕ) (s : List ℕ) → Bytes s → i + n ≤ length s → bytes_of n (field i n s) ≡ take n (drop i s)
unfolding field
bytes_field i n s b h =
    let t : List ℕ = take n (drop i s) in
    let l : length t ≡ n = length-take-le n (drop i s) (omega (arith, length-drop i s)) in
    ap (λ (k : ℕ). bytes_of k (value t)) (sym l) ∙ bytes_back t (all_take _ n (drop i s) (all_drop _ i s b))

-- what stands from index i on: the bytes of the field there, and what follows them
pub drop_field : (i n : ℕ) (s : List ℕ) → Bytes s → i + n ≤ length s → drop i s ≡ bytes_of n (field i n s) ++ drop (i + n) s
drop_field i n s b h = rw (bytes_field i n s b h, ← drop-drop n i s, take-append-drop)

-- a number below 256 is its one byte
pub one_byte : (n : ℕ) → n < 256 → bytes_of 1 n ≡ n ∷ []
unfolding bytes_of
one_byte n h = ap (λ (x : ℕ). x ∷ []) (omega arith)
