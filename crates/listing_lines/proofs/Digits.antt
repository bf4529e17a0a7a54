-- Hexadecimal digits worked out several at a time, each in a byte of a number, and as the former table held them. Assumes nothing.
use Rattle.wire.proofs.Prelude.{Bool, List, [], ◌%◌, ◌*◌, ◌+◌, ◌/◌, ◌<◌, ◌^◌, ◌∙◌, ◌∷◌, ◌≡◌, ap, ap₂, arith, cond, div-div-eq-div-mul}
use Rattle.wire.proofs.Prelude.{drop, false, length, length-map, lit<, ltb, ltb-false, ltb-true, map, mul_comm, refl, suc, sym, take, true}
use Rattle.wire.proofs.Prelude.{zero, zero-add, ℕ}
use Rattle.wire.proofs.Numbers.{bytes_back, bytes_bytes_of, length_bytes_of, value_back}
use Rattle.wire.specs.BigEndian.{All, Bytes, bytes_of, value, value_after}
use Rattle.listing_lines.specs.Hex.{DigitsAsHeld, characters, digit, high_digit, low_digit, digit_table}
use lib.Bits.{and_block, and_mask, bit_and}

-- ## One digit

-- the character of a digit, by a sum without a test
digit_plain : (d : ℕ) → d < 16 → 48 + d + (d + 6) / 16 * 39 ≡ digit d
digit_plain d h = by_test (ltb d 10) refl
  where
    by_test : (t : Bool) → ltb d 10 ≡ t → 48 + d + (d + 6) / 16 * 39 ≡ cond t (48 + d) (87 + d)
    by_test true e = omega (arith, ltb-true d 10 e)
    by_test false e = omega (arith, ltb-false d 10 e)

-- it is a byte
digit_fits : (d : ℕ) → d < 16 → digit d < 256
digit_fits d h = omega (arith, digit_plain d h)

-- ## Several digits at a time

-- what `hex::low_digits` works out of x, with u for its ONES
abbrev pub digit_sum : ℕ → ℕ → ℕ
digit_sum x u = bit_and x (15 * u) + 48 * u + bit_and ((bit_and x (15 * u) + 6 * u) / 16) u * 39

-- the four bits of one more byte
four_bits : (a u b : ℕ) → b < 256 → bit_and (a * 256 + b) (15 * (u * 256 + 1)) ≡ bit_and a (15 * u) * 256 + b % 16
four_bits a u b h =
    let m : 15 * (u * 256 + 1) ≡ 15 * u * 256 + 15 = omega arith in
    rw m (and_block 8 a (15 * u) b 15 h (lit< tt) ∙ ap (λ (x : ℕ). bit_and a (15 * u) * 256 + x) (and_mask b 4))

-- whether they are 10 or more
from_ten : (d u e : ℕ) → e < 16
    → bit_and ((d * 256 + e + 6 * (u * 256 + 1)) / 16) (u * 256 + 1) ≡ bit_and ((d + 6 * u) / 16) u * 256 + (e + 6) / 16
from_ten d u e h =
    let low = (d + 6 * u) % 16 * 16 + (e + 6) / 16 in
    let s : (d * 256 + e + 6 * (u * 256 + 1)) / 16 ≡ (d + 6 * u) / 16 * 256 + low = omega arith in
    let t : low % 2 ≡ (e + 6) / 16 = omega arith in
    rw s (and_block 8 ((d + 6 * u) / 16) u low 1 (omega arith) (lit< tt)
    ∙ ap (λ (x : ℕ). bit_and ((d + 6 * u) / 16) u * 256 + x) (and_mask low 1 ∙ t))

-- so one more byte has its digit
one_more : (a u b : ℕ) → b < 256 → digit_sum (a * 256 + b) (u * 256 + 1) ≡ digit_sum a u * 256 + low_digit b
one_more a u b h =
    rw (four_bits a u b h, from_ten (bit_and a (15 * u)) u (b % 16) (omega arith), ← digit_plain (b % 16) (omega arith)) (omega arith)

-- and all bytes theirs
all_digits : (bs : List ℕ) (a u : ℕ) → Bytes bs
    → digit_sum (value_after a bs) (value_after u (map (λ (b : ℕ). 1) bs)) ≡ value_after (digit_sum a u) (map low_digit bs)
unfolding value_after All
all_digits [] a u h = refl
all_digits (b ∷ bs) a u h =
    all_digits bs (a * 256 + b) (u * 256 + 1) h.1 ∙ ap (λ (x : ℕ). value_after x (map low_digit bs)) (one_more a u b h.0)

-- the digits of bytes are bytes
digits_bytes : (bs : List ℕ) → Bytes (map low_digit bs)
unfolding All
digits_bytes [] = tt
digits_bytes (b ∷ bs) = (digit_fits (b % 16) (omega arith), digits_bytes bs)

-- so each byte of the sum is a digit
sum_digits : (bs : List ℕ) → Bytes bs → bytes_of (length bs) (digit_sum (value bs) (value (map (λ (b : ℕ). 1) bs))) ≡ map low_digit bs
sum_digits bs h = rw (all_digits bs 0 0 h, ← length-map bs low_digit) (bytes_back (map low_digit bs) (digits_bytes bs))

-- 1 in each of 8 bytes
ones : (x : ℕ) → value (map (λ (b : ℕ). 1) (bytes_of 8 x)) ≡ 0x0101_0101_0101_0101
unfolding bytes_of value_after
ones x = refl

-- of a number of 64 bits
pub low_digits : (x : ℕ) → x < 2 ^ 64 → bytes_of 8 (digit_sum x 0x0101_0101_0101_0101) ≡ map low_digit (bytes_of 8 x)
low_digits x h = rw (ones x, value_back 8 x h, length_bytes_of 8 x) at (sum_digits (bytes_of 8 x) (bytes_bytes_of 8 x))

-- the first digits of bytes are the second ones of a sixteenth of the number
pub high_digits : (k x : ℕ) → map low_digit (bytes_of k (x / 16)) ≡ map high_digit (bytes_of k x)
unfolding bytes_of
high_digits zero x = refl
high_digits (suc k) x =
    let y = x / 256 ^ k in
    let s : x / 16 / 256 ^ k ≡ y / 16 =
    div-div-eq-div-mul x 16 (256 ^ k) ∙ ap (λ (n : ℕ). x / n) (mul_comm 16 (256 ^ k)) ∙ sym (div-div-eq-div-mul x (256 ^ k) 16) in
    let d : y / 16 % 256 % 16 ≡ y % 256 / 16 = omega arith in
    let e : x / 16 / 256 ^ k % 256 % 16 ≡ y % 256 / 16 = rw s d in
    ap₂ (λ (n : ℕ) (l : List ℕ). digit n ∷ l) e (high_digits k x)

-- ## As the table held them

-- the digits of n bytes, from b on
unfoldable pairs_from : ℕ → ℕ → List ℕ
pairs_from b zero = []
pairs_from b (suc n) = high_digit b ∷ low_digit b ∷ pairs_from (suc b) n

-- of these, the two of the byte k places on
pair_of : (b n k : ℕ) → k < n → take 2 (drop (2 * k) (pairs_from b n)) ≡ high_digit (b + k) ∷ low_digit (b + k) ∷ []
unfolding pairs_from
pair_of b zero k h = absurd (omega arith)
pair_of b (suc n) zero h = let e : b + 0 ≡ b = omega arith in rw e refl
pair_of b (suc n) (suc k) h =
    let d : 2 * suc k ≡ suc (suc (2 * k)) = omega arith in
    let e : b + suc k ≡ suc b + k = omega arith in
    rw (d, e) (pair_of (suc b) n k (omega arith))

-- the whole table, computed
table_whole : digit_table ≡ pairs_from 0 256
unfolding digit_table characters pairs_from
table_whole = refl

-- so the two of every byte are those of the table
pub digits_as_held : DigitsAsHeld
unfolding DigitsAsHeld digit_table characters
digits_as_held = (refl, λ b h. rw table_whole (rw (zero-add b) at (pair_of 0 256 b h)))
