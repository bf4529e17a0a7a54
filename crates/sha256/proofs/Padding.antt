-- Laws of padded messages: their length, their blocks, and the bytes after the whole blocks. Assumes nothing.
use Rattle.wire.proofs.Prelude.{List, ◌%◌, ◌*◌, ◌++◌, ◌+◌, ◌-◌, ◌/◌, ◌<◌, ◌^◌, ◌∙◌, ◌∷◌, ◌≡◌, ◌≤◌, add-one, ap, append_assoc, arith, drop}
use Rattle.wire.proofs.Prelude.{drop-append-le, drop_at, drop-drop, length, length-append, length-drop, length-replicate}
use Rattle.wire.proofs.Prelude.{length-take-le, replicate, replicate-append-replicate, set, set-append_seam, suc, sym, take, take-add}
use Rattle.wire.proofs.Prelude.{take-append-le, take_at, take-take, ℕ}
use borrow.Rule.Slice.PartMut.{put_mid}
use Rattle.sha256.specs.Sha256.{block, compressed, hashed, padded, padding, zero_count}
use Rattle.sha256.specs.declared.compression.Hash.{Hash}
use Rattle.wire.proofs.Numbers.{length_bytes_of}
use Rattle.wire.specs.BigEndian.{bytes_of}

-- zero bytes
abbrev zero_bytes : ℕ → List ℕ
zero_bytes k = replicate k 0

-- as many as are asked
length_zero_bytes : (k : ℕ) → length (zero_bytes k) ≡ k
length_zero_bytes k = length-replicate k 0

-- ## Lengths

-- how long the padding is
length_padding : (n : ℕ) → length (padding n) ≡ zero_count n + 9
unfolding padding
length_padding n = simp (length-append, length-replicate, length_bytes_of) (omega arith)

-- how long a padded message is
length_padded : (m : List ℕ) → length (padded m) ≡ length m + zero_count (length m) + 9
unfolding padded
length_padded m = omega (arith, length-append m (padding (length m)), length_padding (length m))

-- how many blocks a padded message has
block_count_lem : (m : List ℕ) → length (padded m) / 64 ≡ length m / 64 + (length m % 64 + 72) / 64
block_count_lem m = let l = length_padded m in omega arith

-- ## Blocks

-- the hash value after one block more
pub hashed_next : (p : List ℕ) (i : ℕ) {b : List ℕ} {s r : Hash} → s ≡ hashed p i → b ≡ block p i → r ≡ compressed s b
    → r ≡ hashed p (i + 1)
unfolding hashed
hashed_next p i es eb er = er ∙ (λ a. compressed (es a) (eb a)) ∙ ap (hashed p) (sym (add-one i))

-- a block that is whole within the message
block_within : (m : List ℕ) (i : ℕ) → 64 * i + 64 ≤ length m → take 64 (drop (64 * i) m) ≡ block (padded m) i
unfolding block padded
block_within m i h =
    let q : List ℕ = padding (length m) in
    let s : 64 ≤ length (drop (64 * i) m) = omega (arith, length-drop (64 * i) m) in
    sym (ap (take 64) (drop-append-le (64 * i) m q (omega arith)) ∙ take-append-le 64 (drop (64 * i) m) q s)

-- where 64 bytes b stand next in a message, after whole blocks, they are its block there, and the rest follows
pub next_block : (m : List ℕ) (k : ℕ) {b r : List ℕ} → 64 * k ≤ length m → drop (64 * k) m ≡ b ++ r → length b ≡ 64
    → (64 * (k + 1) ≤ length m) × (r ≡ drop (64 * (k + 1)) m) × (b ≡ block (padded m) k)
next_block m k {b = b} {r = r} h e f =
    let whole : 64 * k + 64 ≤ length m = omega (arith, length-drop (64 * k) m, ap length e, length-append b r) in
    let next : 64 * (k + 1) ≡ 64 * k + 64 = omega arith in
    let rest : drop (64 * (k + 1)) m ≡ r =
    ap (λ (i : ℕ). drop i m) next ∙ sym (drop-drop 64 (64 * k) m) ∙ ap (drop 64) e ∙ drop_at b r 64 f in
    (omega arith, sym rest, sym (take_at b r 64 f) ∙ ap (take 64) (sym e) ∙ block_within m k whole)

-- where bytes b begin with the rest of a message after its whole blocks and the padding, they have the last blocks
block_last : (m b : List ℕ) (i k e : ℕ)
    → take e b ≡ drop (length m - length m % 64) m ++ padding (length m)
    → k ≡ length m / 64 + i → (64 * i + 64 ≤ e) × (e ≤ length b) → take 64 (drop (64 * i) b) ≡ block (padded m) k
unfolding block padded
block_last m b i k e h ek f =
    let n : ℕ = length m in
    let a : ℕ = 64 * (n / 64) in
    let j : ℕ = 64 * i in
    let t : List ℕ = take (e - j) (drop j b) in
    let whole : e ≡ j + (e - j) = omega arith in
    let from : 64 * k ≡ a + j = omega arith in
    let rest : a ≡ n - n % 64 = omega arith in
    let bytes : drop a (m ++ padding n) ≡ take e b =
    drop-append-le a m (padding n) (omega arith) ∙ ap (λ (x : ℕ). drop x m ++ padding n) rest ∙ sym h in
    let cut : drop j (take e b) ≡ t =
    ap (λ (x : ℕ). drop j (take x b)) whole
    ∙ ap (drop j) (take-add j (e - j) b)
    ∙ drop_at (take j b) t j (length-take-le j b (omega arith)) in
    sym
    (ap (λ (x : ℕ). take 64 (drop x (m ++ padding n))) from
    ∙ ap (take 64) (sym (drop-drop j a (m ++ padding n)) ∙ ap (drop j) bytes ∙ cut)
    ∙ take-take 64 (e - j) (drop j b) (omega arith))

-- a message m, the hash value s after its whole blocks, bytes b that begin with the rest and the padding, and the hash value t after the
-- first block of b
module _ (m b : List ℕ) (s t : Hash) (es : s ≡ hashed (padded m) (length m / 64)) (long : length b ≡ 128)
    (eb : take (length m % 64 + zero_count (length m) + 9) b
    ≡ drop (length m - length m % 64) m ++ padding (length m))
    (et : t ≡ compressed s (take 64 b)) where
  -- the last blocks of the padded message
  last_block : (i k : ℕ) → k ≡ length m / 64 + i → 64 * i + 64 ≤ length m % 64 + zero_count (length m) + 9
      → take 64 (drop (64 * i) b) ≡ block (padded m) k
  last_block i k e h = block_last m b i k (length m % 64 + zero_count (length m) + 9) eb e (h, omega arith)

  -- the hash value after the block that follows the whole blocks
  after_first : t ≡ hashed (padded m) (length m / 64 + 1)
  after_first = hashed_next (padded m) (length m / 64) es (last_block 0 (length m / 64) (omega arith) (omega arith)) et

  -- it is that of the whole message where the padding fits into that block
  pub hashed_by_one : length m % 64 < 56 → t ≡ hashed (padded m) (length (padded m) / 64)
  hashed_by_one h =
      let n : length m / 64 + 1 ≡ length (padded m) / 64 = omega (arith, block_count_lem m) in
      after_first ∙ ap (hashed (padded m)) n

  -- and else the next one is
  pub hashed_by_two : {u : Hash} → 56 ≤ length m % 64 → u ≡ compressed t (take 64 (drop 64 b))
      → u ≡ hashed (padded m) (length (padded m) / 64)
  hashed_by_two h eu =
      let n : length m / 64 + 1 + 1 ≡ length (padded m) / 64 = omega (arith, block_count_lem m) in
      let second = last_block 1 (length m / 64 + 1) (omega arith) (omega arith) in
      hashed_next (padded m) (length m / 64 + 1) after_first second eu ∙ ap (hashed (padded m)) n

-- ## The bytes after the whole blocks

-- a mark after bytes p in zero_bytes
marked : (p : List ℕ) (z q x s : ℕ) → s ≡ length p + suc (z + q)
    → set (p ++ drop (length p) (zero_bytes s)) (length p) x ≡ (p ++ x ∷ zero_bytes z) ++ zero_bytes q
marked p z q x s h =
    let r : ℕ = length p in
    let split : zero_bytes s ≡ zero_bytes r ++ 0 ∷ (zero_bytes z ++ zero_bytes q) =
    ap zero_bytes h
    ∙ sym (replicate-append-replicate r (suc (z + q)) 0)
    ∙ ap (λ (l : List ℕ). zero_bytes r ++ 0 ∷ l) (sym (replicate-append-replicate z q 0)) in
    ap (λ (l : List ℕ). set (p ++ l) r x) (ap (drop r) split ∙ drop_at (zero_bytes r) _ r (length_zero_bytes r))
    ∙ set-append_seam p 0 (zero_bytes z ++ zero_bytes q) x
    ∙ sym (append_assoc p (x ∷ zero_bytes z) (zero_bytes q))

-- the rest p of a message of n bytes in zero_bytes, a mark after it and the length l in its place: the rest and the padding
pub rest_padded : (p : List ℕ) (n : ℕ) {q l x : List ℕ}
    → length p ≡ n % 64 → q ≡ p → l ≡ bytes_of 8 (n * 8 % 2 ^ 64) → x ≡ l
    → let at = length p + 1 + (119 - length p) % 64 in
    take (n % 64 + zero_count n + 9)
    (put_mid at (at + 8 - at) (set (q ++ drop (length p) (zero_bytes 128)) (length p) 0x80) x) ≡ p ++ padding n
unfolding padding
rest_padded p n {q = q} {l = l} {x = x} h eq el ex =
    let z : ℕ = zero_count n in
    let r : ℕ = length p in
    let at : ℕ = r + 1 + (119 - r) % 64 in
    let e : ℕ = n % 64 + z + 9 in
    let f : List ℕ = p ++ 0x80 ∷ zero_bytes z in
    let length-f : length f ≡ at = omega (arith, length-append p (0x80 ∷ zero_bytes z), length_zero_bytes z) in
    let length-l : length l ≡ 8 = ap length el ∙ length_bytes_of 8 (n * 8 % 2 ^ 64) in
    let d : List ℕ = set (q ++ drop r (zero_bytes 128)) r 0x80 in
    let u : List ℕ = drop (at + 8 - at) (drop at d) in
    let front : take at d ≡ f =
    ap (λ (k : List ℕ). take at (set (k ++ drop r (zero_bytes 128)) r 0x80)) eq
    ∙ ap (take at) (marked p z (128 - at) 0x80 128 (omega arith))
    ∙ take_at f (zero_bytes (128 - at)) at length-f in
    (λ a. take e (front a ++ (ex a ++ u)))
    ∙ ap (take e) (sym (append_assoc f l u))
    ∙ take_at (f ++ l) u e (omega (arith, length-append f l))
    ∙ append_assoc p (0x80 ∷ zero_bytes z) l
    ∙ ap (λ (k : List ℕ). p ++ 0x80 ∷ (zero_bytes z ++ k)) (el ∙ ap (bytes_of 8) (omega arith))
