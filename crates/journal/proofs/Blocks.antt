-- A block that is right is the one written from its number, rate and charge account, and items, and that one is right. Assumes nothing.
use Rattle.wire.proofs.Prelude.{List, [], ◌%◌, ◌*◌, ◌++◌, ◌+◌, ◌-◌, ◌/◌, ◌<◌, ◌||◌, ◌∙◌, ◌∷◌, ◌≡◌, ◌≤◌, ap, append_assoc, ap₂, arith, drop}
use Rattle.wire.proofs.Prelude.{drop-append_seam, drop_at, drop-drop, leb, length, length-append, length-drop, length-replicate}
use Rattle.wire.proofs.Prelude.{length-take-le, mul-mod_left, refl, replicate, subst, suc, sym, take, take-append-drop, take_at, true}
use Rattle.wire.proofs.Prelude.{zero, ℕ}
use Rattle.answers.specs.Answers.{unless_refused}
use Rattle.journal_blocks.proofs.Checking.{Right, not_refused}
use Rattle.journal_blocks.proofs.Forming.{FormedBlock, facts_formed_block, formed_block_facts}
use Rattle.journal_blocks.proofs.Sizes.{block_bounds, count_back, items_room}
use Rattle.journal_blocks.specs.Blocks.{block_kind, head_end, item_limit, item_size, kind_of_block, max_block, records_per_block, stated_count}
use Rattle.journal_blocks.specs.Blocks.{tariff_in}
use Rattle.journal_blocks.specs.Checked.{block_refusal, checked, tariff_refusal}
use Rattle.journal_writer.proofs.Allowing.{allowed_answer, facts_allowed, tariff_bounds}
use Rattle.journal_writer.specs.Written.{body, header, journal_block, tariff_bytes, tariff_fits, write_refusal, written}
use Rattle.ledgers.specs.Limits.{account_limit}
use Rattle.sha256.proofs.Digests.{bytes_sha256, length_sha256}
use Rattle.sha256.specs.Sha256.{sha256}
use Rattle.tariffs.specs.Tariffs.{free, tariff_allowed}
use Rattle.tariffs.specs.declared.Tariff.{Tariff}
use Rattle.wire.proofs.Lists.{bytes_append, bytes_zeros, same_equal, same_self, zeros_are, zeros_replicate}
use Rattle.wire.proofs.Numbers.{bytes_bytes_of, bytes_then, drop_field, one_byte, value_back}
use Rattle.wire.specs.BigEndian.{All, Bytes, bytes_of, field, same, value, value_after, zeros}

-- ## Rate and charge account in the header

-- 4 bytes
length_tariff : (k : ℕ) (t : Tariff) → length (tariff_bytes k t) ≡ 4
unfolding bytes_of
length_tariff zero t = refl
length_tariff (suc k) t = refl

-- they are bytes
bytes_tariff : (k : ℕ) (t : Tariff) → Bytes (tariff_bytes k t)
unfolding bytes_of All
bytes_tariff zero t = bytes_then 2 t.rate (bytes_of 2 t.account) (bytes_bytes_of 2 t.account)
bytes_tariff (suc k) t = bytes_zeros 4

-- every block but block 0 is written without them
same_tariff : (k : ℕ) (t t' : Tariff) → (k ≡ 0 → t ≡ t') → tariff_bytes k t ≡ tariff_bytes k t'
same_tariff zero t t' h = ap (tariff_bytes 0) (h refl)
same_tariff (suc k) t t' h = refl

-- ## Lengths

-- 480 bytes before the check
pub length_body : (k : ℕ) (t : Tariff) (items : List ℕ) → length items ≤ 448 → length (body k t items) ≡ 480
unfolding body bytes_of
length_body k t items h = simp (length-append, length-replicate, length_tariff) (omega arith)

-- 512 with it
pub length_block : (k : ℕ) (t : Tariff) (items : List ℕ) → length items ≤ 448 → length (journal_block k t items) ≡ 512
unfolding journal_block
length_block k t items h =
    let p : List ℕ = body k t items in
    omega (arith, length-append p (sha256 p), length_body k t items h, length_sha256 p)

-- what stands from byte 32 on
pub block_items : (k : ℕ) (t : Tariff) (items : List ℕ)
    → drop 32 (journal_block k t items) ≡ items ++ (replicate (448 - length items) 0 ++ sha256 (body k t items))
unfolding journal_block body bytes_of
block_items zero t items = append_assoc items (replicate (448 - length items) 0) (sha256 (body zero t items))
block_items (suc k) t items = append_assoc items (replicate (448 - length items) 0) (sha256 (body (suc k) t items))

-- a block of bytes is bytes
pub bytes_block : (k : ℕ) (t : Tariff) (items : List ℕ) → Bytes items → length items / item_size k < 256 → Bytes (journal_block k t items)
unfolding journal_block body All
bytes_block k t items h l =
    let c : ℕ = length items / item_size k in
    let z : List ℕ = replicate (448 - length items) 0 in
    let after = bytes_append (tariff_bytes k t) (replicate 22 0) (bytes_tariff k t) (bytes_zeros 22) in
    bytes_append (body k t items) (sha256 (body k t items))
    (bytes_append (header k t c) (items ++ z)
    (bytes_then 4 k (kind_of_block k ∷ c ∷ (tariff_bytes k t ++ replicate 22 0)) ((block_bounds k).1, (l, after)))
    (bytes_append items z h (bytes_zeros (448 - length items))))
    (bytes_sha256 (body k t items))

-- zero bytes, and what stands after them
zeros_then : (i n : ℕ) (b : List ℕ) → i + n ≤ length b → zeros (take n (drop i b)) ≡ true → drop i b ≡ replicate n 0 ++ drop (i + n) b
zeros_then i n b h z =
    let l : length (take n (drop i b)) ≡ n = length-take-le n (drop i b) (omega (arith, length-drop i b)) in
    sym (take-append-drop n (drop i b)) ∙ rw (zeros_are (take n (drop i b)) z, l, drop-drop)

-- ## From the bytes

-- zeros from byte 6 up to byte 31 in every block but block 0
zeros_from_6 : (b : List ℕ) (k before : ℕ) → Right b (suc k) before → drop 6 b ≡ replicate 26 0 ++ drop 32 b
zeros_from_6 b k before r =
    zeros_then 6 26 b (omega (arith, r.long)) (formed_block_facts b (suc k) before r.formed).head

-- so rate and charge account read as 0 there
pub later_tariff : (b : List ℕ) (k before : ℕ) → Right b k before → 0 < k → tariff_in b ≡ free
unfolding field value_after
later_tariff b zero before r l = absurd (omega arith)
later_tariff b (suc k) before r l =
    let e = zeros_from_6 b k before r in
    let rate = ap (λ (s : List ℕ). value (take 2 s)) e in
    let account = ap (λ (s : List ℕ). value (take 2 s)) (sym (drop-drop 2 6 b) ∙ ap (drop 2) e) in
    λ i. record { rate = rate i; account = account i }

-- the bytes of the header from byte 6 on
header_rest : (b : List ℕ) (k before : ℕ) → Bytes b → Right b k before
    → drop 6 b ≡ (tariff_bytes k (tariff_in b) ++ replicate 22 0) ++ drop 32 b
unfolding bytes_of
header_rest b zero before y r =
    let z = zeros_then 10 22 b (omega (arith, r.long)) (formed_block_facts b 0 before r.formed).head in
    drop_field 6 2 b y (omega (arith, r.long))
    ∙ ap (λ (q : List ℕ). bytes_of 2 (field 6 2 b) ++ q)
    (drop_field 8 2 b y (omega (arith, r.long)) ∙ ap (λ (q : List ℕ). bytes_of 2 (field 8 2 b) ++ q) z)
header_rest b (suc k) before y r = zeros_from_6 b k before r

-- the items of a block with number k
abbrev pub item_bytes : ℕ → List ℕ → List ℕ
item_bytes k b = take (stated_count b * item_size k) (drop 32 b)

module _ (b : List ℕ) (k before : ℕ) (y : Bytes b) (r : Right b k before) (t : Tariff) (told : k ≡ 0 → tariff_in b ≡ t) where
  -- the facts of its form
  f : FormedBlock b k before
  f = formed_block_facts b k before r.formed

  -- the bytes of its items
  abbrev n : ℕ
  n = stated_count b * item_size k

  -- they have room
  n_room : n ≤ 448
  n_room = items_room k (stated_count b) f.fits

  -- they are all there
  its_length : length (item_bytes k b) ≡ n
  its_length = length-take-le n (drop 32 b) (omega (arith, length-drop 32 b, r.long, n_room))

  -- the header, byte by byte
  head_is : b ≡ header k t (stated_count b) ++ drop 32 b
  unfolding bytes_of
  head_is =
      let l = r.long in
      let kind = one_byte (block_kind b) (omega (arith, f.kind, (block_bounds k).1)) ∙ ap (λ (x : ℕ). x ∷ []) f.kind in
      let count = one_byte (stated_count b) (omega (arith, f.fits, (block_bounds k).2)) in
      drop_field 0 4 b y (omega arith)
      ∙ ap₂ (λ (x : ℕ) (q : List ℕ). bytes_of 4 x ++ q) r.numbered
      (drop_field 4 1 b y (omega arith)
      ∙ ap₂ (λ (p q : List ℕ). p ++ q) kind
      (drop_field 5 1 b y (omega arith)
      ∙ ap₂ (λ (p q : List ℕ). p ++ q) count (header_rest b k before y r ∙ rw (same_tariff k (tariff_in b) t told))))

  -- the items and the zeros after them
  items_are : drop 32 b ≡ (item_bytes k b ++ replicate (448 - n) 0) ++ drop 480 b
  items_are =
      let e : 32 + n + (448 - n) ≡ 480 = omega (arith, n_room) in
      sym (take-append-drop n (drop 32 b))
      ∙ ap (λ (q : List ℕ). item_bytes k b ++ q)
      (drop-drop n 32 b ∙ zeros_then (32 + n) (448 - n) b (omega (arith, r.long, n_room)) f.tail ∙ rw e)
      ∙ sym (append_assoc (item_bytes k b) (replicate (448 - n) 0) (drop 480 b))

  -- its first 480 bytes
  body_is : take 480 b ≡ body k t (item_bytes k b)
  unfolding body
  body_is =
      let its : List ℕ = item_bytes k b in
      let e : b ≡ body k t its ++ drop 480 b =
      head_is
      ∙ rw (its_length, count_back k (stated_count b))
      (rw (append_assoc (header k t (stated_count b)) (its ++ replicate (448 - n) 0) (drop 480 b), ← items_are)) in
      ap (take 480) e ∙ take_at (body k t its) (drop 480 b) 480 (length_body k t its (omega (arith, its_length, n_room)))

  -- the block
  pub block_is : b ≡ journal_block k t (item_bytes k b)
  unfolding journal_block checked
  block_is =
      sym (take-append-drop 480 b)
      ∙ ap (λ (q : List ℕ). take 480 b ++ q) (sym (same_equal (sha256 (take 480 b)) (drop 480 b) r.sealed))
      ∙ ap (λ (p : List ℕ). p ++ sha256 p) body_is

-- ## From the items

-- zero bytes in the header
head_zero : (k : ℕ) (t : Tariff) (items : List ℕ)
    → zeros (take (32 - head_end k) (drop (head_end k) (journal_block k t items))) ≡ true
unfolding journal_block body bytes_of zeros
head_zero zero t items = refl
head_zero (suc k) t items = refl

-- rate and charge account that 52 has nothing against read back from block 0
pub tariff_back : (t : Tariff) (n : ℕ) (items : List ℕ) → n ≤ account_limit → tariff_allowed t n ≡ true
    → tariff_in (journal_block 0 t items) ≡ t
unfolding field journal_block body bytes_of value_after
tariff_back t n items l h =
    let b = tariff_bounds t n h in
    let rate = value_back 2 t.rate (omega arith) in
    let account = value_back 2 t.account (omega arith) in
    λ i. record { rate = rate i; account = account i }

-- 52 has nothing against the block
tariff_passes : (k : ℕ) (t : Tariff) (c : ℕ) (items : List ℕ) → c ≤ item_limit k → tariff_fits k t c ≡ true
    → stated_count (journal_block k t items) ≡ c → tariff_refusal (journal_block k t items) k ≡ 0
unfolding tariff_refusal
tariff_passes zero t c items l h e = rw (tariff_back t c items l h, e, h)
tariff_passes (suc k) t c items l h e = refl

module _ (k before c : ℕ) (t : Tariff) (items : List ℕ) (low : k ≤ max_block) (some : 0 < c) (fits : c ≤ item_limit k)
    (whole : length items ≡ c * item_size k) (follows : (leb k 2 || leb records_per_block before) ≡ true)
    (charge : tariff_fits k t c ≡ true) where
  -- the items have room
  room : length items ≤ 448
  room = subst (λ (m : ℕ). m ≤ 448) (sym whole) (items_room k c fits)

  -- they are c items
  quotient : length items / item_size k ≡ c
  quotient = ap (λ (m : ℕ). m / item_size k) whole ∙ count_back k c

  -- the block states c items
  pub count_is : stated_count (journal_block k t items) ≡ c
  unfolding field journal_block body bytes_of value_after
  count_is = omega (arith, quotient)

  -- zeros after the items
  tail_zero : zeros (take (448 - c * item_size k) (drop (32 + c * item_size k) (journal_block k t items))) ≡ true
  tail_zero =
      let z : List ℕ = replicate (448 - length items) 0 in
      rw (← whole, ← drop-drop (length items) 32 (journal_block k t items), block_items k t items, drop-append_seam)
      (ap zeros (take_at z (sha256 (body k t items)) (448 - length items) (length-replicate (448 - length items) 0))
      ∙ zeros_replicate (448 - length items))

  -- its check
  check_is : checked (journal_block k t items) ≡ true
  unfolding checked journal_block
  check_is =
      let p : List ℕ = body k t items in
      let l = length_body k t items room in
      ap₂ same (ap sha256 (take_at p (sha256 p) 480 l)) (drop_at p (sha256 p) 480 l) ∙ same_self (sha256 p)

  -- the judging call passes it
  pub block_right : block_refusal (journal_block k t items) k before ≡ 0
  unfolding field journal_block body bytes_of value_after
  block_right =
      let b : List ℕ = journal_block k t items in
      not_refused b k before (record {
        long = length_block k t items room;
        low = low;
        sealed = check_is;
        numbered = value_back 4 k (omega (arith, low));
        formed = facts_formed_block b k before (record {
          kind = omega arith;
          some = rw count_is some;
          fits = rw count_is fits;
          head = head_zero k t items;
          tail = ap (λ (m : ℕ). zeros (take (448 - m * item_size k) (drop (32 + m * item_size k) b))) count_is ∙ tail_zero;
          follows = follows;
        });
        tariff = tariff_passes k t c items fits charge count_is;
      })

  -- the writer's call allows it
  pub block_allowed : (out : List ℕ) → length out ≡ 512
      → (write_refusal (length out) k (kind_of_block k) t (length items) ≡ 0)
      × (written out k (kind_of_block k) t items ≡ journal_block k t items)
  unfolding written
  block_allowed out l =
      let a = facts_allowed (length out) k (kind_of_block k) t (length items) (record {
        long = l;
        low = low;
        right = refl;
        whole = ap (λ (m : ℕ). m % item_size k) whole ∙ mul-mod_left c (item_size k);
        some = rw quotient some;
        fits = rw quotient fits;
        tariff = ap (tariff_fits k t) quotient ∙ charge;
      }) in
      let z = allowed_answer (length out) k (kind_of_block k) t (length items) a in
      (z, ap (λ (m : ℕ). unless_refused m (journal_block k t items) out) z)
