-- The journal theorem: a byte string reads as rate and charge account, openings and records exactly when they are within the limits and
-- it is the journal written from them; and what each of its blocks is to the writer's and the judging call. Assumes nothing.
use Rattle.wire.proofs.Prelude.{Bool, List, [], ◌*◌, ◌++◌, ◌+◌, ◌-◌, ◌/◌, ◌<◌, ◌||◌, ◌∙◌, ◌∷◌, ◌≡◌, ◌≤◌, ap, append-nil, ap₂, arith, drop}
use Rattle.wire.proofs.Prelude.{drop_at, drop_of_length-le, eq-or-lt_of_le, false, false≢true, le-leb, le-ltb, leb, leb-false, length}
use Rattle.wire.proofs.Prelude.{length-append, length-drop, length-take, lt-leb, refl, replicate, subst, suc, sym, take}
use Rattle.wire.proofs.Prelude.{take_all, take-append-drop, take_at, true, zero, ℕ, ⊎_elim}
use Rattle.journal.proofs.Blocks.{block_allowed, block_is, block_items, block_right, bytes_block, count_is, item_bytes}
use Rattle.journal.proofs.Blocks.{later_tariff, tariff_back}
use Rattle.journal.proofs.Items.{Wide, all_long, bytes_joined, joined_only, length_joined, records_joined, records_whole}
use Rattle.journal.proofs.Items.{balances_fit, balances_joined, balances_only, bytes_balances, length_balance_bytes, record_at_lem}
use Rattle.journal.specs.Journal.{IsOpening, RecordBytes, WithinLimits, balance_bytes, block_count, groups, joined, record_limit}
use Rattle.journal.specs.Journal.{items_of}
use Rattle.journal.specs.Journal.{AllBlocksPass, Reads, ReadsBack, ReadsOnce, WrittenReads, all_records, journal_of, numbered}
use Rattle.journal.specs.Journal.{AllAllowed, BlocksWritten, CallsRead, HeadersOfBefore}
use Rattle.journal_blocks.proofs.Checking.{right_facts, tariff_allowed_lem}
use Rattle.journal_blocks.proofs.Forming.{formed_block_facts}
use Rattle.journal_blocks.proofs.Items.{length_balances, length_records}
use Rattle.journal_blocks.proofs.Sizes.{balances_block, block_bounds, count_back, records_block}
use Rattle.journal_blocks.specs.Blocks.{balances_of, item_limit, item_size, kind_of_block, max_block, records_of, records_per_block, stated_count}
use Rattle.journal_blocks.specs.Blocks.{tariff_in}
use Rattle.journal_blocks.specs.Checked.{block_refusal}
use Rattle.journal_reader.specs.Judged.{balances_refusal, count_of, opening_of, part_of, place_refusal, record_refusal}
use Rattle.journal_writer.proofs.Allowing.{fits_later}
use Rattle.journal_writer.specs.Written.{body, journal_block, tariff_fits, write_refusal, written}
use Rattle.sha256.specs.Sha256.{sha256}
use Rattle.tariffs.specs.Tariffs.{tariff_allowed}
use Rattle.tariffs.specs.declared.Tariff.{Tariff}
use Rattle.wire.proofs.Lists.{all_append, all_drop, all_split, all_take}
use Rattle.wire.specs.BigEndian.{All, Bytes, bytes_of}

-- ## Blocks that follow

-- a block may follow where the one before has 14 records or the number is low
follows_by : (k before : ℕ) → (2 < k → 14 ≤ before) → (leb k 2 || leb records_per_block before) ≡ true
follows_by k before h = go (leb k 2) refl
  where
    go : (t : Bool) → leb k 2 ≡ t → (leb k 2 || leb records_per_block before) ≡ true
    go true e = rw e
    go false e = rw (e, le-leb records_per_block before (h (leb-false k 2 e)))

-- ## Blocks of opening balances

-- what a right block of opening balances is
pub record OpeningBlock (b : List ℕ) (k : ℕ) (t : Tariff) : Type 0 where
  pub is : b ≡ journal_block k t (balance_bytes (balances_of b))
  pub opening : IsOpening (balances_of b)

-- from the bytes
opening_back : (b : List ℕ) (k before : ℕ) (t : Tariff) → k < 2 → Bytes b → block_refusal b k before ≡ 0 → (k ≡ 0 → tariff_in b ≡ t)
    → OpeningBlock b k t
opening_back b k before t l y h told =
    let r = right_facts b k before h in
    let f = formed_block_facts b k before r.formed in
    let c : ℕ = stated_count b in
    let most : c ≤ 56 = subst (λ (m : ℕ). c ≤ m) (balances_block k l).1 f.fits in
    let room : 32 + c * 8 ≤ length b = omega (arith, r.long) in
    let n = length_balances c b in
    let e : item_bytes k b ≡ balance_bytes (balances_of b) =
    ap (λ (m : ℕ). take (c * m) (drop 32 b)) (balances_block k l).0 ∙ sym (balances_joined c b y room) in
    record {
      is = block_is b k before y r t told ∙ ap (journal_block k t) e;
      opening = record { some = omega (arith, n, f.some); most = omega (arith, n); fit = balances_fit c b y room };
    }

-- what the block written from an opening is
pub record OpeningWritten (xs : List ℕ) (k before : ℕ) (t : Tariff) : Type 0 where
  pub passes : block_refusal (journal_block k t (balance_bytes xs)) k before ≡ 0
  pub reads : balances_of (journal_block k t (balance_bytes xs)) ≡ xs
  pub allowed : (out : List ℕ) → length out ≡ 512
      → (write_refusal (length out) k (kind_of_block k) t (length (balance_bytes xs)) ≡ 0)
      × (written out k (kind_of_block k) t (balance_bytes xs) ≡ journal_block k t (balance_bytes xs))

-- from the balances
opening_forth : (xs : List ℕ) (k before : ℕ) (t : Tariff) → k < 2 → IsOpening xs → tariff_fits k t (length xs) ≡ true
    → OpeningWritten xs k before t
opening_forth xs k before t l o charge =
    let c : ℕ = length xs in
    let items : List ℕ = balance_bytes xs in
    let b : List ℕ = journal_block k t items in
    let low : k ≤ max_block = omega arith in
    let fits : c ≤ item_limit k = subst (λ (m : ℕ). c ≤ m) (sym (balances_block k l).1) o.most in
    let whole : length items ≡ c * item_size k = length_balance_bytes xs ∙ ap (λ (m : ℕ). c * m) (sym (balances_block k l).0) in
    let follows : (leb k 2 || leb records_per_block before) ≡ true = follows_by k before (λ g. absurd (omega arith)) in
    let passes = block_right k before c t items low o.some fits whole follows charge in
    let r = right_facts b k before passes in
    let ci : stated_count b ≡ c = count_is k before c t items low o.some fits whole follows charge in
    let quotient : length items / item_size k ≡ c = ap (λ (m : ℕ). m / item_size k) whole ∙ count_back k c in
    let y : Bytes b = bytes_block k t items (bytes_balances xs) (omega (arith, quotient, fits, (block_bounds k).2)) in
    let room : 32 + stated_count b * 8 ≤ length b = omega (arith, r.long, ci, o.most) in
    let e : balance_bytes (balances_of b) ≡ items =
    balances_joined (stated_count b) b y room
    ∙ ap₂ (λ (m : ℕ) (s : List ℕ). take (m * 8) s) ci (block_items k t items)
    ∙ take_at items (replicate (448 - length items) 0 ++ sha256 (body k t items)) (c * 8) (length_balance_bytes xs) in
    record {
      passes = passes;
      reads = balances_only (balances_of b) xs (balances_fit (stated_count b) b y room) o.fit e;
      allowed = block_allowed k before c t items low o.some fits whole follows charge;
    }

-- ## Blocks of records, from the bytes

-- what a right block of records is
pub record RecordBlock (b : List ℕ) (k : ℕ) (t : Tariff) : Type 0 where
  pub is : b ≡ journal_block k t (joined (records_of b))
  pub whole : All RecordBytes (records_of b)
  pub count : length (records_of b) ≡ stated_count b
  pub some : 0 < stated_count b
  pub most : stated_count b ≤ 14
  pub low : k ≤ max_block

-- from its bytes
record_back : (b : List ℕ) (k before : ℕ) (t : Tariff) → 2 ≤ k → Bytes b → block_refusal b k before ≡ 0 → RecordBlock b k t
record_back b k before t l y h =
    let r = right_facts b k before h in
    let f = formed_block_facts b k before r.formed in
    let c : ℕ = stated_count b in
    let most : c ≤ 14 = subst (λ (m : ℕ). c ≤ m) (records_block k l).1 f.fits in
    let e : item_bytes k b ≡ joined (records_of b) =
    ap (λ (m : ℕ). take (c * m) (drop 32 b)) (records_block k l).0 ∙ sym (records_joined c b) in
    record {
      is = block_is b k before y r t (λ z. absurd (omega arith)) ∙ ap (journal_block k t) e;
      whole = records_whole c b y (omega (arith, r.long));
      count = length_records c b;
      some = f.some;
      most = most;
      low = r.low;
    }

-- no block from number 3 on is right after one of fewer than 14
short_last : (k before : ℕ) (bs : List (List ℕ)) → 2 < k → before < 14 → AllBlocksPass k before bs → bs ≡ []
unfolding AllBlocksPass
short_last k before [] l s h = refl
short_last k before (b ∷ bs) l s h =
    let r = right_facts b k before h.0 in
    let f = (formed_block_facts b k before r.formed).follows in
    let z : (leb k 2 || leb records_per_block before) ≡ false = rw (lt-leb k 2 l, lt-leb records_per_block before s) in
    absurd (false≢true (sym z ∙ f))

-- the first 14 of the records of a block and those after them, where none come after fewer than 14
cut_14 : (xs ys : List (List ℕ)) → length xs ≤ 14 → (length xs < 14 → ys ≡ []) → (take 14 (xs ++ ys) ≡ xs) × (drop 14 (xs ++ ys) ≡ ys)
cut_14 xs ys l h =
    ⊎_elim
    (λ g. (take_at xs ys 14 g, drop_at xs ys 14 g))
    (λ s. rw (h s, append-nil) (take_all 14 xs l, drop_of_length-le xs {i = 14} l))
    (eq-or-lt_of_le l)

-- the blocks that records need, with those of one block more
count_14 : (x y : ℕ) → 0 < x → x ≤ 14 → (x < 14 → y ≡ 0) → (x + y + 13) / 14 ≡ suc ((y + 13) / 14)
count_14 x y p q h = ⊎_elim (λ e. omega arith) (λ s. let z = h s in omega arith) (eq-or-lt_of_le q)

-- blocks of records that are right in turn are those written from their records
pub record RecordBlocks (bs : List (List ℕ)) (k : ℕ) (t : Tariff) : Type 0 where
  pub whole : All RecordBytes (all_records bs)
  pub limit : length (all_records bs) ≤ 14 * (65536 - k)
  pub are : bs ≡ numbered t k (groups (block_count (all_records bs)) (all_records bs))

-- from the bytes of the blocks
records_back : (t : Tariff) (k before : ℕ) (bs : List (List ℕ)) → 2 ≤ k → All Bytes bs → AllBlocksPass k before bs → RecordBlocks bs k t
unfolding AllBlocksPass all_records groups numbered All
records_back t k before [] l y h = record { whole = tt; limit = omega arith; are = refl }
records_back t k before (b ∷ bs) l y h =
    let o = record_back b k before t l y.0 h.0 in
    let c : ℕ = stated_count b in
    let later = records_back t (suc k) c bs (omega arith) y.1 h.1 in
    let xs : List (List ℕ) = records_of b in
    let ys : List (List ℕ) = all_records bs in
    let la : length (xs ++ ys) ≡ length xs + length ys = length-append xs ys in
    let last : c < 14 → bs ≡ [] = λ s. short_last (suc k) c bs (omega arith) s h.1 in
    let short : length xs < 14 → ys ≡ [] = λ s. ap all_records (last (omega (arith, o.count))) in
    let cut = cut_14 xs ys (omega (arith, o.count, o.most)) short in
    let count : block_count (xs ++ ys) ≡ suc (block_count ys) =
    ap (λ (m : ℕ). (m + 13) / 14) la
    ∙ count_14 (length xs) (length ys) (omega (arith, o.count, o.some)) (omega (arith, o.count, o.most)) (λ s. ap length (short s)) in
    record {
      whole = all_append RecordBytes xs ys o.whole later.whole;
      limit = omega (arith, la, o.count, o.most, o.low, later.limit);
      are =
          (λ i. o.is i ∷ later.are i)
          ∙ (λ i. journal_block k t (joined (sym cut.0 i)) ∷ numbered t (suc k) (groups (block_count ys) (sym cut.1 i)))
          ∙ ap (λ (m : ℕ). numbered t k (groups m (xs ++ ys))) (sym count);
    }

-- ## Blocks of records, from the records

-- what the blocks written from records are
pub record RecordsWritten (records : List (List ℕ)) (n k before : ℕ) (t : Tariff) : Type 0 where
  pub pass : AllBlocksPass k before (numbered t k (groups n records))
  pub read : all_records (numbered t k (groups n records)) ≡ records
  pub allow : AllAllowed t k (groups n records)

-- from the records
records_forth : (t : Tariff) (n k before : ℕ) (rs : List (List ℕ)) → 2 ≤ k → k + n ≤ 65536 → All RecordBytes rs → n ≡ block_count rs
    → (2 < k → 0 < n → 14 ≤ before) → RecordsWritten rs n k before t
unfolding AllBlocksPass all_records groups numbered AllAllowed
records_forth t zero k before [] l u w e f = record { pass = tt; read = refl; allow = tt }
records_forth t zero k before (r ∷ rs) l u w e f = absurd (omega arith)
records_forth t (suc n) k before rs l u w e f =
    let some-records : 0 < length rs = omega arith in
    let xs : List (List ℕ) = take 14 rs in
    let ys : List (List ℕ) = drop 14 rs in
    let lx = length-take 14 rs in
    let ly = length-drop 14 rs in
    let wx : All RecordBytes xs = all_take RecordBytes 14 rs w in
    let c : ℕ = length xs in
    let items : List ℕ = joined xs in
    let b : List ℕ = journal_block k t items in
    let low : k ≤ max_block = omega arith in
    let some : 0 < c = omega (arith, lx) in
    let most : c ≤ 14 = omega (arith, lx) in
    let fits : c ≤ item_limit k = subst (λ (m : ℕ). c ≤ m) (sym (records_block k l).1) most in
    let long : length items ≡ c * 32 = length_joined xs (all_long xs wx) in
    let whole : length items ≡ c * item_size k = long ∙ ap (λ (m : ℕ). c * m) (sym (records_block k l).0) in
    let follows : (leb k 2 || leb records_per_block before) ≡ true = follows_by k before (λ g. f g (omega arith)) in
    let charge = fits_later k t c (omega arith) in
    let passes = block_right k before c t items low some fits whole follows charge in
    let r = right_facts b k before passes in
    let ci : stated_count b ≡ c = count_is k before c t items low some fits whole follows charge in
    let quotient : length items / item_size k ≡ c = ap (λ (m : ℕ). m / item_size k) whole ∙ count_back k c in
    let y : Bytes b = bytes_block k t items (bytes_joined xs wx) (omega (arith, quotient, most)) in
    let room : 32 + stated_count b * 32 ≤ length b = omega (arith, r.long, ci, most) in
    let joins : joined (records_of b) ≡ items =
    records_joined (stated_count b) b
    ∙ ap₂ (λ (m : ℕ) (s : List ℕ). take (m * 32) s) ci (block_items k t items)
    ∙ take_at items (replicate (448 - length items) 0 ++ sha256 (body k t items)) (c * 32) long in
    let reads : records_of b ≡ xs =
    joined_only 32 (omega arith) (records_of b) xs
    (all_long (records_of b) (records_whole (stated_count b) b y room)) (all_long xs wx) joins in
    let later =
    records_forth t n (suc k) (stated_count b) ys (omega arith) (omega arith) (all_drop RecordBytes 14 rs w) (omega (arith, ly))
    (λ g p. omega (arith, ci, lx)) in
    record {
      pass = (passes, later.pass);
      read = ap₂ (λ (p q : List (List ℕ)). p ++ q) reads later.read ∙ take-append-drop 14 rs;
      allow = (block_allowed k before c t items low some fits whole follows charge, later.allow);
    }

-- ## The theorem

-- the record blocks of a journal
within_written : (t : Tariff) (home far : List ℕ) (records : List (List ℕ)) → (w : WithinLimits t home far records)
    → RecordsWritten records (block_count records) 2 (stated_count (journal_block 1 t (balance_bytes far))) t
within_written t home far records w =
    records_forth t _ 2 _ records (omega arith) (omega (arith, w.limit)) w.whole refl (λ p q. absurd (omega arith))

-- a written journal reads
pub written_reads : WrittenReads
unfolding WrittenReads journal_of items_of numbered AllBlocksPass
written_reads t home far records w =
    let h = opening_forth home 0 0 t (omega arith) w.home_opening w.tariff_allowed in
    let f = opening_forth far 1 (stated_count (journal_block 0 t (balance_bytes home))) t (omega arith) w.far_opening refl in
    let r = within_written t home far records w in
    record {
      first = journal_block 0 t (balance_bytes home);
      second = journal_block 1 t (balance_bytes far);
      others = numbered t 2 (groups (block_count records) records);
      whole = refl;
      right = (h.passes, (f.passes, r.pass));
      tariff_is = tariff_back t (length home) (balance_bytes home) w.home_opening.most w.tariff_allowed;
      home_balances = h.reads;
      far_balances = f.reads;
      record_list = r.read;
    }

-- blocks in a row of bytes are bytes
all_bytes : (bs : List (List ℕ)) → Bytes (joined bs) → All Bytes bs
unfolding joined All
all_bytes [] h = tt
all_bytes (b ∷ bs) h = let s = all_split (λ (x : ℕ). x < 256) b (joined bs) h in (s.0, all_bytes bs s.1)

-- what reads is the written journal
read_written : (t : Tariff) (home far : List ℕ) (records : List (List ℕ)) (j : List ℕ) → Bytes j → Reads j t home far records
    → WithinLimits t home far records × (j ≡ journal_of t home far records)
unfolding journal_of items_of numbered AllBlocksPass All
read_written t home far records j y r =
    let bs : List (List ℕ) = r.first ∷ r.second ∷ r.others in
    let ys : All Bytes bs = all_bytes bs (subst Bytes r.whole y) in
    let h = opening_back r.first 0 0 t (omega arith) ys.0 r.right.0 (λ z. r.tariff_is) in
    let f = opening_back r.second 1 (stated_count r.first) t (omega arith) ys.1.0 r.right.1.0 (λ z. absurd (omega arith)) in
    let n : stated_count r.first ≡ length home =
    sym (length_balances (stated_count r.first) r.first) ∙ ap length r.home_balances in
    let o = records_back t 2 (stated_count r.second) r.others (omega arith) ys.1.1 r.right.1.1 in
    let e = r.record_list in (
      record {
        tariff_allowed = sym (ap₂ tariff_allowed r.tariff_is n) ∙ tariff_allowed_lem r.first 0 r.right.0;
        home_opening = subst IsOpening r.home_balances h.opening;
        far_opening = subst IsOpening r.far_balances f.opening;
        whole = subst (All RecordBytes) e o.whole;
        limit = subst (λ (q : List (List ℕ)). length q ≤ record_limit) e o.limit;
      },
      r.whole
          ∙ (λ i. joined (h.is i ∷ f.is i ∷ o.are i))
          ∙ (λ i.
          joined (journal_block 0 t (balance_bytes (r.home_balances i)) ∷ journal_block 1 t (balance_bytes (r.far_balances i))
          ∷ numbered t 2 (groups (block_count (e i)) (e i)))),
    )

-- the journal theorem
pub reads_back : ReadsBack
unfolding ReadsBack WrittenReads
reads_back t home far records j y = (
  read_written t home far records j y,
  λ h. subst (λ (x : List ℕ). Reads x t home far records) (sym h.1) (written_reads t home far records h.0),
)

-- what each block of a written journal is to the calls
pub blocks_written : BlocksWritten
unfolding BlocksWritten items_of numbered AllBlocksPass AllAllowed
blocks_written t home far records w =
    let h = opening_forth home 0 0 t (omega arith) w.home_opening w.tariff_allowed in
    let f = opening_forth far 1 (stated_count (journal_block 0 t (balance_bytes home))) t (omega arith) w.far_opening refl in
    let r = within_written t home far records w in
    ((h.allowed, (f.allowed, r.allow)), (h.passes, (f.passes, r.pass)))

-- blocks that pass have 512 bytes
all_512 : (k before : ℕ) (bs : List (List ℕ)) → AllBlocksPass k before bs → All (Wide 512) bs
unfolding AllBlocksPass All
all_512 k before [] h = tt
all_512 k before (b ∷ bs) h = ((right_facts b k before h.0).long, all_512 (suc k) (stated_count b) bs h.1)

-- what reads does so in one way
pub reads_once : ReadsOnce
unfolding ReadsOnce
reads_once j t home far records t' home' far' records' r s =
    let xs : List (List ℕ) = r.first ∷ r.second ∷ r.others in
    let ys : List (List ℕ) = s.first ∷ s.second ∷ s.others in
    let e : xs ≡ ys =
    joined_only 512 (omega arith) xs ys (all_512 0 0 xs r.right) (all_512 0 0 ys s.right) (sym r.whole ∙ s.whole) in
    let f : r.first ≡ s.first = cc in
    let g : r.second ≡ s.second = cc in
    let o : r.others ≡ s.others = cc in (
      sym r.tariff_is ∙ ap tariff_in f ∙ s.tariff_is,
      sym r.home_balances ∙ ap balances_of f ∙ s.home_balances,
      sym r.far_balances ∙ ap balances_of g ∙ s.far_balances,
      sym r.record_list ∙ ap all_records o ∙ s.record_list,
    )

-- a header with rate 0 and account 0 is the one of before
pub headers_of_before : HeadersOfBefore
unfolding HeadersOfBefore bytes_of
headers_of_before zero count = refl
headers_of_before (suc k) count = refl

-- ## The calls

-- what the calls hand out of a block
pub calls_read : CallsRead
unfolding CallsRead count_of opening_of part_of record_refusal place_refusal balances_refusal
calls_read b k before h =
    record {
      counts = rw h;
      opens = λ l. rw (h, lt-leb 2 k l);
      free_later = later_tariff b k before (right_facts b k before h);
      lists = λ l. take_at (balances_of b) (replicate (56 - stated_count b) 0) (stated_count b) (length_balances (stated_count b) b);
      parts = λ l place p. rw (h, le-ltb k 2 l, lt-leb (stated_count b) place p) (sym (record_at_lem (stated_count b) b place p));
    }
