-- Opening balances and records as the items of blocks: what is laid out reads back, and only that. Assumes nothing.
use Rattle.wire.proofs.Prelude.{List, List·getD-append, [], ◌*◌, ◌++◌, ◌+◌, ◌<◌, ◌^◌, ◌∙◌, ◌∷◌, ◌≡◌, ◌≤◌, ap, append_assoc, append-nil, ap₂}
use Rattle.wire.proofs.Prelude.{arith, drop, drop_at, drop-drop, eq-or-lt_of_le, get_or, get_or_at, length, length-append, length-drop}
use Rattle.wire.proofs.Prelude.{length-take-le, refl, suc, sym, take, take-add, take_at, zero, ℕ, ⊎_elim}
use Rattle.journal.specs.Journal.{RecordBytes, balance_bytes, joined}
use Rattle.journal_blocks.proofs.Items.{length_records}
use Rattle.journal_blocks.specs.Blocks.{first_balances, first_records, record_part}
use Rattle.wire.proofs.Lists.{all_append, all_drop, all_take, bytes_append}
use Rattle.wire.proofs.Numbers.{bytes_bytes_of, bytes_field, field_fits, length_bytes_of, value_back}
use Rattle.wire.specs.BigEndian.{All, Bytes, bytes_of, field, value}

-- ## Lists one after the other

-- lists joined and joined
pub joined_append : {A : Type 0} (xs ys : List (List A)) → joined (xs ++ ys) ≡ joined xs ++ joined ys
unfolding joined
joined_append [] ys = refl
joined_append (x ∷ xs) ys = rw (joined_append xs ys, append_assoc)

-- one more at the end
joined_snoc : {A : Type 0} (xs : List (List A)) (x : List A) → joined (xs ++ x ∷ []) ≡ joined xs ++ x
unfolding joined
joined_snoc xs x = joined_append xs (x ∷ []) ∙ rw append-nil

-- two lists of n elements with something after each
same_heads : {A : Type 0} (n : ℕ) (x y p q : List A) → length x ≡ n → length y ≡ n → x ++ p ≡ y ++ q → (x ≡ y) × (p ≡ q)
same_heads n x y p q lx ly e =
    (sym (take_at x p n lx) ∙ ap (take n) e ∙ take_at y q n ly, sym (drop_at x p n lx) ∙ ap (drop n) e ∙ drop_at y q n ly)

-- ## Records

-- a list of n elements
abbrev pub Wide : ℕ → List ℕ → Type 0
Wide n x = length x ≡ n

-- records of bytes have 32 each
pub all_long : (rs : List (List ℕ)) → All RecordBytes rs → All (Wide 32) rs
unfolding All
all_long [] h = tt
all_long (r ∷ rs) h = (h.0.long, all_long rs h.1)

-- and 32 each in a row
pub length_joined : (rs : List (List ℕ)) → All (Wide 32) rs → length (joined rs) ≡ length rs * 32
unfolding joined All
length_joined [] h = refl
length_joined (r ∷ rs) h = omega (arith, length-append r (joined rs), h.0, length_joined rs h.1)

-- in a row they are bytes
pub bytes_joined : (rs : List (List ℕ)) → All RecordBytes rs → Bytes (joined rs)
unfolding joined All
bytes_joined [] h = tt
bytes_joined (r ∷ rs) h = bytes_append r (joined rs) h.0.bytes (bytes_joined rs h.1)

-- parts of one length are told apart by their elements in a row
pub joined_only : (n : ℕ) → 0 < n → (xs ys : List (List ℕ)) → All (Wide n) xs → All (Wide n) ys → joined xs ≡ joined ys → xs ≡ ys
unfolding joined All
joined_only n l [] [] h k e = refl
joined_only n l [] (y ∷ ys) h k e = absurd (omega (arith, ap length e, length-append y (joined ys), k.0))
joined_only n l (x ∷ xs) [] h k e = absurd (omega (arith, ap length e, length-append x (joined xs), h.0))
joined_only n l (x ∷ xs) (y ∷ ys) h k e =
    let s = same_heads n x y (joined xs) (joined ys) h.0 k.0 e in
    ap₂ (λ (z : List ℕ) (t : List (List ℕ)). z ∷ t) s.0 (joined_only n l xs ys h.1 k.1 s.1)

-- the first n records of a block, in a row
pub records_joined : (n : ℕ) (b : List ℕ) → joined (first_records n b) ≡ take (n * 32) (drop 32 b)
unfolding first_records record_part joined
records_joined zero b = refl
records_joined (suc n) b =
    let z : suc n * 32 ≡ n * 32 + 32 = omega arith in
    let w : 32 + 32 * n ≡ 32 + n * 32 = omega arith in
    rw (joined_snoc, records_joined n b, z, take-add, drop-drop, w)

-- the first n records of a block are records of bytes
pub records_whole : (n : ℕ) (b : List ℕ) → Bytes b → 32 + n * 32 ≤ length b → All RecordBytes (first_records n b)
unfolding first_records record_part All
records_whole zero b y h = tt
records_whole (suc n) b y h =
    let d : List ℕ = drop (32 + 32 * n) b in
    let one : RecordBytes (take 32 d) =
    record {
      long = length-take-le 32 d (omega (arith, length-drop (32 + 32 * n) b));
      bytes = all_take _ 32 d (all_drop _ (32 + 32 * n) b y);
    } in
    all_append RecordBytes (first_records n b) (take 32 d ∷ []) (records_whole n b y (omega arith)) (one, tt)

-- the record at each place
pub record_at_lem : (n : ℕ) (b : List ℕ) (place : ℕ) → place < n → get_or (first_records n b) place [] ≡ record_part b place
unfolding first_records
record_at_lem zero b place h = absurd (omega arith)
record_at_lem (suc n) b place h =
    ⊎_elim
    (λ e. get_or_at (first_records n b) (record_part b n) [] [] place (length_records n b ∙ sym e) ∙ ap (record_part b) (sym e))
    (λ l. List·getD-append (first_records n b) (record_part b n ∷ []) [] place (omega (arith, length_records n b)) ∙ record_at_lem n b place l)
    (eq-or-lt_of_le (omega arith))

-- ## Opening balances

-- a number of 8 bytes
abbrev pub Fit : ℕ → Type 0
Fit x = x < 2 ^ 64

-- 8 bytes a balance
pub length_balance_bytes : (xs : List ℕ) → length (balance_bytes xs) ≡ length xs * 8
unfolding balance_bytes
length_balance_bytes [] = refl
length_balance_bytes (x ∷ xs) = omega (arith, length-append (bytes_of 8 x) (balance_bytes xs), length_bytes_of 8 x, length_balance_bytes xs)

-- they are bytes
pub bytes_balances : (xs : List ℕ) → Bytes (balance_bytes xs)
unfolding balance_bytes All
bytes_balances [] = tt
bytes_balances (x ∷ xs) = bytes_append (bytes_of 8 x) (balance_bytes xs) (bytes_bytes_of 8 x) (bytes_balances xs)

-- one more balance at the end
balance_snoc : (xs : List ℕ) (x : ℕ) → balance_bytes (xs ++ x ∷ []) ≡ balance_bytes xs ++ bytes_of 8 x
unfolding balance_bytes
balance_snoc [] x = append-nil (bytes_of 8 x)
balance_snoc (y ∷ ys) x = rw (balance_snoc ys x, append_assoc)

-- balances of 8 bytes are told apart by their bytes in a row
pub balances_only : (xs ys : List ℕ) → All Fit xs → All Fit ys → balance_bytes xs ≡ balance_bytes ys → xs ≡ ys
unfolding balance_bytes All
balances_only [] [] h k e = refl
balances_only [] (y ∷ ys) h k e = absurd (omega (arith, ap length e, length-append (bytes_of 8 y) (balance_bytes ys), length_bytes_of 8 y))
balances_only (x ∷ xs) [] h k e = absurd (omega (arith, ap length e, length-append (bytes_of 8 x) (balance_bytes xs), length_bytes_of 8 x))
balances_only (x ∷ xs) (y ∷ ys) h k e =
    let s = same_heads 8 (bytes_of 8 x) (bytes_of 8 y) (balance_bytes xs) (balance_bytes ys) (length_bytes_of 8 x) (length_bytes_of 8 y) e in
    ap₂ (λ (z : ℕ) (l : List ℕ). z ∷ l) (sym (value_back 8 x h.0) ∙ ap value s.0 ∙ value_back 8 y k.0)
    (balances_only xs ys h.1 k.1 s.1)

-- the first n opening balances of a block, in a row
pub balances_joined : (n : ℕ) (b : List ℕ) → Bytes b → 32 + n * 8 ≤ length b → balance_bytes (first_balances n b) ≡ take (n * 8) (drop 32 b)
unfolding first_balances balance_bytes
balances_joined zero b y h = refl
balances_joined (suc n) b y h =
    let z : suc n * 8 ≡ n * 8 + 8 = omega arith in
    let w : 32 + 8 * n ≡ 32 + n * 8 = omega arith in
    rw (balance_snoc, balances_joined n b y (omega arith), bytes_field (32 + 8 * n) 8 b y (omega arith), z, take-add, drop-drop, w)

-- the first n opening balances of a block are numbers of 8 bytes
pub balances_fit : (n : ℕ) (b : List ℕ) → Bytes b → 32 + n * 8 ≤ length b → All Fit (first_balances n b)
unfolding first_balances All
balances_fit zero b y h = tt
balances_fit (suc n) b y h =
    all_append Fit (first_balances n b) (field (32 + 8 * n) 8 b ∷ []) (balances_fit n b y (omega arith))
    (field_fits (32 + 8 * n) 8 b y (omega arith), tt)
