-- Kinds, sizes and limits by a block's number. Assumes nothing.
use Rattle.wire.proofs.Prelude.{◌*◌, ◌/◌, ◌<◌, ◌≡◌, ◌≤◌, arith, mul-div_cancel, refl, suc, zero, ℕ}
use Rattle.journal_blocks.specs.Blocks.{item_limit, item_size, kind_of_block}
use Rattle.ledgers.specs.Limits.{account_limit}

-- blocks 0 and 1 hold opening balances: the size of one, and as many as a ledger has accounts
pub balances_block : (k : ℕ) → k < 2 → (item_size k ≡ 8) × (item_limit k ≡ account_limit)
balances_block zero h = (refl, refl)
balances_block (suc zero) h = (refl, refl)
balances_block (suc (suc k)) h = absurd (omega arith)

-- the others hold records: the size of one, the most, and the kind
pub records_block : (k : ℕ) → 2 ≤ k → (item_size k ≡ 32) × (item_limit k ≡ 14) × (kind_of_block k ≡ 3)
records_block zero h = absurd (omega arith)
records_block (suc zero) h = absurd (omega arith)
records_block (suc (suc k)) h = (refl, refl, refl)

-- as many as a block has records
pub records_limit : (k : ℕ) → 2 ≤ k → item_limit k ≡ 14
records_limit k h = (records_block k h).1

-- items within the limit have room between byte 32 and byte 480
pub items_room : (k n : ℕ) → n ≤ item_limit k → n * item_size k ≤ 448
items_room zero n h = omega arith
items_room (suc zero) n h = omega arith
items_room (suc (suc k)) n h = omega arith

-- an item has bytes, a kind is a byte, and no block has more than 56 items
pub block_bounds : (k : ℕ) → (0 < item_size k) × (kind_of_block k < 256) × (item_limit k ≤ 56)
block_bounds zero = omega arith
block_bounds (suc zero) = omega arith
block_bounds (suc (suc k)) = omega arith

-- the count of whole items
pub count_back : (k n : ℕ) → n * item_size k / item_size k ≡ n
count_back k n = mul-div_cancel n (block_bounds k).0
