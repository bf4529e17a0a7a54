-- The journal's block of 512 bytes (document 01, "The journal"): where its parts stand, and what it holds. Assumes nothing.
use Rattle.std.specs.Prelude.{ℕ, zero, suc, ◌+◌, ◌-◌, ◌*◌, Bool, ◌||◌, List, [], ◌∷◌, ◌++◌, eqb, ltb, leb, take, drop, replicate}
use Rattle.ledgers.specs.Limits.{account_limit}
use Rattle.tariffs.specs.declared.Tariff.{Tariff}
use Rattle.wire.specs.BigEndian.{every, field, zeros}

-- ## Limits

-- the greatest block number
abbrev pub max_block : ℕ
max_block = 65535

-- the most records of a block; all record blocks but the last have as many
abbrev pub records_per_block : ℕ
records_per_block = 14

-- ## Header

-- bytes 0-3: the block's number
abbrev pub block_number : List ℕ → ℕ
block_number b = field 0 4 b

-- byte 4: the kind
abbrev pub block_kind : List ℕ → ℕ
block_kind b = field 4 1 b

-- byte 5: the count of items that the block states
abbrev pub stated_count : List ℕ → ℕ
stated_count b = field 5 1 b

-- bytes 6-7 and 8-9 of block 0: the rate and the charge account (document 02, U3)
abbrev pub tariff_in : List ℕ → Tariff
tariff_in b = record { rate = field 6 2 b; account = field 8 2 b }

-- ## Kinds

-- block 0 is of kind 1, home opening balances (document 01: home stakes), block 1 of kind 2, far ones, all others of
-- kind 3, records
abbrev pub kind_of_block : ℕ → ℕ
kind_of_block zero = 1
kind_of_block (suc zero) = 2
kind_of_block (suc (suc k)) = 3

-- the bytes of an item in the block with a number: 8 a balance, 32 a record
abbrev pub item_size : ℕ → ℕ
item_size zero = 8
item_size (suc zero) = 8
item_size (suc (suc k)) = 32

-- the most items in it: 56 balances or 14 records
abbrev pub item_limit : ℕ → ℕ
item_limit zero = account_limit
item_limit (suc zero) = account_limit
item_limit (suc (suc k)) = records_per_block

-- where the zero bytes of the header of the block with a number begin: after rate and charge account in block 0, at byte 6 in
-- all others
abbrev pub head_end : ℕ → ℕ
head_end zero = 10
head_end (suc k) = 6

-- ## Items, from byte 32 on

-- the record at a place of a block
unfoldable pub record_part : List ℕ → ℕ → List ℕ
record_part b place = take 32 (drop (32 + 32 * place) b)

-- the first n records of a block
unfoldable pub first_records : ℕ → List ℕ → List (List ℕ)
first_records zero b = []
first_records (suc n) b = first_records n b ++ record_part b n ∷ []

-- all its records
abbrev pub records_of : List ℕ → List (List ℕ)
records_of b = first_records (stated_count b) b

-- the first n opening balances of a block
unfoldable pub first_balances : ℕ → List ℕ → List ℕ
first_balances zero b = []
first_balances (suc n) b = first_balances n b ++ field (32 + 8 * n) 8 b ∷ []

-- all its opening balances
abbrev pub balances_of : List ℕ → List ℕ
balances_of b = first_balances (stated_count b) b

-- the same, with zeros up to 56
abbrev pub balance_table : List ℕ → List ℕ
balance_table b = balances_of b ++ replicate (account_limit - stated_count b) 0

-- ## Form

-- what 14 asks of block k after a block of `before` items: kind, count and zero bytes (document 02, U3) are right, and a block from number 3
-- on follows one of not fewer than 14
unfoldable pub block_formed : List ℕ → ℕ → ℕ → Bool
block_formed b k before =
    every
    (eqb (block_kind b) (kind_of_block k)
    ∷ ltb 0 (stated_count b)
    ∷ leb (stated_count b) (item_limit k)
    ∷ zeros (take (32 - head_end k) (drop (head_end k) b))
    ∷ zeros (take (448 - stated_count b * item_size k) (drop (32 + stated_count b * item_size k) b))
    ∷ (leb k 2 || leb records_per_block before)
    ∷ []
    )
