-- The journal as a whole (document 01, "The journal"; document 02, U3; demand 2): what is written, what is read, and that these are the
-- same. A record is here a string of 32 bytes, which is not judged. Assumes nothing.
use Rattle.std.specs.Prelude.{ℕ, zero, suc, ◌+◌, ◌-◌, ◌*◌, ◌/◌, ◌^◌, ◌≤◌, ◌<◌, true, List, [], ◌∷◌, ◌++◌, ◌↔◌, ◌≡◌, length, take, drop, get_or, replicate}
use Rattle.answers.specs.Answers.{Passed}
use Rattle.journal_blocks.specs.Blocks.{balance_table, balances_of, kind_of_block, max_block, records_of, records_per_block, stated_count}
use Rattle.journal_blocks.specs.Blocks.{tariff_in}
use Rattle.journal_blocks.specs.Checked.{block_refusal}
use Rattle.journal_reader.specs.Judged.{count_of, opening_of, part_of}
use Rattle.journal_writer.specs.Written.{header, journal_block, write_refusal, written}
use Rattle.ledgers.specs.Limits.{account_limit}
use Rattle.tariffs.specs.Tariffs.{free, tariff_allowed}
use Rattle.tariffs.specs.declared.Tariff.{Tariff}
use Rattle.wire.specs.BigEndian.{All, Bytes, bytes_of}

-- ## Document 01's limits

-- opening balances of a ledger: 1 to 56 numbers of 8 bytes
pub record IsOpening (balances : List ℕ) : Type 0 where
  pub some : 0 < length balances
  pub most : length balances ≤ account_limit
  pub fit : All (λ (x : ℕ). x < 2 ^ 64) balances

-- a record's bytes
pub record RecordBytes (r : List ℕ) : Type 0 where
  pub long : length r ≡ 32
  pub bytes : Bytes r

-- the most records: what blocks 2 to 65,535 hold, which is 917,476
abbrev pub record_limit : ℕ
record_limit = records_per_block * (max_block - 1)

-- rate and charge account that 52 has nothing against, two openings and records within the limit
pub record WithinLimits (tariff : Tariff) (home far : List ℕ) (records : List (List ℕ)) : Type 0 where
  pub tariff_allowed : tariff_allowed tariff (length home) ≡ true
  pub home_opening : IsOpening home
  pub far_opening : IsOpening far
  pub whole : All RecordBytes records
  pub limit : length records ≤ record_limit

-- ## What is written

-- lists one after the other
unfoldable pub joined : {A : Type 0} → List (List A) → List A
joined [] = []
joined (x ∷ xs) = x ++ joined xs

-- the bytes of opening balances
unfoldable pub balance_bytes : List ℕ → List ℕ
balance_bytes [] = []
balance_bytes (x ∷ xs) = bytes_of 8 x ++ balance_bytes xs

-- as many blocks as records need: 14 in each but the last
abbrev pub block_count : List (List ℕ) → ℕ
block_count records = (length records + (records_per_block - 1)) / records_per_block

-- the bytes of records in n groups of 14, the last with what is left
unfoldable pub groups : ℕ → List (List ℕ) → List (List ℕ)
groups zero records = []
groups (suc n) records = joined (take records_per_block records) ∷ groups n (drop records_per_block records)

-- the items of each block of a journal
unfoldable pub items_of : List ℕ → List ℕ → List (List ℕ) → List (List ℕ)
items_of home far records = balance_bytes home ∷ balance_bytes far ∷ groups (block_count records) records

-- the blocks with these items, numbered from k on, with rate and charge account, which block 0 alone carries
unfoldable pub numbered : Tariff → ℕ → List (List ℕ) → List (List ℕ)
numbered tariff k [] = []
numbered tariff k (items ∷ others) = journal_block k tariff items ∷ numbered tariff (suc k) others

-- the journal written from rate and charge account, two openings and records
unfoldable pub journal_of : Tariff → List ℕ → List ℕ → List (List ℕ) → List ℕ
journal_of tariff home far records = joined (numbered tariff 0 (items_of home far records))

-- ## What is read

-- each block is right in turn: the first as number k after a block of `before` items, each next one after it
unfoldable pub AllBlocksPass : ℕ → ℕ → List (List ℕ) → Type 0
AllBlocksPass k before [] = Unit {0}
AllBlocksPass k before (b ∷ bs) = (block_refusal b k before ≡ 0) × AllBlocksPass (suc k) (stated_count b) bs

-- the records of blocks, one block after the other
unfoldable pub all_records : List (List ℕ) → List (List ℕ)
all_records [] = []
all_records (b ∷ bs) = records_of b ++ all_records bs

-- a byte string reads as rate and charge account, two openings and records: it is blocks, all right in turn, the first with this rate
-- and this account, the first two with these opening balances, the others with these records, and nothing after the last
pub record Reads (j : List ℕ) (tariff : Tariff) (home far : List ℕ) (records : List (List ℕ)) : Type 0 where
  pub first : List ℕ
  pub second : List ℕ
  pub others : List (List ℕ)
  pub whole : j ≡ joined (first ∷ second ∷ others)
  pub right : AllBlocksPass 0 0 (first ∷ second ∷ others)
  pub tariff_is : tariff_in first ≡ tariff
  pub home_balances : balances_of first ≡ home
  pub far_balances : balances_of second ≡ far
  pub record_list : all_records others ≡ records

-- ## The theorem

-- a byte string reads as rate and charge account, openings and records exactly when they are within the limits and it is the journal
-- written from them
unfoldable pub ReadsBack : Type 0
ReadsBack =
    (tariff : Tariff) (home far : List ℕ) (records : List (List ℕ)) (j : List ℕ) → Bytes j
    → Reads j tariff home far records ↔ (WithinLimits tariff home far records × (j ≡ journal_of tariff home far records))

-- the journal written from rate and charge account, openings and records within the limits reads as them
unfoldable pub WrittenReads : Type 0
WrittenReads =
    (tariff : Tariff) (home far : List ℕ) (records : List (List ℕ)) → WithinLimits tariff home far records
    → Reads (journal_of tariff home far records) tariff home far records

-- what reads does so in one way only
unfoldable pub ReadsOnce : Type 0
ReadsOnce =
    (j : List ℕ) (tariff : Tariff) (home far : List ℕ) (records : List (List ℕ))
    (tariff' : Tariff) (home' far' : List ℕ) (records' : List (List ℕ))
    → Reads j tariff home far records → Reads j tariff' home' far' records'
    → (tariff ≡ tariff') × (home ≡ home') × (far ≡ far') × (records ≡ records')

-- a header with rate 0 and account 0 is the one of document 01, with zeros from byte 6 on, so that the journal written with both 0 is the one
-- of before U3; by ReadsBack these are the journals that read with both 0
unfoldable pub HeadersOfBefore : Type 0
HeadersOfBefore = (k count : ℕ) → header k free count ≡ bytes_of 4 k ++ (kind_of_block k ∷ count ∷ replicate 26 0)

-- ## The theorem and the calls

-- what the calls hand out of a block that passes is what is read of it: the count, all opening balances of blocks 0 and 1, of block 0
-- rate and charge account, which are 0 in every later one, and the record at each place of the others
pub record HandedOut (b : List ℕ) (k before : ℕ) : Type 0 where
  pub counts : count_of b k before ≡ record { answer = Passed; count = stated_count b }
  pub opens : k < 2
      → opening_of b k before ≡ record { answer = Passed; count = stated_count b; tariff = tariff_in b; balances = balance_table b }
  pub free_later : 0 < k → tariff_in b ≡ free
  pub lists : k < 2 → take (stated_count b) (balance_table b) ≡ balances_of b
  pub parts : 2 ≤ k → (place : ℕ) → place < stated_count b → part_of b k before place ≡ get_or (records_of b) place []

-- so it is for every block that passes
unfoldable pub CallsRead : Type 0
CallsRead = (b : List ℕ) (k before : ℕ) → block_refusal b k before ≡ 0 → HandedOut b k before

-- each write of items, the first as block k, is one that the writer's call allows, and leaves the block in the output
unfoldable pub AllAllowed : Tariff → ℕ → List (List ℕ) → Type 0
AllAllowed tariff k [] = Unit {0}
AllAllowed tariff k (items ∷ others) =
    ((out : List ℕ) → length out ≡ 512
    → (write_refusal (length out) k (kind_of_block k) tariff (length items) ≡ 0)
    × (written out k (kind_of_block k) tariff items ≡ journal_block k tariff items))
    × AllAllowed tariff (suc k) others

-- each block of a written journal is one that the writer's call allows and leaves in the output, and that the judging
-- call passes
unfoldable pub BlocksWritten : Type 0
BlocksWritten =
    (tariff : Tariff) (home far : List ℕ) (records : List (List ℕ)) → WithinLimits tariff home far records
    → AllAllowed tariff 0 (items_of home far records) × AllBlocksPass 0 0 (numbered tariff 0 (items_of home far records))
