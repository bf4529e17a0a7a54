-- Judging a block (document 01, "Refusals": 11 to 14; document 02, U3: 52). Assumes nothing.
use Rattle.std.specs.Prelude.{ℕ, zero, suc, Bool, not, List, eqb, ltb, length, take, drop}
use Rattle.answers.specs.Answers.{refuse}
use Rattle.journal_blocks.specs.Blocks.{block_formed, block_number, max_block, stated_count, tariff_in}
use Rattle.sha256.specs.Sha256.{sha256}
use Rattle.tariffs.specs.Tariffs.{tariff_allowed}
use Rattle.wire.specs.BigEndian.{same}

-- what 12 asks: bytes 480-511 are the SHA-256 of bytes 0-479
unfoldable pub checked : List ℕ → Bool
checked b = same (sha256 (take 480 b)) (drop 480 b)

-- the refusal of the rate and the charge account of block k, or 0: 52 of block 0 alone, where the rate is above 10,000 or the account
-- is not open at home (document 02, U3)
unfoldable pub tariff_refusal : List ℕ → ℕ → ℕ
tariff_refusal b zero = refuse (not (tariff_allowed (tariff_in b) (stated_count b))) 52 0
tariff_refusal b (suc k) = 0

-- the refusal of a block that is wanted as number k after a block of `before` items, or 0: 11 where it is not 512 bytes
-- long (a missing one has none) or wanted above 65,535, then 12, 13, 14 and 52
unfoldable pub block_refusal : List ℕ → ℕ → ℕ → ℕ
block_refusal b k before =
    refuse (not (eqb (length b) 512)) 11
    (refuse (ltb max_block k) 11
    (refuse (not (checked b)) 12
    (refuse (not (eqb (block_number b) k)) 13
    (refuse (not (block_formed b k before)) 14
    (tariff_refusal b k)))))
