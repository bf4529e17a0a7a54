-- Writing a block (document 01, "The journal", and refusal 4; document 02, U3). Assumes nothing.
use Rattle.std.specs.Prelude.{ℕ, zero, suc, ◌-◌, ◌/◌, ◌%◌, Bool, not, true, List, [], ◌∷◌, ◌++◌, eqb, ltb, leb, length, replicate}
use Rattle.answers.specs.Answers.{refuse, unless_refused}
use Rattle.journal_blocks.specs.Blocks.{item_limit, item_size, kind_of_block, max_block}
use Rattle.sha256.specs.Sha256.{sha256}
use Rattle.tariffs.specs.Tariffs.{tariff_allowed}
use Rattle.tariffs.specs.declared.Tariff.{Tariff}
use Rattle.wire.specs.BigEndian.{bytes_of, every}

-- bytes 6-9 of block k: in block 0 the rate and the charge account, in all others zeros (document 02, U3)
abbrev pub tariff_bytes : ℕ → Tariff → List ℕ
tariff_bytes zero t = bytes_of 2 t.rate ++ bytes_of 2 t.account
tariff_bytes (suc k) t = replicate 4 0

-- bytes 0-31 of block k: number, kind, count, rate and charge account, and zeros
abbrev pub header : ℕ → Tariff → ℕ → List ℕ
header k t count = bytes_of 4 k ++ (kind_of_block k ∷ count ∷ (tariff_bytes k t ++ replicate 22 0))

-- bytes 0-479: the header, the items and zeros
unfoldable pub body : ℕ → Tariff → List ℕ → List ℕ
body k t items = header k t (length items / item_size k) ++ (items ++ replicate (448 - length items) 0)

-- the block with number k, rate and charge account, and these items, its check last
unfoldable pub journal_block : ℕ → Tariff → List ℕ → List ℕ
journal_block k t items = body k t items ++ sha256 (body k t items)

-- what rate and charge account ask beside n balances in block 0: 52 has nothing against them (document 02, U3); in all others they are
-- not looked at
abbrev pub tariff_fits : ℕ → Tariff → ℕ → Bool
tariff_fits zero t n = tariff_allowed t n
tariff_fits (suc k) t n = true

-- what a write of n bytes of items as block k of a kind into an output of o bytes asks: 512 bytes of output, a number not
-- above 65,535, the kind of that number, a whole number of 1 to 14 records (1 to 56 balances), and in block 0 a rate and a charge
-- account that 52 has nothing against
unfoldable pub allowed : ℕ → ℕ → ℕ → Tariff → ℕ → Bool
allowed o k kind t n =
    every
    (eqb o 512
    ∷ leb k max_block
    ∷ eqb kind (kind_of_block k)
    ∷ eqb (n % item_size k) 0
    ∷ ltb 0 (n / item_size k)
    ∷ leb (n / item_size k) (item_limit k)
    ∷ tariff_fits k t (n / item_size k)
    ∷ []
    )

-- the refusal of such a write, or 0
unfoldable pub write_refusal : ℕ → ℕ → ℕ → Tariff → ℕ → ℕ
write_refusal o k kind t n = refuse (not (allowed o k kind t n)) 4 0

-- what the output holds after a write: the block, or where it is refused what it held
unfoldable pub written : List ℕ → ℕ → ℕ → Tariff → List ℕ → List ℕ
written out k kind t items = unless_refused (write_refusal (length out) k kind t (length items)) (journal_block k t items) out
