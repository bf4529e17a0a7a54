-- The state of the pair validator (document 01: pair book) is one array of words: the held records of home, four words each, as many as
-- the capacity, and those of far; the balances of home, as many as a ledger can have, and those of far; then the supply, the numbers
-- of home and of far accounts, the numbers of held records of both, and home's tariff (document 02, U3): its rate and its account. Here
-- stands what it is as the rules' state, what refusal 3 asks of it, and what a passed record makes of it. A ledger is named by its byte.
-- Assumes nothing.
use Rattle.std.specs.Prelude.{◌*◌, ◌+◌, ◌-◌, ◌^◌, ◌<◌, suc, zero, ℕ, Bool, true, List, [], ◌++◌, ◌∷◌, ◌≡◌, eqb, leb, get_or, length, replicate, set}
use Rattle.ledgers.specs.Ledgers.{ledger_byte, ledger_of}
use Rattle.ledgers.specs.Limits.{account_limit, capacity}
use Rattle.places.specs.LedgerBalances.{zero_filled, zeros_at}
use Rattle.places.specs.OverPlaces.{all_at}
use Rattle.records.specs.Records.{formed, reading, words_of}
use Rattle.records.specs.Records.{Reading}
use Rattle.records.specs.Records.{Read, Unreadable}
use Rattle.records.specs.declared.Record.{Record}
use Rattle.records.specs.declared.Words.{Words}
use Rattle.rules.specs.Calls.{Checker}
use Rattle.rules.specs.Lists.{total}
use Rattle.rules.specs.PairValidator.{PairView, count_allowed, pair_accepts, pair_judge, supply_allowed}
use Rattle.rules.specs.Rules.{LedgerState, Tariff}
use Rattle.table.specs.Table.{IndexOf, index_length, ledger_in, stored, tariff_at, words_at}
use Rattle.tariffs.specs.Tariffs.{free, tariff_allowed}
use Rattle.wire.specs.BigEndian.{every}

-- ## The layout

-- the first word of a ledger's records
abbrev pub records_start : ℕ → ℕ
records_start l = l * (4 * capacity)

-- of its balances
abbrev pub balances_start : ℕ → ℕ
balances_start l = 8 * capacity + l * account_limit

-- the words of the supply, of a ledger's number of accounts and of its number of held records, and the first of home's tariff
abbrev pub pair_supply_word : ℕ
pair_supply_word = 8 * capacity + 2 * account_limit

abbrev pub accounts_word : ℕ → ℕ
accounts_word l = pair_supply_word + 1 + l

abbrev pub pair_count_word : ℕ → ℕ
pair_count_word l = pair_supply_word + 3 + l

abbrev pub pair_tariff_word : ℕ
pair_tariff_word = pair_supply_word + 5

-- all words
abbrev pub pair_words : ℕ
pair_words = pair_supply_word + 7

-- ## What the words say

-- document 01: stake
abbrev pub pair_supply_of : List ℕ → ℕ
pair_supply_of s = get_or s pair_supply_word 0

-- the number of a ledger's accounts
abbrev pub accounts_on : List ℕ → ℕ → ℕ
accounts_on s l = get_or s (accounts_word l) 0

-- of its held records
abbrev pub count_on : List ℕ → ℕ → ℕ
count_on s l = get_or s (pair_count_word l) 0

-- home's tariff
abbrev pub pair_tariff_of : List ℕ → Tariff
pair_tariff_of s = tariff_at s pair_tariff_word

-- a ledger's tariff: nothing is taken on far's sendings
abbrev pub tariff_on : List ℕ → ℕ → Tariff
tariff_on s zero = pair_tariff_of s
tariff_on s (suc l) = free

-- a ledger
abbrev pub ledger_on : List ℕ → ℕ → LedgerState
ledger_on s l = ledger_in (tariff_on s l) s (balances_start l) (accounts_on s l) (records_start l) (count_on s l)

-- the state, seen as the rules' state
abbrev pub pair_view_of : List ℕ → PairView
pair_view_of s = record { pair = record { home = ledger_on s 0; far = ledger_on s 1 }; supply = pair_supply_of s }

-- ## 3

-- the counts of accounts and of held records, the supply and the tariff are in bounds (Refusals: 3, counts out of bounds, stake; document
-- 02, U3)
unfoldable pub pair_bounds : List ℕ → Bool
pair_bounds s =
    every
    (count_allowed (accounts_on s 0)
    ∷ count_allowed (accounts_on s 1)
    ∷ leb (count_on s 0) capacity
    ∷ leb (count_on s 1) capacity
    ∷ supply_allowed (pair_supply_of s)
    ∷ tariff_allowed (pair_tariff_of s) (accounts_on s 0)
    ∷ []
    )

-- the balances of a ledger beyond its accounts are zero (Refusals: 3, a balance beyond the accounts)
unfoldable pub zero_beyond : List ℕ → ℕ → Bool
zero_beyond s l = zeros_at s (balances_start l + accounts_on s l) (account_limit - accounts_on s l)

-- the held records of a ledger are formed (Refusals: 3, a held record that 21 would refuse)
unfoldable pub formed_on : List ℕ → ℕ → Bool
formed_on s l = all_at (λ (i : ℕ). formed (words_at s (records_start l) i)) 0 (count_on s l)

-- refusal 3: what only the words can hold, and what the rules' state is asked
unfoldable pub accepts_pair : List ℕ → Bool
accepts_pair s =
    every
    (eqb (length s) pair_words
    ∷ pair_bounds s
    ∷ zero_beyond s 0
    ∷ zero_beyond s 1
    ∷ formed_on s 0
    ∷ formed_on s 1
    ∷ pair_accepts capacity (pair_view_of s)
    ∷ []
    )

-- ## A passed record

-- the words once a record has passed on the ledger with byte l: its balances and its own words, the number of held records
unfoldable pub pair_with : List ℕ → Words → Record → ℕ → List ℕ
pair_with s w r l =
    set (stored (tariff_on s l) s (balances_start l) (records_start l + 4 * count_on s l) w r) (pair_count_word l) (count_on s l + 1)

-- the words once what was read has passed
abbrev pub pair_after_read : List ℕ → Words → Reading → List ℕ
pair_after_read s w Unreadable = s
pair_after_read s w (Read r) = pair_with s w r (ledger_byte (ledger_of r.kind))

-- the pair validator over words
abbrev pub pair_words_checker : Checker (List ℕ)
pair_words_checker =
    record {
      accepts = accepts_pair;
      judge = λ s b. pair_judge capacity (pair_view_of s).pair (reading b);
      after = λ s b. pair_after_read s (words_of b) (reading b);
    }

-- ## The opening

-- the words of an accepted opening
unfoldable pub pair_opened_words : Tariff → List ℕ → List ℕ → List ℕ
pair_opened_words tariff homes fars =
    replicate (8 * capacity) 0
    ++ (zero_filled homes
    ++ (zero_filled fars
    ++ (total homes + total fars) ∷ length homes ∷ length fars ∷ 0 ∷ 0 ∷ tariff.rate ∷ tariff.account ∷ []))

-- all zero, which 3 refuses: what stands beside a refused opening
unfoldable pub pair_zero_words : List ℕ
pair_zero_words = replicate pair_words 0

-- ## For inner functions

-- where a ledger's index starts
abbrev pub index_on : ℕ → ℕ
index_on l = l * index_length

-- words of a state, of 64 bits each, that are in bounds
pub record InBounds (s : List ℕ) : Type 0 where
  pub long : length s ≡ pair_words
  pub small : (i : ℕ) → get_or s i 0 < 2 ^ 64
  pub bounded : pair_bounds s ≡ true

-- a state that is accepted, with the indexes of its numbers
pub record PairReady (s index : List ℕ) : Type 0 where
  pub accepted : accepts_pair s ≡ true
  pub index_long : length index ≡ 2 * index_length
  pub indexed : (l : ℕ) → l < 2 → IndexOf s (records_start l) index (index_on l) (count_on s l)
