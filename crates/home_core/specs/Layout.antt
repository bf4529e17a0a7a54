-- The state of the home validator (document 01: guard) is one array of words: the held records, four words each, as many as the
-- capacity; the balances, as many as a ledger can have; then the supply, the far pool, the numbers of home and of far accounts, the
-- number of held records, and the tariff (document 02, U3): its rate and its account. Here stands what it is as the rules' state, what
-- refusal 3 asks of it, and what a passed record makes of it. Assumes nothing.
use Rattle.std.specs.Prelude.{◌*◌, ◌+◌, ◌-◌, ℕ, Bool, true, List, [], ◌++◌, ◌∷◌, ◌≡◌, eqb, leb, get_or, length, replicate, set}
use Rattle.ledgers.specs.Limits.{account_limit, capacity}
use Rattle.places.specs.LedgerBalances.{zero_filled, zeros_at}
use Rattle.places.specs.OverPlaces.{all_at}
use Rattle.records.specs.Records.{formed, reading, words_of}
use Rattle.records.specs.Records.{Reading}
use Rattle.records.specs.Records.{Read, Unreadable}
use Rattle.records.specs.declared.Record.{Record}
use Rattle.records.specs.declared.Words.{Words}
use Rattle.rules.specs.Calls.{Checker}
use Rattle.rules.specs.HomeValidator.{HomeView, home_accepts, home_judge, pool_after}
use Rattle.rules.specs.Lists.{total}
use Rattle.rules.specs.PairValidator.{count_allowed, supply_allowed}
use Rattle.rules.specs.Rules.{Tariff}
use Rattle.table.specs.Table.{IndexOf, index_length, ledger_in, stored, tariff_at, words_at}
use Rattle.tariffs.specs.Tariffs.{tariff_allowed}
use Rattle.wire.specs.BigEndian.{every}

-- ## The layout

-- the first word of the balances; the records stand from word 0 on
abbrev pub home_balances_word : ℕ
home_balances_word = 4 * capacity

-- the words of the supply, the far pool, the numbers of accounts and of held records, and the first of the tariff
abbrev pub home_supply_word : ℕ
home_supply_word = home_balances_word + account_limit

abbrev pub pool_word : ℕ
pool_word = home_supply_word + 1

abbrev pub home_accounts_word : ℕ
home_accounts_word = home_supply_word + 2

abbrev pub far_accounts_word : ℕ
far_accounts_word = home_supply_word + 3

abbrev pub home_count_word : ℕ
home_count_word = home_supply_word + 4

abbrev pub home_tariff_word : ℕ
home_tariff_word = home_supply_word + 5

-- all words
abbrev pub home_words : ℕ
home_words = home_supply_word + 7

-- ## What the words say

-- document 01: stake
abbrev pub home_supply_of : List ℕ → ℕ
home_supply_of s = get_or s home_supply_word 0

-- document 01: far due
abbrev pub pool_of : List ℕ → ℕ
pool_of s = get_or s pool_word 0

-- the number of home accounts
abbrev pub home_accounts_of : List ℕ → ℕ
home_accounts_of s = get_or s home_accounts_word 0

-- of far accounts
abbrev pub far_accounts_of : List ℕ → ℕ
far_accounts_of s = get_or s far_accounts_word 0

-- of held records
abbrev pub home_count_of : List ℕ → ℕ
home_count_of s = get_or s home_count_word 0

-- the tariff
abbrev pub home_tariff_of : List ℕ → Tariff
home_tariff_of s = tariff_at s home_tariff_word

-- the state, seen as the rules' state
abbrev pub home_view_of : List ℕ → HomeView
home_view_of s =
    record {
      home = ledger_in (home_tariff_of s) s home_balances_word (home_accounts_of s) 0 (home_count_of s);
      far_accounts = far_accounts_of s;
      far_pool = pool_of s;
      supply = home_supply_of s;
    }

-- ## 3

-- the counts of accounts and of held records, the supply and the tariff are in bounds (Refusals: 3, counts out of bounds, stake; document
-- 02, U3)
unfoldable pub home_bounds : List ℕ → Bool
home_bounds s =
    every
    (count_allowed (home_accounts_of s)
    ∷ count_allowed (far_accounts_of s)
    ∷ leb (home_count_of s) capacity
    ∷ supply_allowed (home_supply_of s)
    ∷ tariff_allowed (home_tariff_of s) (home_accounts_of s)
    ∷ []
    )

-- refusal 3: what only the words can hold (their number, the bounds, balances beyond the accounts, a held record that 21 would refuse),
-- and what the rules' state is asked
unfoldable pub accepts_home : List ℕ → Bool
accepts_home s =
    every
    (eqb (length s) home_words
    ∷ home_bounds s
    ∷ zeros_at s (home_balances_word + home_accounts_of s) (account_limit - home_accounts_of s)
    ∷ all_at (λ (i : ℕ). formed (words_at s 0 i)) 0 (home_count_of s)
    ∷ home_accepts capacity (home_view_of s)
    ∷ []
    )

-- ## A passed record

-- the words once a record has passed: its balances and its own words, the pool, the number of held records
unfoldable pub home_with : List ℕ → Words → Record → List ℕ
home_with s w r =
    set (set (stored (home_tariff_of s) s home_balances_word (4 * home_count_of s) w r) pool_word (pool_after (pool_of s) r r.kind)) home_count_word
    (home_count_of s + 1)

-- the words once what was read has passed
abbrev pub home_after_read : List ℕ → Words → Reading → List ℕ
home_after_read s w Unreadable = s
home_after_read s w (Read r) = home_with s w r

-- the home validator over words
abbrev pub home_words_checker : Checker (List ℕ)
home_words_checker =
    record {
      accepts = accepts_home;
      judge = λ s b. home_judge capacity (home_view_of s) (reading b);
      after = λ s b. home_after_read s (words_of b) (reading b);
    }

-- ## The opening

-- the words of an accepted opening
unfoldable pub home_opened_words : Tariff → List ℕ → ℕ → ℕ → List ℕ
home_opened_words tariff homes fars far_total =
    replicate (4 * capacity) 0
    ++ (zero_filled homes
    ++ (total homes + far_total) ∷ far_total ∷ length homes ∷ fars ∷ 0 ∷ tariff.rate ∷ tariff.account ∷ [])

-- all zero, which 3 refuses: what stands beside a refused opening
unfoldable pub home_zero_words : List ℕ
home_zero_words = replicate home_words 0

-- ## For inner functions

-- a state that is accepted, with the index of its numbers
pub record HomeReady (s index : List ℕ) : Type 0 where
  pub accepted : accepts_home s ≡ true
  pub index_long : length index ≡ index_length
  pub indexed : IndexOf s 0 index 0 (home_count_of s)
