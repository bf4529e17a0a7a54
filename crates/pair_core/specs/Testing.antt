-- What the functions that accept a state test of its words: for inner functions only. It is proved to be what refusal 3 asks, and no
-- published contract cites it. Assumes nothing.
use Rattle.std.specs.Prelude.{◌+◌, ◌-◌, ℕ, Bool, ◌&&◌, List, eqb, get_or}
use Rattle.ledgers.specs.Ledgers.{ledger_at}
use Rattle.pair_core.specs.Layout.{accounts_on, balances_start, count_on, pair_supply_of, records_start}
use Rattle.places.specs.OverPlaces.{all_at, apart_at, sum_at}
use Rattle.table.specs.Table.{accounts_by, backed_at, flow_at, may_hold_at, shared_at}

-- a ledger may hold each of its records, and their numbers are apart in each class
abbrev pub held_on : List ℕ → ℕ → Bool
held_on s l =
    all_at (may_hold_at s (records_start l) (ledger_at l) (accounts_by (ledger_at l) (accounts_on s l) (accounts_on s (1 - l)))) 0 (count_on s l)
    && apart_at (shared_at s (records_start l)) 0 (count_on s l)

-- each of its arrivals has its sending on the other ledger
abbrev pub backed_on : List ℕ → ℕ → Bool
backed_on s l = all_at (backed_at s (records_start l) (1 - l) (records_start (1 - l)) (count_on s (1 - l))) 0 (count_on s l)

-- the sum of its balances
abbrev pub balance_sum : List ℕ → ℕ → ℕ
balance_sum s l = sum_at (λ (i : ℕ). get_or s i 0) (balances_start l) (accounts_on s l)

-- the sum of the amounts of its records of a kind
abbrev pub flow_sum : ℕ → List ℕ → ℕ → ℕ
flow_sum kind s l = sum_at (flow_at kind s (records_start l)) 0 (count_on s l)

-- balances and what was sent are the supply and what arrived
unfoldable pub sums_agree : List ℕ → Bool
sums_agree s =
    eqb (balance_sum s 0 + balance_sum s 1 + (flow_sum 2 s 0 + flow_sum 2 s 1)) (pair_supply_of s + (flow_sum 3 s 0 + flow_sum 3 s 1))
