-- The balances of a ledger, which stand in a list from a place on: zeros, one balance, a record that moves them, and refusals
-- 22, 51 and 23 to 25 by them. Assumes nothing.
use Rattle.std.specs.Prelude.{◌+◌, ◌-◌, ℕ, Bool, cond, not, List, ◌++◌, eqb, leb, ltb, get_or, length, replicate}
use Rattle.answers.specs.Answers.{refuse}
use Rattle.ledgers.specs.Limits.{account_limit}
use Rattle.places.specs.Amounts.{debit_by}
use Rattle.places.specs.OverPlaces.{all_at}
use Rattle.records.specs.declared.Record.{Record}
use Rattle.rules.specs.Rules.{moved}
use Rattle.tariffs.specs.declared.Tariff.{Tariff}

-- ## Balances

-- n balances from a place on are zero
unfoldable pub zeros_at : List ℕ → ℕ → ℕ → Bool
zeros_at balances from n = all_at (λ (i : ℕ). eqb (get_or balances i 0) 0) from n

-- the balance of account i of the n from a place on; 0 where there is no such account
unfoldable pub balance_at : List ℕ → ℕ → ℕ → ℕ → ℕ
balance_at balances from n i = cond (ltb i n) (get_or balances (from + i) 0) 0

-- the record with its accounts counted from a place on
abbrev pub placed : ℕ → Record → Record
placed from r =
    record {
      kind = r.kind;
      sender = from + r.sender;
      receiver = from + r.receiver;
      number = r.number;
      amount = r.amount;
      verified = r.verified;
    }

-- the tariff with its account counted from a place on
abbrev pub placed_tariff : ℕ → Tariff → Tariff
placed_tariff from t = record { rate = t.rate; account = from + t.account }

-- the balances once a record has passed on the ledger with this tariff whose accounts stand from a place on
unfoldable pub moved_at : Tariff → List ℕ → ℕ → Record → List ℕ
moved_at t balances from r = moved (placed_tariff from t) balances (placed from r) r.kind

-- ## Judging a record, for inner functions only: proved to be what the rules say (Judging of crates/home_core and crates/pair_core)

-- 22 by the accounts of the sender's ledger, 51 by those of the receiver's, 23, 24 where its number is used in its class, then the later ones
unfoldable pub first_by : ℕ → ℕ → Record → Bool → ℕ → ℕ
first_by senders receivers r is_used later =
    refuse (leb senders r.sender) 22
    (refuse (leb receivers r.receiver) 51
    (refuse (not r.verified) 23
    (refuse is_used 24
    later)))

-- 25, of the n accounts from a place on, with the rate of their ledger
unfoldable pub funds_at : List ℕ → ℕ → ℕ → ℕ → Record → ℕ
funds_at balances from n rate r =
    refuse (ltb (balance_at balances from n r.sender) (debit_by rate r.kind r.amount)) 25 0

-- ## Openings

-- balances, and zeros up to as many as a ledger can have
abbrev pub zero_filled : List ℕ → List ℕ
zero_filled balances = balances ++ replicate (account_limit - length balances) 0
