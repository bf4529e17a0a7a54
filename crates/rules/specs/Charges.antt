-- What the charge does to accounts (document 02, U3): what a sending costs its sender, and what the balance of every account is, worked out
-- from the passed records of its ledger, so that the charge account has grown by exactly the charges. Assumes nothing.
use Rattle.std.specs.Prelude.{ℕ, ◌+◌, ◌-◌, ◌≤◌, cond, not, true, ◌&&◌, List, ◌≡◌, eqb, get_or}
use Rattle.rules.specs.Calls.{Call, passed_records, records_on, run}
use Rattle.rules.specs.HomeValidator.{HomeView, home_accepts, home_after, home_judge_record, home_opened, home_opening_refusal, home_validator}
use Rattle.rules.specs.Lists.{sum}
use Rattle.rules.specs.PairValidator.{PairView, pair_accepts, pair_opened, pair_opening_refusal, pair_validator}
use Rattle.rules.specs.Rules.{Home, Ledger, LedgerState, Read, Record, Sending, Tariff, after, debit, is_sending, judge, new_ledger, opened}
use Rattle.rules.specs.Rules.{state_of}
use Rattle.tariffs.specs.Tariffs.{charge, cost}

-- the balance of an account
abbrev pub balance_of : LedgerState → ℕ → ℕ
balance_of s i = get_or s.balances i 0

-- ## One sending

-- what a passed sending does to the accounts of its ledger, from one state to the next
pub record SendingCosts (before later : LedgerState) (r : Record) : Type 0 where
  -- the sender had the amount and the charge
  pub had : cost before.tariff.rate r.amount ≤ balance_of before r.sender
  -- a sender that is not the charge account has both less
  pub pays : (r.sender ≡ before.tariff.account → ⊥)
      → balance_of later r.sender ≡ balance_of before r.sender - cost before.tariff.rate r.amount
  -- and the charge account has the charge more
  pub paid : (r.sender ≡ before.tariff.account → ⊥)
      → balance_of later before.tariff.account ≡ balance_of before before.tariff.account + charge before.tariff.rate r.amount
  -- a sender that is the charge account has the amount less
  pub pays_itself : r.sender ≡ before.tariff.account → balance_of later r.sender ≡ balance_of before r.sender - r.amount
  -- every other account has what it had
  pub others : (i : ℕ) → (i ≡ r.sender → ⊥) → (i ≡ before.tariff.account → ⊥) → balance_of later i ≡ balance_of before i

-- so it is of every sending that the rules pass in a state that the pair validator accepts, on either ledger
unfoldable pub PairSendingsCost : Type 0
PairSendingsCost =
    (capacity : ℕ) (v : PairView) → pair_accepts capacity v ≡ true → (l : Ledger) (r : Record) → r.kind ≡ Sending l → judge v.pair r ≡ 0
    → SendingCosts (state_of l v.pair) (state_of l (after v.pair r)) r

-- and of every sending that the home validator passes in a state that it accepts
unfoldable pub HomeSendingsCost : Type 0
HomeSendingsCost =
    (capacity : ℕ) (v : HomeView) → home_accepts capacity v ≡ true → (r : Record) → r.kind ≡ Sending Home → home_judge_record v r ≡ 0
    → SendingCosts v.home (home_after v (Read r)).home r

-- ## Every account, over a run

-- what records took from account i as their sender: of a sending its amount and the charge
unfoldable pub spent : Tariff → ℕ → List Record → ℕ
spent t i records = sum (λ (r : Record). cond (eqb i r.sender) (debit t r r.kind) 0) records

-- what locals and arrivals gave to account i as their receiver
unfoldable pub gained : ℕ → List Record → ℕ
gained i records = sum (λ (r : Record). cond (not (is_sending r.kind) && eqb i r.receiver) r.amount 0) records

-- the charges of the sendings among records
unfoldable pub charges : ℕ → List Record → ℕ
charges rate records = sum (λ (r : Record). cond (is_sending r.kind) (charge rate r.amount) 0) records

-- with the ledger at its opening, as it is now, and the records passed on it between
pub record AccountsAddUp (opening now : LedgerState) (records : List Record) : Type 0 where
  -- the charge account has what it opened with, what its own records moved, and exactly the charges
  pub charge_account : balance_of now opening.tariff.account + spent opening.tariff opening.tariff.account records
      ≡ balance_of opening opening.tariff.account + gained opening.tariff.account records + charges opening.tariff.rate records
  -- every other account has what it opened with and what its own records moved
  pub others : (i : ℕ) → (i ≡ opening.tariff.account → ⊥)
      → balance_of now i + spent opening.tariff i records ≡ balance_of opening i + gained i records

-- at every accepted opening of the pair validator and after every list of calls, on either ledger
unfoldable pub PairAccountsAddUp : Type 0
PairAccountsAddUp =
    (capacity : ℕ) (tariff : Tariff) (homes fars : List ℕ) → pair_opening_refusal tariff homes fars ≡ 0 → (ds : List Call) (l : Ledger)
    → AccountsAddUp (state_of l (opened tariff homes fars)) (state_of l (run (pair_validator capacity) (pair_opened tariff homes fars) ds).pair)
    (records_on l (passed_records (pair_validator capacity) (pair_opened tariff homes fars) ds))

-- and of the home validator
unfoldable pub HomeAccountsAddUp : Type 0
HomeAccountsAddUp =
    (capacity : ℕ) (tariff : Tariff) (homes : List ℕ) (far_accounts far_total : ℕ) → home_opening_refusal tariff homes far_accounts far_total ≡ 0
    → (ds : List Call)
    → AccountsAddUp (new_ledger tariff homes) (run (home_validator capacity) (home_opened tariff homes far_accounts far_total) ds).home
    (records_on Home (passed_records (home_validator capacity) (home_opened tariff homes far_accounts far_total) ds))
