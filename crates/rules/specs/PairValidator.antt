-- The pair validator (document 01: pair book), what it accepts and how it opens, and what is claimed of it: demand 2 and the
-- first half of demand 3. The capacity, the records that it holds of a ledger, is a parameter. Assumes nothing.
use Rattle.std.specs.Prelude.{ℕ, suc, ◌+◌, ◌≤◌, ◌<◌, ◌≡◌, Bool, true, false, not, ◌||◌, List, [], ◌∷◌, ◌↔◌, eqb, ltb, leb, length}
use Rattle.answers.specs.Answers.{or_else, refuse}
use Rattle.answers.specs.Answers.{Passed, Refused}
use Rattle.ledgers.specs.Ledgers.{ledger_of}
use Rattle.ledgers.specs.Limits.{account_limit, max_amount}
use Rattle.records.specs.Records.{reading}
use Rattle.rules.specs.Calls.{Call, Checker, KeepsAccepted, call, one, passed_records, records_on, run}
use Rattle.rules.specs.Lists.{all, any, total}
use Rattle.rules.specs.Rules.{Far, Home, Ledger, PairState, Read, Reading, Record, Unreadable, accounts_of, opened, state_of}
use Rattle.rules.specs.Rules.{after_bytes, clashes, first_refusal, is_receiving, judge, judge_bytes, judge_reading, matches}
use Rattle.rules.specs.Rules.{Tariff, flight_both, in_flight}
use Rattle.tariffs.specs.Tariffs.{takes_nothing, tariff_allowed}
use Rattle.wire.specs.BigEndian.{every}

-- ## The state

-- both ledgers and the supply (document 01: stake)
pub record PairView : Type 0 where
  pub pair : PairState
  pub supply : ℕ

-- ## Judging a record

-- 41, where the ledger has as many passed records as the capacity
unfoldable pub room_refusal : ℕ → List Record → ℕ
room_refusal capacity passed = refuse (leb capacity (length passed)) 41 0

-- the same for what was read, on its ledger
abbrev pub reading_room : ℕ → PairState → Reading → ℕ
reading_room capacity p Unreadable = 0
reading_room capacity p (Read r) = room_refusal capacity (state_of (ledger_of r.kind) p).passed

-- the rules' refusals, and 41 after all of them (Refusals: order of the pair book); 3 is judged by the call
abbrev pub pair_judge : ℕ → PairState → Reading → ℕ
pair_judge capacity p x = or_else (judge_reading p x) (reading_room capacity p x)

-- ## 3: the states that it accepts

-- a ledger has an account and at most 56 (Rules: an opening)
unfoldable pub count_allowed : ℕ → Bool
count_allowed n = every (ltb 0 n ∷ leb n account_limit ∷ [])

-- the supply is at most 2^63-1 (Rules: all stakes together)
unfoldable pub supply_allowed : ℕ → Bool
supply_allowed supply = leb supply max_amount

-- a held record that 21 (by its amount), 22, 51 and 23 would not refuse, with each ledger's number of accounts
unfoldable pub held_allowed : (Ledger → ℕ) → Record → Bool
held_allowed accounts r =
    every (ltb 0 r.amount ∷ leb r.amount max_amount ∷ eqb (first_refusal accounts [] r 0) 0 ∷ [])

-- no two held records of a ledger are such that 24 forbids one (Refusals: 3, shares its number)
unfoldable pub unshared : List Record → Bool
unshared [] = true
unshared (r ∷ rs) = every (not (any (clashes r) rs) ∷ unshared rs ∷ [])

-- r is no arrival, or has its sending among the records of the other ledger
unfoldable pub matched : List Record → Record → Bool
matched others r = not (is_receiving r.kind) || any (matches r) others

-- two ledgers are the same
abbrev pub same_ledger : Ledger → Ledger → Bool
same_ledger Home Home = true
same_ledger Home Far = false
same_ledger Far Home = false
same_ledger Far Far = true

-- r stands under its own ledger
unfoldable pub stands_under : Ledger → Record → Bool
stands_under l r = same_ledger l (ledger_of r.kind)

-- refusal 3, in document 01's order (Refusals: 3), with 52's condition (document 02, U3). Balances beyond the accounts, and words that do
-- not read (kind, ledger, verdict or zero bytes wrong), do not arise here but in the state that the program holds; that something is
-- taken on far's sendings arises here alone
unfoldable pub pair_accepts : ℕ → PairView → Bool
pair_accepts capacity v =
    every
    (count_allowed (length v.pair.home.balances)
    ∷ count_allowed (length v.pair.far.balances)
    ∷ leb (length v.pair.home.passed) capacity
    ∷ leb (length v.pair.far.passed) capacity
    ∷ supply_allowed v.supply
    ∷ tariff_allowed v.pair.home.tariff (length v.pair.home.balances)
    ∷ takes_nothing v.pair.far.tariff
    ∷ all (held_allowed (accounts_of v.pair)) v.pair.home.passed
    ∷ all (held_allowed (accounts_of v.pair)) v.pair.far.passed
    ∷ unshared v.pair.home.passed
    ∷ unshared v.pair.far.passed
    ∷ all (matched v.pair.far.passed) v.pair.home.passed
    ∷ all (matched v.pair.home.passed) v.pair.far.passed
    ∷ all (stands_under Home) v.pair.home.passed
    ∷ all (stands_under Far) v.pair.far.passed
    ∷ eqb (total v.pair.home.balances + total v.pair.far.balances + in_flight v.pair) v.supply
    ∷ []
    )

-- the pair validator
abbrev pub pair_validator : ℕ → Checker PairView
pair_validator capacity =
    record {
      accepts = pair_accepts capacity;
      judge = λ v b. pair_judge capacity v.pair (reading b);
      after = λ v b. record { pair = after_bytes v.pair b; supply = v.supply };
    }

-- ## The opening

-- 1, then 2, then 52, with the tariff, the numbers of accounts and the total of all opening balances (Refusals: order of the opening;
-- document 02, U3)
unfoldable pub opening_refusal : Tariff → ℕ → ℕ → ℕ → ℕ
opening_refusal tariff homes fars supply =
    refuse (not (every (count_allowed homes ∷ count_allowed fars ∷ []))) 1
    (refuse (not (supply_allowed supply)) 2
    (refuse (not (tariff_allowed tariff homes)) 52
    0))

-- the refusal of an opening with this tariff and these balances
abbrev pub pair_opening_refusal : Tariff → List ℕ → List ℕ → ℕ
pair_opening_refusal tariff homes fars = opening_refusal tariff (length homes) (length fars) (total homes + total fars)

-- the state of an accepted opening
abbrev pub pair_opened : Tariff → List ℕ → List ℕ → PairView
pair_opened tariff homes fars = record { pair = opened tariff homes fars; supply = total homes + total fars }

-- ## Demand 2

-- what holds of a call with one record in an accepted state
pub record FollowsRules (capacity : ℕ) (v : PairView) (b : List ℕ) : Type 0 where
  -- what does not read is refused 21
  pub unreadable : reading b ≡ Unreadable → (call (pair_validator capacity) v (one b)).answer ≡ Refused 21 0
  -- a record passes exactly when the rules pass it and its ledger's table is not full
  pub passes_when : (r : Record) → reading b ≡ Read r
      → ((call (pair_validator capacity) v (one b)).answer ≡ Passed)
      ↔ ((judge v.pair r ≡ 0) × (length (state_of (ledger_of r.kind) v.pair).passed < capacity))
  -- one that the rules refuse is refused with their number
  pub refuses_as : (n : ℕ) → judge_bytes v.pair b ≡ suc n → (call (pair_validator capacity) v (one b)).answer ≡ Refused (suc n) 0
  -- one that only a full table stops is refused 41
  pub refuses_full : (r : Record) → reading b ≡ Read r → judge v.pair r ≡ 0
      → capacity ≤ length (state_of (ledger_of r.kind) v.pair).passed → (call (pair_validator capacity) v (one b)).answer ≡ Refused 41 0
  -- the state beside a pass is the one that the rules give, with the supply as before
  pub gives : (call (pair_validator capacity) v (one b)).answer ≡ Passed
      → (call (pair_validator capacity) v (one b)).state ≡ record { pair = after_bytes v.pair b; supply = v.supply }
  -- the state beside a refusal is the one handed in
  pub unaltered : (n place : ℕ) → (call (pair_validator capacity) v (one b)).answer ≡ Refused n place
      → (call (pair_validator capacity) v (one b)).state ≡ v

-- in every state that it accepts, and for every byte string, the pair validator answers as the rules do
unfoldable pub AsTheRules : Type 0
AsTheRules = (capacity : ℕ) (v : PairView) → pair_accepts capacity v ≡ true → (b : List ℕ) → FollowsRules capacity v b

-- ## Demand 3, first half

-- in flight, worked out from passed records
unfoldable pub in_flight_of : List (List ℕ) → ℕ
in_flight_of bs = flight_both (records_on Home bs) (records_on Far bs)

-- what holds after the calls of a run
pub record ConservedAfter (capacity : ℕ) (tariff : Tariff) (homes fars : List ℕ) (ds : List Call) : Type 0 where
  -- home balances plus far balances plus in flight, worked out from the passed records, equal the supply
  pub conserved : total (run (pair_validator capacity) (pair_opened tariff homes fars) ds).pair.home.balances
      + total (run (pair_validator capacity) (pair_opened tariff homes fars) ds).pair.far.balances
      + in_flight_of (passed_records (pair_validator capacity) (pair_opened tariff homes fars) ds)
      ≡ total homes + total fars
  -- the state's own figure for in flight is the one worked out
  pub figure : in_flight (run (pair_validator capacity) (pair_opened tariff homes fars) ds).pair
      ≡ in_flight_of (passed_records (pair_validator capacity) (pair_opened tariff homes fars) ds)
  -- the state's supply is the opening's
  pub supply_same : (run (pair_validator capacity) (pair_opened tariff homes fars) ds).supply ≡ total homes + total fars
  -- each ledger's table holds its passed records, in order
  pub tables : (l : Ledger) → (state_of l (run (pair_validator capacity) (pair_opened tariff homes fars) ds).pair).passed
      ≡ records_on l (passed_records (pair_validator capacity) (pair_opened tariff homes fars) ds)
  -- 3 never arises
  pub accepted : pair_accepts capacity (run (pair_validator capacity) (pair_opened tariff homes fars) ds) ≡ true

-- at every accepted opening and after every list of calls
unfoldable pub Conserved : Type 0
Conserved =
    (capacity : ℕ) (tariff : Tariff) (homes fars : List ℕ) → pair_opening_refusal tariff homes fars ≡ 0
    → (ds : List Call) → ConservedAfter capacity tariff homes fars ds

-- a call in any accepted state, reached by a run or not, hands back an accepted one
unfoldable pub PairKeepsAccepted : Type 0
PairKeepsAccepted = (capacity : ℕ) → KeepsAccepted (pair_validator capacity)
