-- The home validator (document 01: guard), which sees the home ledger's records only, what it accepts and how it opens, and
-- what is claimed of it: the second half of demand 3. Assumes nothing.
use Rattle.std.specs.Prelude.{ℕ, ◌+◌, ◌-◌, ◌^◌, ◌≤◌, suc, ◌<◌, ◌≡◌, Bool, true, false, cond, List, [], ◌∷◌, ◌++◌, ◌↔◌, eqb, ltb, leb, length}
use Rattle.answers.specs.Answers.{or_else, refuse}
use Rattle.answers.specs.Answers.{Passed, Refused}
use Rattle.ledgers.specs.Ledgers.{ledger_of}
use Rattle.records.specs.Records.{reading, reading_refusal}
use Rattle.rules.specs.Calls.{Call, CallBytes, Checker, KeepsAccepted, call, handed, one, passed_records, records_on, run}
use Rattle.rules.specs.Lists.{Interleaving, all, sum, total}
use Rattle.rules.specs.PairValidator.{count_allowed, held_allowed, opening_refusal, room_refusal, stands_under, supply_allowed, unshared}
use Rattle.rules.specs.Rules.{Far, Home, Kind, Ledger, LedgerState, Local, Read, Reading, Receiving, Record, Sending, Unreadable}
use Rattle.rules.specs.Rules.{PairState, first_refusal, funds_refusal, held, is_receiving, is_sending, judge, new_ledger, opened}
use Rattle.rules.specs.Rules.{Passes, Tariff, after}
use Rattle.tariffs.specs.Tariffs.{tariff_allowed}
use Rattle.wire.specs.BigEndian.{All, Bytes, every}

-- ## The state

-- the home ledger, the number of far accounts, what can still arrive at home (document 01: far due; D3.2: pool), and the supply
-- (document 01: stake)
pub record HomeView : Type 0 where
  pub home : LedgerState
  pub far_accounts : ℕ
  pub far_pool : ℕ
  pub supply : ℕ

-- the sum of the amounts of sendings
unfoldable pub sent : List Record → ℕ
sent records = sum (λ (r : Record). cond (is_sending r.kind) r.amount 0) records

-- the sum of the amounts of arrivals
unfoldable pub received : List Record → ℕ
received records = sum (λ (r : Record). cond (is_receiving r.kind) r.amount 0) records

-- the far pool worked out from passed home records: the far opening total and what home sent, less what it received
-- (document 00: guard)
unfoldable pub far_pool_of : ℕ → List Record → ℕ
far_pool_of far_total records = far_total + sent records - received records

-- ## Judging a record

-- the number of accounts of each ledger
abbrev pub home_accounts : HomeView → Ledger → ℕ
home_accounts v Home = length v.home.balances
home_accounts v Far = v.far_accounts

-- a far record
abbrev pub is_far : Ledger → Bool
is_far Home = false
is_far Far = true

-- an arrival is within the far pool, and no sending is looked for (Guard: an arrival; 32)
unfoldable pub pool_refusal : ℕ → Record → ℕ
pool_refusal far_pool r = refuse (ltb far_pool r.amount) 32 0

-- then 25 or 32, by kind
abbrev pub home_last_refusal : HomeView → Record → Kind → ℕ
home_last_refusal v r (Local l) = funds_refusal v.home r (Local l)
home_last_refusal v r (Sending l) = funds_refusal v.home r (Sending l)
home_last_refusal v r (Receiving l) = pool_refusal v.far_pool r

-- a far record is refused first (33); then the rules' own tests of accounts, signature and number (Guard: form, accounts, ..)
unfoldable pub home_judge_record : HomeView → Record → ℕ
home_judge_record v r =
    refuse (is_far (ledger_of r.kind)) 33
    (first_refusal (home_accounts v) v.home.passed r (home_last_refusal v r r.kind))

-- 21 before these and 41 after them (Refusals: order of the guard); 3 is judged by the call
abbrev pub home_judge : ℕ → HomeView → Reading → ℕ
home_judge capacity v x =
    reading_refusal (λ (r : Record). or_else (home_judge_record v r) (room_refusal capacity v.home.passed)) x

-- the far pool once a record has passed: a sending adds its amount, an arrival takes it off
abbrev pub pool_after : ℕ → Record → Kind → ℕ
pool_after pool r (Local l) = pool
pool_after pool r (Sending l) = pool + r.amount
pool_after pool r (Receiving l) = pool - r.amount

-- the state once a record has passed
abbrev pub home_after : HomeView → Reading → HomeView
home_after v Unreadable = v
home_after v (Read r) =
    record { home = held v.home r; far_accounts = v.far_accounts; far_pool = pool_after v.far_pool r r.kind; supply = v.supply }

-- ## 3: the states that it accepts

-- refusal 3, in document 01's order (Refusals: 3), with 52's condition (document 02, U3); what only the program's state can hold is not here
unfoldable pub home_accepts : ℕ → HomeView → Bool
home_accepts capacity v =
    every
    (count_allowed (length v.home.balances)
    ∷ count_allowed v.far_accounts
    ∷ leb (length v.home.passed) capacity
    ∷ supply_allowed v.supply
    ∷ tariff_allowed v.home.tariff (length v.home.balances)
    ∷ all (held_allowed (home_accounts v)) v.home.passed
    ∷ unshared v.home.passed
    ∷ all (stands_under Home) v.home.passed
    ∷ eqb (total v.home.balances + v.far_pool) v.supply
    ∷ []
    )

-- the home validator
abbrev pub home_validator : ℕ → Checker HomeView
home_validator capacity =
    record {
      accepts = home_accepts capacity;
      judge = λ v b. home_judge capacity v (reading b);
      after = λ v b. home_after v (reading b);
    }

-- ## The opening

-- the refusal of an opening with a tariff (document 02, U3), home balances, the number of far accounts and their total (Guard: opens with)
abbrev pub home_opening_refusal : Tariff → List ℕ → ℕ → ℕ → ℕ
home_opening_refusal tariff homes far_accounts far_total = opening_refusal tariff (length homes) far_accounts (total homes + far_total)

-- the state of an accepted opening
abbrev pub home_opened : Tariff → List ℕ → ℕ → ℕ → HomeView
home_opened tariff homes far_accounts far_total =
    record {
      home = new_ledger tariff homes;
      far_accounts = far_accounts;
      far_pool = far_total;
      supply = total homes + far_total;
    }

-- ## Far lists

-- bytes that read as a record of the far ledger
abbrev pub reads_far : Reading → Bool
reads_far Unreadable = false
reads_far (Read r) = is_far (ledger_of r.kind)

-- a record of a far list (Runs: far list)
abbrev pub FarRecord : List ℕ → Type 0
FarRecord b = Bytes b × (reads_far (reading b) ≡ true)

-- a home record is whatever is no far one (Runs: home record)
abbrev pub HomeRecord : List ℕ → Type 0
HomeRecord b = reads_far (reading b) ≡ false

-- from a state of both ledgers, some far list, interleaved in some order with the home records, passes the rules
pub record Possible (p : PairState) (home_records : List (List ℕ)) : Type 0 where
  pub far_records : List (List ℕ)
  pub merged : List (List ℕ)
  pub are_far : All FarRecord far_records
  pub interleaved : Interleaving home_records far_records merged
  pub passes : Passes p merged

-- ## Beside the rules

-- whatever the far ledger is, home's locals and sendings are refused and passed as by the rules, and any passed home record does
-- to home what it does by the rules (Guard: locals and sendings follow)
unfoldable pub HomeFollowsRules : Type 0
HomeFollowsRules =
    (v : HomeView) (far : LedgerState) → length far.balances ≡ v.far_accounts → (r : Record) → ledger_of r.kind ≡ Home
    → (is_receiving r.kind ≡ false → home_judge_record v r ≡ judge (record { home = v.home; far = far }) r)
    × ((home_after v (Read r)).home ≡ (after (record { home = v.home; far = far }) r).home)

-- ## Demand 3, second half

-- a round bound on capacities, far above the part's: the far list that is built takes its numbers from a block of 2^32 of which
-- home has used none, one for each home record and each far account at most
abbrev pub most_capacity : ℕ
most_capacity = 2 ^ 31

-- after every run from an accepted opening, a call with a home record or home list, up to the capacity with the records passed
-- before, passes exactly when some far list makes it possible, for each way of splitting the far total over the far accounts
unfoldable pub ExactlyWhenPossible : Type 0
ExactlyWhenPossible =
    (capacity : ℕ) → capacity ≤ most_capacity
    → (tariff : Tariff) (homes : List ℕ) (far_accounts far_total : ℕ) → home_opening_refusal tariff homes far_accounts far_total ≡ 0
    → (ds : List Call) → All CallBytes ds → (d : Call) → CallBytes d → All HomeRecord (handed d)
    → length (passed_records (home_validator capacity) (home_opened tariff homes far_accounts far_total) ds) + length (handed d) ≤ capacity
    → (fars : List ℕ) → length fars ≡ far_accounts → total fars ≡ far_total
    → ((call (home_validator capacity) (run (home_validator capacity) (home_opened tariff homes far_accounts far_total) ds) d).answer ≡ Passed)
    ↔ Possible (opened tariff homes fars) (passed_records (home_validator capacity) (home_opened tariff homes far_accounts far_total) ds ++ handed d)

-- what holds after the calls of a run
pub record WithinPoolAfter (capacity : ℕ) (tariff : Tariff) (homes : List ℕ) (far_accounts far_total : ℕ) (ds : List Call) : Type 0 where
  -- at every beginning of the passed records, what was received is at most the far opening total and what was sent
  pub bounded : (xs ys : List (List ℕ)) → passed_records (home_validator capacity) (home_opened tariff homes far_accounts far_total) ds ≡ xs ++ ys
      → received (records_on Home xs) ≤ far_total + sent (records_on Home xs)
  -- an arrival among them is at most the far pool of the records before it
  pub each : (xs ys : List (List ℕ)) (b : List ℕ) (r : Record)
      → passed_records (home_validator capacity) (home_opened tariff homes far_accounts far_total) ds ≡ xs ++ b ∷ ys
      → reading b ≡ Read r → r.kind ≡ Receiving Home → r.amount ≤ far_pool_of far_total (records_on Home xs)
  -- the state's far pool is the one worked out
  pub figure : (run (home_validator capacity) (home_opened tariff homes far_accounts far_total) ds).far_pool
      ≡ far_pool_of far_total (records_on Home (passed_records (home_validator capacity) (home_opened tariff homes far_accounts far_total) ds))
  -- every passed record is a home one
  pub home_records : All HomeRecord (passed_records (home_validator capacity) (home_opened tariff homes far_accounts far_total) ds)
  -- the table holds the passed records, in order
  pub table : (run (home_validator capacity) (home_opened tariff homes far_accounts far_total) ds).home.passed
      ≡ records_on Home (passed_records (home_validator capacity) (home_opened tariff homes far_accounts far_total) ds)
  -- 3 never arises
  pub accepted : home_accepts capacity (run (home_validator capacity) (home_opened tariff homes far_accounts far_total) ds) ≡ true

-- home never pays out above the far pool: at every accepted opening and after every list of calls
unfoldable pub WithinPool : Type 0
WithinPool =
    (capacity : ℕ) (tariff : Tariff) (homes : List ℕ) (far_accounts far_total : ℕ) → home_opening_refusal tariff homes far_accounts far_total ≡ 0
    → (ds : List Call) → WithinPoolAfter capacity tariff homes far_accounts far_total ds

-- a call in any accepted state, reached by a run or not, hands back an accepted one
unfoldable pub HomeKeepsAccepted : Type 0
HomeKeepsAccepted = (capacity : ℕ) → KeepsAccepted (home_validator capacity)

-- ## A call with one record

-- what holds of it in an accepted state: each refusal with its own number, 41 last, and a pass with the state that follows
pub record HomeAnswers (capacity : ℕ) (v : HomeView) (b : List ℕ) : Type 0 where
  -- what does not read is refused 21
  pub unreadable : reading b ≡ Unreadable → call (home_validator capacity) v (one b) ≡ record { answer = Refused 21 0; state = v }
  -- a record that 33, 22, 51, 23, 24, 25 or 32 refuses is refused with that number
  pub refuses_as : (r : Record) (n : ℕ) → reading b ≡ Read r → home_judge_record v r ≡ suc n
      → call (home_validator capacity) v (one b) ≡ record { answer = Refused (suc n) 0; state = v }
  -- any other is refused 41 where the table is full
  pub refuses_full : (r : Record) → reading b ≡ Read r → home_judge_record v r ≡ 0 → capacity ≤ length v.home.passed
      → call (home_validator capacity) v (one b) ≡ record { answer = Refused 41 0; state = v }
  -- and else passes
  pub passes : (r : Record) → reading b ≡ Read r → home_judge_record v r ≡ 0 → length v.home.passed < capacity
      → call (home_validator capacity) v (one b) ≡ record { answer = Passed; state = home_after v (Read r) }

-- so it is in every state that the home validator accepts, and for every byte string
unfoldable pub HomeAnswersAll : Type 0
HomeAnswersAll = (capacity : ℕ) (v : HomeView) → home_accepts capacity v ≡ true → (b : List ℕ) → HomeAnswers capacity v b
