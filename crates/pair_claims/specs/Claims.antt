-- What is claimed of the pair validator's calls over the state that the program holds: demand 2, the first half of demand 3, what 22 and
-- 51 say of a record's accounts, that no sending is stranded, what a sending costs and what every account has, and what the places left say
-- of 41. Assumes nothing.
use Rattle.std.specs.Prelude.{◌+◌, ◌-◌, ◌<◌, ◌^◌, ◌≤◌, suc, ℕ, false, true, List, ◌↔◌, ◌≡◌, length}
use Rattle.answers.specs.Answers.{answer}
use Rattle.answers.specs.Answers.{Passed, Refused}
use Rattle.ledgers.specs.Ledgers.{counterpart, ledger_of}
use Rattle.ledgers.specs.Limits.{capacity}
use Rattle.ledgers.specs.declared.Ledger.{Ledger}
use Rattle.ledgers.specs.declared.Ledger.TheVariants.{Far, Home}
use Rattle.pair_core.specs.Layout.{accepts_pair, pair_words_checker}
use Rattle.pair_validator.specs.Figures.{pair_figures_of, pair_places_of}
use Rattle.pair_validator.specs.State.{pair_checker, pair_opened_state, pair_view_of_state, pair_zero_state}
use Rattle.pair_validator.specs.declared.PairValidator.{PairValidator}
use Rattle.pair_validator.specs.Figures.{PairPlaces}
use Rattle.records.specs.Records.{encoding, reading}
use Rattle.records.specs.Records.{Read, Unreadable}
use Rattle.records.specs.declared.Record.{Record}
use Rattle.rules.specs.Accounts.{AccountsOpen, TellsAccount}
use Rattle.rules.specs.Arrivals.{Flying, receiving_of}
use Rattle.rules.specs.Charges.{AccountsAddUp, SendingCosts, balance_of}
use Rattle.rules.specs.Calls.{Call, CallBytes, ListsInTurn, RefusedUnaltered, call, one, passed_records, records_on, run}
use Rattle.rules.specs.Lists.{total}
use Rattle.rules.specs.PairValidator.{in_flight_of, pair_opened, pair_opening_refusal, pair_validator}
use Rattle.rules.specs.Rules.{Sending, Tariff, accounts_of, after_bytes, judge, judge_bytes, opened, state_of}
use Rattle.wire.specs.BigEndian.{All}

-- ## The rules' calls

-- an accepted opening gives, seen as the rules' state, the rules' opening
unfoldable pub PairOpenedAsRules : Type 0
PairOpenedAsRules =
    (tariff : Tariff) (homes fars : List ℕ) → pair_opening_refusal tariff homes fars ≡ 0
    → pair_view_of_state (pair_opened_state tariff homes fars) ≡ pair_opened tariff homes fars

-- any call in an accepted state has the answer of the rules' call and, seen as the rules' state, its state
unfoldable pub PairCallsAsRules : Type 0
PairCallsAsRules =
    (s : PairValidator) → accepts_pair s.words ≡ true → (d : Call)
    → ((call pair_checker s d).answer ≡ (call (pair_validator capacity) (pair_view_of_state s) d).answer)
    × (pair_view_of_state (call pair_checker s d).state ≡ (call (pair_validator capacity) (pair_view_of_state s) d).state)

-- a call in place has the answer of the call by value and leaves in the words what that hands back
unfoldable pub PairInPlaceAsByValue : Type 0
PairInPlaceAsByValue =
    (s : PairValidator) (d : Call)
    → ((call pair_words_checker s.words d).answer ≡ (call pair_checker s d).answer)
    × ((call pair_words_checker s.words d).state ≡ (call pair_checker s d).state.words)

-- and so a run of calls in place leaves the words of the run by value and passes the same records: what is claimed here of runs is claimed
-- of those in place too
unfoldable pub PairRunsInPlaceAsByValue : Type 0
PairRunsInPlaceAsByValue =
    (s : PairValidator) (ds : List Call)
    → (run pair_words_checker s.words ds ≡ (run pair_checker s ds).words)
    × (passed_records pair_words_checker s.words ds ≡ passed_records pair_checker s ds)

-- 3 is answered in its condition, with the state as it came, and not otherwise
unfoldable pub PairThreeExactly : Type 0
PairThreeExactly =
    (s : PairValidator) (d : Call)
    → (accepts_pair s.words ≡ false → call pair_checker s d ≡ record { answer = Refused 3 0; state = s })
    × (accepts_pair s.words ≡ true → (place : ℕ) → (call pair_checker s d).answer ≡ Refused 3 place → ⊥)

-- ## Demand 2

-- what holds of a call with one record, whatever its bytes, in an accepted state
pub record PairStateFollowsRules (s : PairValidator) (b : List ℕ) : Type 0 where
  -- what does not read is refused 21
  pub unreadable : reading b ≡ Unreadable → call pair_checker s (one b) ≡ record { answer = Refused 21 0; state = s }
  -- a record passes exactly when the rules pass it and its ledger's table is not full
  pub passes_when : (r : Record) → reading b ≡ Read r
      → ((call pair_checker s (one b)).answer ≡ Passed)
      ↔ ((judge (pair_view_of_state s).pair r ≡ 0) × (length (state_of (ledger_of r.kind) (pair_view_of_state s).pair).passed < capacity))
  -- one that the rules refuse is refused with their number
  pub refuses_as : (n : ℕ) → judge_bytes (pair_view_of_state s).pair b ≡ suc n
      → call pair_checker s (one b) ≡ record { answer = Refused (suc n) 0; state = s }
  -- one that only a full table stops is refused 41
  pub refuses_full : (r : Record) → reading b ≡ Read r → judge (pair_view_of_state s).pair r ≡ 0
      → capacity ≤ length (state_of (ledger_of r.kind) (pair_view_of_state s).pair).passed
      → call pair_checker s (one b) ≡ record { answer = Refused 41 0; state = s }
  -- the state beside a pass is, seen as the rules' state, the one that the rules give, with the supply as before
  pub gives : (call pair_checker s (one b)).answer ≡ Passed
      → pair_view_of_state (call pair_checker s (one b)).state
      ≡ record { pair = after_bytes (pair_view_of_state s).pair b; supply = (pair_view_of_state s).supply }

-- DEMAND 2, of the program's states: in every state that the pair validator accepts, and for every byte string
unfoldable pub PairStatesFollowRules : Type 0
PairStatesFollowRules = (s : PairValidator) → accepts_pair s.words ≡ true → (b : List ℕ) → PairStateFollowsRules s b

-- DOCUMENT 02, U1: in every state that the pair validator accepts, 22 and 51 tell which account of a record that reads, handed in alone, is
-- not open (a list answers by its records in turn, below)
unfoldable pub PairTellsAccount : Type 0
PairTellsAccount =
    (s : PairValidator) → accepts_pair s.words ≡ true → (b : List ℕ) (r : Record) → reading b ≡ Read r
    → TellsAccount (accounts_of (pair_view_of_state s).pair) r (call pair_checker s (one b)).answer

-- and such a state holds no record with an account that is not open: it would be refused 3
unfoldable pub PairHeldAccountsOpen : Type 0
PairHeldAccountsOpen =
    (s : PairValidator) → accepts_pair s.words ≡ true → (l : Ledger)
    → All (AccountsOpen (accounts_of (pair_view_of_state s).pair)) (state_of l (pair_view_of_state s).pair).passed

-- of a sending r of ledger l, in a state with so many records passed on the other ledger: what becomes of its arrival there
pub record PairArrives (s : PairValidator) (l : Ledger) (passed : ℕ) (r : Record) : Type 0 where
  -- the arrival's bytes read as it
  pub reads : reading (encoding (receiving_of l r)) ≡ Read (receiving_of l r)
  -- they pass where the table of its ledger is not full
  pub passes : passed < capacity → (call pair_checker s (one (encoding (receiving_of l r)))).answer ≡ Passed
  -- and are refused 41 where it is
  pub full : capacity ≤ passed → call pair_checker s (one (encoding (receiving_of l r))) ≡ record { answer = Refused 41 0; state = s }

-- DOCUMENT 02, U2: in every state that the pair validator accepts, the arrival of each sending in flight, whose number has 64 bits as every
-- word of a state does, passes unless the table is full
unfoldable pub PairNothingStranded : Type 0
PairNothingStranded =
    (s : PairValidator) → accepts_pair s.words ≡ true → (l : Ledger) (r : Record) → r.number < 2 ^ 64
    → Flying l (state_of l (pair_view_of_state s).pair).passed (state_of (counterpart l) (pair_view_of_state s).pair).passed r
    → PairArrives s l (length (state_of (counterpart l) (pair_view_of_state s).pair).passed) r

-- DOCUMENT 02, U3: in every state that the pair validator accepts, a sending of either ledger that passes, handed in alone, costs its sender
-- exactly its amount and the charge, which the charge account gets
unfoldable pub PairSendingsCostExactly : Type 0
PairSendingsCostExactly =
    (s : PairValidator) → accepts_pair s.words ≡ true → (b : List ℕ) (l : Ledger) (r : Record) → reading b ≡ Read r → r.kind ≡ Sending l
    → (call pair_checker s (one b)).answer ≡ Passed
    → SendingCosts (state_of l (pair_view_of_state s).pair) (state_of l (pair_view_of_state (call pair_checker s (one b)).state).pair) r

-- and a far sending costs its amount and nothing more: every other far account has what it had
unfoldable pub PairFarSendingsFree : Type 0
PairFarSendingsFree =
    (s : PairValidator) → accepts_pair s.words ≡ true → (b : List ℕ) (r : Record) → reading b ≡ Read r → r.kind ≡ Sending Far
    → (call pair_checker s (one b)).answer ≡ Passed
    → (balance_of (pair_view_of_state (call pair_checker s (one b)).state).pair.far r.sender
    ≡ balance_of (pair_view_of_state s).pair.far r.sender - r.amount)
    × ((i : ℕ) → (i ≡ r.sender → ⊥)
    → balance_of (pair_view_of_state (call pair_checker s (one b)).state).pair.far i ≡ balance_of (pair_view_of_state s).pair.far i)

-- a call with a list answers by its records in turn; a refusal of any call hands back the state handed in
unfoldable pub PairListsAndRefusals : Type 0
PairListsAndRefusals = ListsInTurn pair_checker × RefusedUnaltered pair_checker

-- a call in any accepted state, reached by a run or not, hands back an accepted one
unfoldable pub PairStatesStayAccepted : Type 0
PairStatesStayAccepted =
    (s : PairValidator) → accepts_pair s.words ≡ true → (d : Call) → accepts_pair (call pair_checker s d).state.words ≡ true

-- ## Demand 3, first half

-- the state after calls from an opening with a tariff
abbrev pub pair_state_of_run : Tariff → List ℕ → List ℕ → List Call → PairValidator
pair_state_of_run tariff homes fars ds = run pair_checker (pair_opened_state tariff homes fars) ds

-- the records that passed in them
abbrev pub pair_passed_of_run : Tariff → List ℕ → List ℕ → List Call → List (List ℕ)
pair_passed_of_run tariff homes fars ds = passed_records pair_checker (pair_opened_state tariff homes fars) ds

-- what holds after the calls of a run
pub record PairStateConserved (tariff : Tariff) (homes fars : List ℕ) (ds : List Call) : Type 0 where
  -- home balances plus far balances plus in flight, worked out from the passed records, equal the supply
  pub conserved : total (pair_view_of_state (pair_state_of_run tariff homes fars ds)).pair.home.balances
      + total (pair_view_of_state (pair_state_of_run tariff homes fars ds)).pair.far.balances
      + in_flight_of (pair_passed_of_run tariff homes fars ds)
      ≡ total homes + total fars
  -- the figures that the validator gives are these totals and the in flight worked out
  pub figures : pair_figures_of (accepts_pair (pair_state_of_run tariff homes fars ds).words) (pair_state_of_run tariff homes fars ds).words
      ≡ record {
        answer = Passed;
        home = total (pair_view_of_state (pair_state_of_run tariff homes fars ds)).pair.home.balances;
        far = total (pair_view_of_state (pair_state_of_run tariff homes fars ds)).pair.far.balances;
        flight = in_flight_of (pair_passed_of_run tariff homes fars ds);
      }
  -- the state is, seen as the rules' state, the one that the rules' run reaches
  pub as_rules : pair_view_of_state (pair_state_of_run tariff homes fars ds) ≡ run (pair_validator capacity) (pair_opened tariff homes fars) ds
  -- the state's supply is the opening's
  pub supply_same : (pair_view_of_state (pair_state_of_run tariff homes fars ds)).supply ≡ total homes + total fars
  -- each ledger's table holds its passed records, in order
  pub tables : (l : Ledger)
      → (state_of l (pair_view_of_state (pair_state_of_run tariff homes fars ds)).pair).passed ≡ records_on l (pair_passed_of_run tariff homes fars ds)
  -- the state is accepted
  pub accepted : accepts_pair (pair_state_of_run tariff homes fars ds).words ≡ true
  -- no call answers 3
  pub never_3 : (d : Call) (place : ℕ) → (call pair_checker (pair_state_of_run tariff homes fars ds) d).answer ≡ Refused 3 place → ⊥

-- DEMAND 3, FIRST HALF, of the program's states: at every accepted opening and after every list of calls
unfoldable pub PairStatesConserved : Type 0
PairStatesConserved =
    (tariff : Tariff) (homes fars : List ℕ) → pair_opening_refusal tariff homes fars ≡ 0 → (ds : List Call) → PairStateConserved tariff homes fars ds

-- DOCUMENT 02, U2, of runs: at every accepted opening and after every list of calls, each of bytes, the arrival of each sending that is in
-- flight by the passed records passes unless as many records as the capacity have passed on its ledger
unfoldable pub PairRunsStrandNothing : Type 0
PairRunsStrandNothing =
    (tariff : Tariff) (homes fars : List ℕ) → pair_opening_refusal tariff homes fars ≡ 0 → (ds : List Call) → All CallBytes ds → (l : Ledger) (r : Record)
    → Flying l (records_on l (pair_passed_of_run tariff homes fars ds)) (records_on (counterpart l) (pair_passed_of_run tariff homes fars ds)) r
    → PairArrives (pair_state_of_run tariff homes fars ds) l (length (records_on (counterpart l) (pair_passed_of_run tariff homes fars ds))) r

-- DOCUMENT 02, U3, of runs: at every accepted opening and after every list of calls, on either ledger, the charge account has what it opened
-- with, what its own records moved and exactly the charges of the passed sendings, and every other account what it opened with and what
-- its own records moved
unfoldable pub PairChargesPaid : Type 0
PairChargesPaid =
    (tariff : Tariff) (homes fars : List ℕ) → pair_opening_refusal tariff homes fars ≡ 0 → (ds : List Call) (l : Ledger)
    → AccountsAddUp (state_of l (opened tariff homes fars)) (state_of l (pair_view_of_state (pair_state_of_run tariff homes fars ds)).pair)
    (records_on l (pair_passed_of_run tariff homes fars ds))

-- beside a refused opening stands a state that every call refuses with 3
unfoldable pub PairZeroRefused : Type 0
PairZeroRefused = (d : Call) → call pair_checker pair_zero_state d ≡ record { answer = Refused 3 0; state = pair_zero_state }

-- ## The places left

-- what the validator gives for a state
abbrev pub pair_places_left : PairValidator → PairPlaces
pair_places_left s = pair_places_of (accepts_pair s.words) s.words

-- of them those of a ledger
abbrev pub left_on : Ledger → PairPlaces → ℕ
left_on Home p = p.home
left_on Far p = p.far

-- what holds of them after the calls of a run
pub record PairPlacesLeftAfter (tariff : Tariff) (homes fars : List ℕ) (ds : List Call) : Type 0 where
  -- they are told
  pub told : (pair_places_left (pair_state_of_run tariff homes fars ds)).answer ≡ answer 0 0
  -- with the passed records of a ledger they make the capacity
  pub with_passed : (l : Ledger)
      → left_on l (pair_places_left (pair_state_of_run tariff homes fars ds)) + length (records_on l (pair_passed_of_run tariff homes fars ds)) ≡ capacity

-- at every accepted opening and after every list of calls, the places left on a ledger are the capacity less its passed records
unfoldable pub PairPlacesLeft : Type 0
PairPlacesLeft =
    (tariff : Tariff) (homes fars : List ℕ) → pair_opening_refusal tariff homes fars ≡ 0 → (ds : List Call) → PairPlacesLeftAfter tariff homes fars ds

-- in every state that the pair validator accepts, a record handed in alone that the rules pass is refused 41 exactly when its ledger has
-- no place left
unfoldable pub PairFullWhenNoneLeft : Type 0
PairFullWhenNoneLeft =
    (s : PairValidator) → accepts_pair s.words ≡ true → (b : List ℕ) (r : Record) → reading b ≡ Read r
    → judge (pair_view_of_state s).pair r ≡ 0
    → ((call pair_checker s (one b)).answer ≡ answer 41 0) ↔ (left_on (ledger_of r.kind) (pair_places_left s) ≡ 0)
