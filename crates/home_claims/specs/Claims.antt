-- What is claimed of the home validator's calls over the state that the program holds: the second half of demand 3, what 22 and 51 say
-- of a record's accounts, what the charge does to accounts, and what the places left say of 41. Assumes nothing.
use Rattle.std.specs.Prelude.{◌+◌, ◌<◌, ◌≤◌, suc, ℕ, false, true, List, ◌++◌, ◌∷◌, ◌↔◌, ◌≡◌, length}
use Rattle.answers.specs.Answers.{answer}
use Rattle.answers.specs.Answers.{Passed, Refused}
use Rattle.home_core.specs.Layout.{accepts_home, home_words_checker}
use Rattle.home_validator.specs.Figures.{HomePlaces, home_figures_of, home_places_of}
use Rattle.home_validator.specs.State.{home_checker, home_opened_state, home_view_of_state, home_zero_state}
use Rattle.home_validator.specs.declared.HomeValidator.{HomeValidator}
use Rattle.ledgers.specs.Ledgers.{ledger_of}
use Rattle.ledgers.specs.Limits.{capacity}
use Rattle.ledgers.specs.declared.Kind.TheVariants.{Receiving, Sending}
use Rattle.ledgers.specs.declared.Ledger.TheVariants.{Home}
use Rattle.records.specs.Records.{reading}
use Rattle.records.specs.Records.{Read, Unreadable}
use Rattle.records.specs.declared.Record.{Record}
use Rattle.rules.specs.Accounts.{AccountsOpen, TellsAccount}
use Rattle.rules.specs.Calls.{Call, CallBytes, ListsInTurn, RefusedUnaltered, call, handed, one, passed_records, records_on, run}
use Rattle.rules.specs.Charges.{AccountsAddUp, SendingCosts}
use Rattle.rules.specs.HomeValidator.{HomeRecord, Possible, far_pool_of, home_accounts, home_after, home_judge_record, home_opened}
use Rattle.rules.specs.HomeValidator.{home_opening_refusal, home_validator, received, sent}
use Rattle.rules.specs.Lists.{total}
use Rattle.rules.specs.Rules.{new_ledger, opened}
use Rattle.tariffs.specs.declared.Tariff.{Tariff}
use Rattle.wire.specs.BigEndian.{All}

-- ## The rules' calls

-- an accepted opening gives, seen as the rules' state, the rules' opening
unfoldable pub HomeOpenedAsRules : Type 0
HomeOpenedAsRules =
    (tariff : Tariff) (homes : List ℕ) (fars far_total : ℕ) → home_opening_refusal tariff homes fars far_total ≡ 0
    → home_view_of_state (home_opened_state tariff homes fars far_total) ≡ home_opened tariff homes fars far_total

-- any call in an accepted state has the answer of the rules' call and, seen as the rules' state, its state
unfoldable pub HomeCallsAsRules : Type 0
HomeCallsAsRules =
    (s : HomeValidator) → accepts_home s.words ≡ true → (d : Call)
    → ((call home_checker s d).answer ≡ (call (home_validator capacity) (home_view_of_state s) d).answer)
    × (home_view_of_state (call home_checker s d).state ≡ (call (home_validator capacity) (home_view_of_state s) d).state)

-- a call in place has the answer of the call by value and leaves in the words what that hands back
unfoldable pub HomeInPlaceAsByValue : Type 0
HomeInPlaceAsByValue =
    (s : HomeValidator) (d : Call)
    → ((call home_words_checker s.words d).answer ≡ (call home_checker s d).answer)
    × ((call home_words_checker s.words d).state ≡ (call home_checker s d).state.words)

-- and so a run of calls in place leaves the words of the run by value and passes the same records: what is claimed here of runs is claimed
-- of those in place too
unfoldable pub HomeRunsInPlaceAsByValue : Type 0
HomeRunsInPlaceAsByValue =
    (s : HomeValidator) (ds : List Call)
    → (run home_words_checker s.words ds ≡ (run home_checker s ds).words)
    × (passed_records home_words_checker s.words ds ≡ passed_records home_checker s ds)

-- 3 is answered in its condition, with the state as it came, and not otherwise
unfoldable pub HomeThreeExactly : Type 0
HomeThreeExactly =
    (s : HomeValidator) (d : Call)
    → (accepts_home s.words ≡ false → call home_checker s d ≡ record { answer = Refused 3 0; state = s })
    × (accepts_home s.words ≡ true → (place : ℕ) → (call home_checker s d).answer ≡ Refused 3 place → ⊥)

-- ## A call with one record

-- what holds of it, whatever its bytes, in an accepted state: each refusal with its own number, 41 last, and a pass with the
-- state that follows
pub record HomeStateAnswers (s : HomeValidator) (b : List ℕ) : Type 0 where
  -- what does not read is refused 21
  pub unreadable : reading b ≡ Unreadable → call home_checker s (one b) ≡ record { answer = Refused 21 0; state = s }
  -- a record that 33, 22, 51, 23, 24, 25 or 32 refuses is refused with that number
  pub refuses_as : (r : Record) (n : ℕ) → reading b ≡ Read r → home_judge_record (home_view_of_state s) r ≡ suc n
      → call home_checker s (one b) ≡ record { answer = Refused (suc n) 0; state = s }
  -- any other is refused 41 where the table is full
  pub refuses_full : (r : Record) → reading b ≡ Read r → home_judge_record (home_view_of_state s) r ≡ 0
      → capacity ≤ length (home_view_of_state s).home.passed → call home_checker s (one b) ≡ record { answer = Refused 41 0; state = s }
  -- and else passes
  pub passes : (r : Record) → reading b ≡ Read r → home_judge_record (home_view_of_state s) r ≡ 0
      → length (home_view_of_state s).home.passed < capacity → (call home_checker s (one b)).answer ≡ Passed
  -- the state beside a pass is, seen as the rules' state, the one that follows
  pub gives : (r : Record) → reading b ≡ Read r → (call home_checker s (one b)).answer ≡ Passed
      → home_view_of_state (call home_checker s (one b)).state ≡ home_after (home_view_of_state s) (Read r)

-- in every state that the home validator accepts, and for every byte string
unfoldable pub HomeStatesAnswer : Type 0
HomeStatesAnswer =
    (s : HomeValidator) → accepts_home s.words ≡ true → (b : List ℕ) → HomeStateAnswers s b

-- DOCUMENT 02, U1: in every state that the home validator accepts, 22 and 51 tell which account of a home record that reads, handed in
-- alone, is not open (a list answers by its records in turn, below)
unfoldable pub HomeTellsAccount : Type 0
HomeTellsAccount =
    (s : HomeValidator) → accepts_home s.words ≡ true → (b : List ℕ) (r : Record) → reading b ≡ Read r → ledger_of r.kind ≡ Home
    → TellsAccount (home_accounts (home_view_of_state s)) r (call home_checker s (one b)).answer

-- and such a state holds no record with an account that is not open: it would be refused 3
unfoldable pub HomeHeldAccountsOpen : Type 0
HomeHeldAccountsOpen =
    (s : HomeValidator) → accepts_home s.words ≡ true
    → All (AccountsOpen (home_accounts (home_view_of_state s))) (home_view_of_state s).home.passed

-- DOCUMENT 02, U3: in every state that the home validator accepts, a sending that passes, handed in alone, costs its sender exactly its
-- amount and the charge, which the charge account gets
unfoldable pub HomeSendingsCostExactly : Type 0
HomeSendingsCostExactly =
    (s : HomeValidator) → accepts_home s.words ≡ true → (b : List ℕ) (r : Record) → reading b ≡ Read r → r.kind ≡ Sending Home
    → (call home_checker s (one b)).answer ≡ Passed
    → SendingCosts (home_view_of_state s).home (home_view_of_state (call home_checker s (one b)).state).home r

-- a call with a list answers by its records in turn; a refusal of any call hands back the state handed in
unfoldable pub HomeListsAndRefusals : Type 0
HomeListsAndRefusals = ListsInTurn home_checker × RefusedUnaltered home_checker

-- a call in any accepted state, reached by a run or not, hands back an accepted one
unfoldable pub HomeStatesStayAccepted : Type 0
HomeStatesStayAccepted =
    (s : HomeValidator) → accepts_home s.words ≡ true → (d : Call)
    → accepts_home (call home_checker s d).state.words ≡ true

-- ## Demand 3, second half

-- the state after calls from an opening
abbrev pub home_state_of_run : Tariff → List ℕ → ℕ → ℕ → List Call → HomeValidator
home_state_of_run tariff homes fars far_total ds = run home_checker (home_opened_state tariff homes fars far_total) ds

-- the records that passed in them
abbrev pub home_passed_of_run : Tariff → List ℕ → ℕ → ℕ → List Call → List (List ℕ)
home_passed_of_run tariff homes fars far_total ds = passed_records home_checker (home_opened_state tariff homes fars far_total) ds

-- what holds after the calls of a run
pub record HomeStateWithin (tariff : Tariff) (homes : List ℕ) (fars far_total : ℕ) (ds : List Call) : Type 0 where
  -- a further call with a home record or home list, up to the capacity with the records passed before, passes exactly when some far
  -- list makes it possible, for each way of splitting the far total over the far accounts
  pub exactly : All CallBytes ds → (d : Call) → CallBytes d → All HomeRecord (handed d)
      → length (home_passed_of_run tariff homes fars far_total ds) + length (handed d) ≤ capacity
      → (split : List ℕ) → length split ≡ fars → total split ≡ far_total
      → ((call home_checker (home_state_of_run tariff homes fars far_total ds) d).answer ≡ Passed)
      ↔ Possible (opened tariff homes split) (home_passed_of_run tariff homes fars far_total ds ++ handed d)
  -- at every beginning of the passed records, what was received is at most the far opening total and what was sent
  pub bounded : (xs ys : List (List ℕ)) → home_passed_of_run tariff homes fars far_total ds ≡ xs ++ ys
      → received (records_on Home xs) ≤ far_total + sent (records_on Home xs)
  -- an arrival among them is at most the far pool of the records before it
  pub each : (xs ys : List (List ℕ)) (b : List ℕ) (r : Record) → home_passed_of_run tariff homes fars far_total ds ≡ xs ++ b ∷ ys
      → reading b ≡ Read r → r.kind ≡ Receiving Home → r.amount ≤ far_pool_of far_total (records_on Home xs)
  -- the figures that the validator gives are the home total and the far pool worked out
  pub figures : home_figures_of (accepts_home (home_state_of_run tariff homes fars far_total ds).words)
      (home_state_of_run tariff homes fars far_total ds).words
      ≡ record {
        answer = Passed;
        home = total (home_view_of_state (home_state_of_run tariff homes fars far_total ds)).home.balances;
        pool = far_pool_of far_total (records_on Home (home_passed_of_run tariff homes fars far_total ds));
      }
  -- the state is, seen as the rules' state, the one that the rules' run reaches
  pub as_rules : home_view_of_state (home_state_of_run tariff homes fars far_total ds)
      ≡ run (home_validator capacity) (home_opened tariff homes fars far_total) ds
  -- every passed record is a home one
  pub home_records : All HomeRecord (home_passed_of_run tariff homes fars far_total ds)
  -- the table holds the passed records, in order
  pub table : (home_view_of_state (home_state_of_run tariff homes fars far_total ds)).home.passed
      ≡ records_on Home (home_passed_of_run tariff homes fars far_total ds)
  -- the state is accepted
  pub accepted : accepts_home (home_state_of_run tariff homes fars far_total ds).words ≡ true
  -- no call answers 3
  pub never_3 : (d : Call) (place : ℕ) → (call home_checker (home_state_of_run tariff homes fars far_total ds) d).answer ≡ Refused 3 place → ⊥

-- DEMAND 3, SECOND HALF, of the program's states: at every accepted opening and after every list of calls
unfoldable pub HomeStatesWithin : Type 0
HomeStatesWithin =
    (tariff : Tariff) (homes : List ℕ) (fars far_total : ℕ) → home_opening_refusal tariff homes fars far_total ≡ 0 → (ds : List Call)
    → HomeStateWithin tariff homes fars far_total ds

-- beside a refused opening stands a state that every call refuses with 3
unfoldable pub HomeZeroRefused : Type 0
HomeZeroRefused = (d : Call) → call home_checker home_zero_state d ≡ record { answer = Refused 3 0; state = home_zero_state }

-- ## The charges

-- DOCUMENT 02, U3, of runs: at every accepted opening and after every list of calls the charge account has what it opened with, what its
-- own records moved and exactly the charges of the passed sendings, and every other account what it opened with and what its own records
-- moved
unfoldable pub HomeChargesPaid : Type 0
HomeChargesPaid =
    (tariff : Tariff) (homes : List ℕ) (fars far_total : ℕ) → home_opening_refusal tariff homes fars far_total ≡ 0 → (ds : List Call)
    → AccountsAddUp (new_ledger tariff homes) (home_view_of_state (home_state_of_run tariff homes fars far_total ds)).home
    (records_on Home (home_passed_of_run tariff homes fars far_total ds))

-- ## The places left

-- what the validator gives for a state
abbrev pub home_places_left : HomeValidator → HomePlaces
home_places_left s = home_places_of (accepts_home s.words) s.words

-- what holds of it after the calls of a run
pub record HomePlacesLeftAfter (tariff : Tariff) (homes : List ℕ) (fars far_total : ℕ) (ds : List Call) : Type 0 where
  -- it is told
  pub told : (home_places_left (home_state_of_run tariff homes fars far_total ds)).answer ≡ answer 0 0
  -- with the passed records it makes the capacity
  pub with_passed : (home_places_left (home_state_of_run tariff homes fars far_total ds)).home
      + length (records_on Home (home_passed_of_run tariff homes fars far_total ds)) ≡ capacity

-- at every accepted opening and after every list of calls, the places left are the capacity less the passed records
unfoldable pub HomePlacesLeft : Type 0
HomePlacesLeft =
    (tariff : Tariff) (homes : List ℕ) (fars far_total : ℕ) → home_opening_refusal tariff homes fars far_total ≡ 0 → (ds : List Call)
    → HomePlacesLeftAfter tariff homes fars far_total ds

-- in every state that the home validator accepts, a record handed in alone that no other refusal stops is refused 41 exactly when no place
-- is left
unfoldable pub HomeFullWhenNoneLeft : Type 0
HomeFullWhenNoneLeft =
    (s : HomeValidator) → accepts_home s.words ≡ true → (b : List ℕ) (r : Record)
    → reading b ≡ Read r → home_judge_record (home_view_of_state s) r ≡ 0
    → ((call home_checker s (one b)).answer ≡ answer 41 0) ↔ ((home_places_left s).home ≡ 0)
