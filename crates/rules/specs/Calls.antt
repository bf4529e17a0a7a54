-- The calls of a validator with one record or with a list of records, and its runs (document 01, Refusals and Runs): the same for
-- both validators. A comment in brackets names the sentence of document 01 that a definition renders. Assumes nothing.
use Rattle.std.specs.Prelude.{ℕ, zero, suc, ◌≡◌, Bool, true, false, List, [], ◌∷◌, ◌++◌, length}
use Rattle.answers.specs.Answers.{answer, unless_refused}
use Rattle.answers.specs.Answers.{Answer}
use Rattle.answers.specs.Answers.{Passed, Refused}
use Rattle.ledgers.specs.Ledgers.{ledger_of}
use Rattle.records.specs.Records.{reading}
use Rattle.rules.specs.Lists.{cut}
use Rattle.rules.specs.Rules.{Far, Home, Ledger, Read, Reading, Record, Unreadable}
use Rattle.wire.specs.BigEndian.{Bytes}

-- ## Calls

-- a call hands in one record or a list of records, as bytes of any sort (Runs: what a run is)
pub data Call : Type 0 where
  one : List ℕ → Call
  list : List ℕ → Call

-- the records of a list's bytes, 32 each; fewer at the end are a record too (Refusals: short rest)
unfoldable pub records_in : List ℕ → List (List ℕ)
records_in b = cut (length b) 32 b

-- the records that a call hands in
abbrev pub handed : Call → List (List ℕ)
handed (one b) = b ∷ []
handed (list b) = records_in b

-- the bytes of a call are bytes, as those of every slice of u8 are
abbrev pub CallBytes : Call → Type 0
CallBytes (one b) = Bytes b
CallBytes (list b) = Bytes b

-- ## Validators

-- which states a validator accepts, its refusal of bytes (0: none), and the state once they have passed
pub record Checker (S : Type 0) : Type 0 where
  pub accepts : S → Bool
  pub judge : S → List ℕ → ℕ
  pub after : S → List ℕ → S

-- the answer, with the state beside it
pub record Result (S : Type 0) : Type 0 where
  pub answer : Answer
  pub state : S

-- the records that a call passed: all that it handed in, or none
abbrev pub if_passed : Answer → List (List ℕ) → List (List ℕ)
if_passed Passed bs = bs
if_passed (Refused n place) bs = []

module _ {S : Type 0} where
  -- one record: a refusal has place 0 and leaves the state (Refusals: a refused record)
  unfoldable pub call_one : Checker S → S → List ℕ → Result S
  call_one c s b = record { answer = answer (c.judge s b) 0; state = unless_refused (c.judge s b) (c.after s b) s }

  -- no refusal of the record at index i: what the rest of the list gives; else that refusal and the state from before the call
  abbrev pub or_stop : ℕ → ℕ → S → Result S → Result S
  or_stop zero i start rest = rest
  or_stop (suc n) i start rest = record { answer = answer (suc n) i; state = start }

  -- a list from its record at index i on, up to the first refusal (Refusals: a call with a list)
  unfoldable pub call_list : Checker S → S → ℕ → S → List (List ℕ) → Result S
  call_list c start i s [] = record { answer = answer 0 0; state = s }
  call_list c start i s (b ∷ bs) = or_stop (c.judge s b) i start (call_list c start (suc i) (c.after s b) bs)

  -- a call in an accepted state
  abbrev pub call_by : Checker S → S → Call → Result S
  call_by c s (one b) = call_one c s b
  call_by c s (list b) = call_list c s 0 s (records_in b)

  -- 3, once and before all else, at place 0
  abbrev pub if_accepted : Bool → S → Result S → Result S
  if_accepted true s r = r
  if_accepted false s r = record { answer = answer 3 0; state = s }

  -- what a call answers and hands back
  unfoldable pub call : Checker S → S → Call → Result S
  call c s d = if_accepted (c.accepts s) s (call_by c s d)

  -- ## Runs

  -- the state after the calls, each with the state of the one before (Runs: each call gets)
  unfoldable pub run : Checker S → S → List Call → S
  run c s [] = s
  run c s (d ∷ ds) = run c (call c s d).state ds

  -- the records of all calls that passed, in order (Runs: the passed records)
  unfoldable pub passed_records : Checker S → S → List Call → List (List ℕ)
  passed_records c s [] = []
  passed_records c s (d ∷ ds) = if_passed (call c s d).answer (handed d) ++ passed_records c (call c s d).state ds

  -- ## What holds of every validator

  -- each record passes in turn
  unfoldable pub InTurn : Checker S → S → List (List ℕ) → Type 0
  InTurn c s [] = Unit {0}
  InTurn c s (b ∷ bs) = (c.judge s b ≡ 0) × InTurn c (c.after s b) bs

  -- the state after records
  unfoldable pub state_after : Checker S → S → List (List ℕ) → S
  state_after c s [] = s
  state_after c s (b ∷ bs) = state_after c (c.after s b) bs

  -- what holds of a call with a list in an accepted state: where its records pass in turn it passes, with the state after the
  -- last; where one of them does not, it answers with that refusal and its index, and with the state from before the call
  pub record ListAnswers (c : Checker S) (s : S) (b : List ℕ) : Type 0 where
    pub passes : InTurn c s (records_in b) → call c s (list b) ≡ record { answer = Passed; state = state_after c s (records_in b) }
    pub stops : (xs : List (List ℕ)) (y : List ℕ) (ys : List (List ℕ)) (n : ℕ) → records_in b ≡ xs ++ y ∷ ys → InTurn c s xs
        → c.judge (state_after c s xs) y ≡ suc n → call c s (list b) ≡ record { answer = Refused (suc n) (length xs); state = s }

  -- so it is in every accepted state and for all bytes
  unfoldable pub ListsInTurn : Checker S → Type 0
  ListsInTurn c = (s : S) → c.accepts s ≡ true → (b : List ℕ) → ListAnswers c s b

  -- whatever the state and the call, a refusal hands back the state handed in (Refusals: unaltered, from before the call)
  unfoldable pub RefusedUnaltered : Checker S → Type 0
  RefusedUnaltered c = (s : S) (d : Call) (n place : ℕ) → (call c s d).answer ≡ Refused n place → (call c s d).state ≡ s

  -- a call in any accepted state hands back an accepted one
  unfoldable pub KeepsAccepted : Checker S → Type 0
  KeepsAccepted c = (s : S) → c.accepts s ≡ true → (d : Call) → c.accepts (call c s d).state ≡ true

-- ## Passed records, read

-- r, where its ledger is l
abbrev pub if_on : Ledger → Record → Ledger → List Record
if_on Home r Home = r ∷ []
if_on Home r Far = []
if_on Far r Home = []
if_on Far r Far = r ∷ []

-- what was read, where it is a record of ledger l
abbrev pub read_on : Ledger → Reading → List Record
read_on l Unreadable = []
read_on l (Read r) = if_on l r (ledger_of r.kind)

-- the records of ledger l among passed ones, from which in flight and the far pool are worked out (Runs: worked out from these)
unfoldable pub records_on : Ledger → List (List ℕ) → List Record
records_on l [] = []
records_on l (b ∷ bs) = read_on l (reading b) ++ records_on l bs
