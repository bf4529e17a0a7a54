-- The rules of document 01 (Rules of the pair book) as document 02 alters them (U1 to U3), over balances and passed records, with no table
-- limit. A comment in brackets names the sentence of document 01 that a definition renders, and the line of PRIViLEDGE D3.2's
-- Algorithm 2 that it comes from. Where the two differ document 01 decides: it counts numbers by ledger and tests accounts. Assumes
-- nothing.
use Rattle.std.specs.Prelude.{ℕ, ◌+◌, ◌≡◌, Bool, true, false, not, cond, ◌&&◌, List, [], ◌∷◌, ◌++◌, eqb, ltb, leb, length, get_or}
use Rattle.answers.specs.Answers.{refuse}
use Rattle.ledgers.specs.Ledgers.{counterpart, ledger_of, receiver_ledger, sender_ledger}
use Rattle.records.specs.Records.{reading, reading_refusal}
use Rattle.rules.specs.Lists.{any, lowered, raised, same_truth, sum}
use Rattle.tariffs.specs.Tariffs.{charge, cost, free}
use Rattle.wire.specs.BigEndian.{every}
pub use Rattle.ledgers.specs.declared.Ledger.{Ledger}
pub use Rattle.ledgers.specs.declared.Ledger.TheVariants.{Far, Home}
pub use Rattle.ledgers.specs.declared.Kind.{Kind}
pub use Rattle.ledgers.specs.declared.Kind.TheVariants.{Local, Receiving, Sending}
pub use Rattle.records.specs.declared.Record.{Record}
pub use Rattle.records.specs.Records.{Reading}
pub use Rattle.records.specs.Records.{Read, Unreadable}
pub use Rattle.tariffs.specs.declared.Tariff.{Tariff}

-- ## The state

-- a ledger: the balances of its accounts, numbered from 0, the records passed on it, in order, and what is taken on its sendings
-- (document 02, U3)
pub record LedgerState : Type 0 where
  pub balances : List ℕ
  pub passed : List Record
  pub tariff : Tariff

-- both ledgers
pub record PairState : Type 0 where
  pub home : LedgerState
  pub far : LedgerState

-- the state of a ledger
abbrev pub state_of : Ledger → PairState → LedgerState
state_of Home p = p.home
state_of Far p = p.far

-- both ledgers, one of them in a new state
abbrev pub with_state : Ledger → LedgerState → PairState → PairState
with_state Home s p = record { home = s; far = p.far }
with_state Far s p = record { home = p.home; far = s }

-- the number of accounts of a ledger
abbrev pub accounts_of : PairState → Ledger → ℕ
accounts_of p l = length (state_of l p).balances

-- a ledger with this tariff and these balances on which no record has passed
abbrev pub new_ledger : Tariff → List ℕ → LedgerState
new_ledger tariff balances = record { balances = balances; passed = []; tariff = tariff }

-- both ledgers at an opening (Rules: an opening; Algorithm 2, line 2); nothing is taken on far's sendings (document 02, U3)
abbrev pub opened : Tariff → List ℕ → List ℕ → PairState
opened tariff homes fars = record { home = new_ledger tariff homes; far = new_ledger free fars }

-- ## The kinds

-- a record that leaves its ledger for the other one
abbrev pub is_sending : Kind → Bool
is_sending (Local l) = false
is_sending (Sending l) = true
is_sending (Receiving l) = false

-- a record that comes from the other ledger (document 01: arrival)
abbrev pub is_receiving : Kind → Bool
is_receiving (Local l) = false
is_receiving (Sending l) = false
is_receiving (Receiving l) = true

-- ## The refusals, in order

-- two records of one ledger of which only one may pass: they have one number, and both are arrivals or neither is; a ledger counts the
-- numbers of arrivals apart from those of locals and sendings (Rules: number; document 02, U2)
unfoldable pub clashes : Record → Record → Bool
clashes r x = same_truth (is_receiving r.kind) (is_receiving x.kind) && eqb r.number x.number

-- what a record takes from its sender: a local its amount, a sending its amount and the charge (document 02, U3)
abbrev pub debit : Tariff → Record → Kind → ℕ
debit t r (Local l) = r.amount
debit t r (Sending l) = cost t.rate r.amount
debit t r (Receiving l) = 0

-- what a local or arrival gives to its receiver
abbrev pub credit : Record → ℕ
credit r = r.amount

-- x is the sending of the arrival r: the same in all fields but kind and verdict (Rules: an arrival has; Algorithm 2, line 25)
unfoldable pub matches : Record → Record → Bool
matches r x =
    every
    (is_sending x.kind
    ∷ eqb r.number x.number
    ∷ eqb r.sender x.sender
    ∷ eqb r.receiver x.receiver
    ∷ eqb r.amount x.amount
    ∷ []
    )

-- with each ledger's number of accounts and the records passed on the record's ledger: a sender's account that is not open (22), a
-- receiver's that is not (51; document 02, U1), a bad signature (23; Algorithm 2, line 7), a clash (24; lines 12 and 21, which count
-- over both ledgers) (Rules: accounts, verdict, number)
unfoldable pub first_refusal : (Ledger → ℕ) → List Record → Record → ℕ → ℕ
first_refusal accounts passed r later =
    refuse (leb (accounts (sender_ledger r.kind)) r.sender) 22
    (refuse (leb (accounts (receiver_ledger r.kind)) r.receiver) 51
    (refuse (not r.verified) 23
    (refuse (any (clashes r) passed) 24
    later)))

-- the sender's balance is too small for what is taken, of a sending with the charge (Rules: a local or sending; 25; Algorithm 2, line 16;
-- document 02, U3)
unfoldable pub funds_refusal : LedgerState → Record → Kind → ℕ
funds_refusal s r k = refuse (ltb (get_or s.balances r.sender 0) (debit s.tariff r k)) 25 0

-- no sending of the other ledger matches (Rules: an arrival has; 31; Algorithm 2, line 26)
unfoldable pub match_refusal : List Record → Record → ℕ
match_refusal passed r = refuse (not (any (matches r) passed)) 31 0

-- then 25 or 31, by kind
abbrev pub last_refusal : PairState → Record → Kind → ℕ
last_refusal p r (Local l) = funds_refusal (state_of l p) r (Local l)
last_refusal p r (Sending l) = funds_refusal (state_of l p) r (Sending l)
last_refusal p r (Receiving l) = match_refusal (state_of (counterpart l) p).passed r

-- the refusal of a record that was read, or 0 (Rules: a record passes if)
unfoldable pub judge : PairState → Record → ℕ
judge p r = first_refusal (accounts_of p) (state_of (ledger_of r.kind) p).passed r (last_refusal p r r.kind)

-- ## What a passed record does

-- a local lowers the sender's balance and then raises the receiver's, a sending does the first and an arrival the second (Rules:
-- takes and gives; Algorithm 2, lines 32 and 37); a sending then raises the balance of the charge account, which may be its sender, by the
-- charge (document 02, U3)
abbrev pub moved : Tariff → List ℕ → Record → Kind → List ℕ
moved t balances r (Local l) = raised (lowered balances r.sender (debit t r (Local l))) r.receiver (credit r)
moved t balances r (Sending l) = raised (lowered balances r.sender (debit t r (Sending l))) t.account (charge t.rate r.amount)
moved t balances r (Receiving l) = raised balances r.receiver (credit r)

-- a ledger once a record has passed on it (Algorithm 2, line 39)
abbrev pub held : LedgerState → Record → LedgerState
held s r =
    record { balances = moved s.tariff s.balances r r.kind; passed = s.passed ++ r ∷ []; tariff = s.tariff }

-- both ledgers once a record has passed
unfoldable pub after : PairState → Record → PairState
after p r = with_state (ledger_of r.kind) (held (state_of (ledger_of r.kind) p) r) p

-- ## Bytes

-- what does not read is refused before anything else (Rules: form; 21)
abbrev pub judge_reading : PairState → Reading → ℕ
judge_reading p x = reading_refusal (judge p) x

-- what does not read leaves both ledgers as they are
abbrev pub after_reading : PairState → Reading → PairState
after_reading p Unreadable = p
after_reading p (Read r) = after p r

-- the refusal of bytes, or 0
unfoldable pub judge_bytes : PairState → List ℕ → ℕ
judge_bytes p b = judge_reading p (reading b)

-- both ledgers once bytes have passed
unfoldable pub after_bytes : PairState → List ℕ → PairState
after_bytes p b = after_reading p (reading b)

-- each record of a list passes in the state that those before it leave; there is no 41 (Runs: it passes the rules if)
unfoldable pub Passes : PairState → List (List ℕ) → Type 0
Passes p [] = Unit {0}
Passes p (b ∷ bs) = (judge_bytes p b ≡ 0) × Passes (after_bytes p b) bs

-- ## In flight

-- a record of the list is an arrival with the number
unfoldable pub arrived : ℕ → List Record → Bool
arrived n records = any (λ (r : Record). is_receiving r.kind && eqb n r.number) records

-- what a record adds to what is in flight, with the records passed on the other ledger
abbrev pub flight_by : List Record → Record → ℕ
flight_by others r = cond (is_sending r.kind && not (arrived r.number others)) r.amount 0

-- what is in flight from one ledger: its sendings of numbers that the other one has not received (Rules: in flight)
unfoldable pub flight : List Record → List Record → ℕ
flight records others = sum (flight_by others) records

-- the same from both ledgers, with the records of each (document 01: in flight)
abbrev pub flight_both : List Record → List Record → ℕ
flight_both homes fars = flight homes fars + flight fars homes

-- the same of a state
unfoldable pub in_flight : PairState → ℕ
in_flight p = flight_both p.home.passed p.far.passed
