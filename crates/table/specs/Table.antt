-- A ledger's table in the words of a state: the record at place i is kept as the four words of its 32 bytes, from word `from + 4 * i` on,
-- and is what they read as. Published contracts cite the first two parts alone. Assumes nothing.
use Rattle.std.specs.Prelude.{◌≡◌, ℕ, ◌+◌, ◌*◌, ◌%◌, ◌^◌, ◌<◌, ◌≤◌, length, Bool, false, cond, not, ◌&&◌, ◌||◌, List, [], ◌∷◌, take, drop, ◌==◌, slice_index, slice_set}
use Rattle.ledgers.specs.Ledgers.{kind_at, ledger_at, ledger_byte}
use Rattle.ledgers.specs.Limits.{account_limit, capacity}
use Rattle.ledgers.specs.declared.Ledger.{Ledger}
use Rattle.ledgers.specs.declared.Ledger.TheVariants.{Far, Home}
use Rattle.places.specs.ExactSums.{Halves}
use Rattle.places.specs.LedgerBalances.{moved_at}
use Rattle.places.specs.NumberIndex.{Chains, chain_count}
use Rattle.places.specs.OverPlaces.{any_at, list_at, sum_at}
use Rattle.places.specs.declared.exact_sums.Flows.{Flows}
use Rattle.records.specs.Records.{reading_words, record_in, within}
use Rattle.records.specs.Records.{Reading}
use Rattle.records.specs.Records.{Read, Unreadable}
use Rattle.records.specs.declared.Record.{Record}
use Rattle.records.specs.declared.Words.{Words}
use Rattle.rules.specs.Lists.{same_truth}
use Rattle.rules.specs.PairValidator.{held_allowed, stands_under}
use Rattle.rules.specs.Rules.{LedgerState, Tariff, is_receiving}
use Rattle.wire.specs.BigEndian.{every}

-- ## The records

-- the words of the record at a place
abbrev pub words_at : List ℕ → ℕ → ℕ → Words
words_at s from i =
    record {
      head = slice_index s (from + 4 * i);
      number = slice_index s (from + 4 * i + 1);
      amount = slice_index s (from + 4 * i + 2);
      tail = slice_index s (from + 4 * i + 3);
    }

-- the record at a place
abbrev pub record_at : List ℕ → ℕ → ℕ → Record
record_at s from i = record_in (words_at s from i)

-- the records at the first n places, as the rules see them
unfoldable pub records_from : List ℕ → ℕ → ℕ → List Record
records_from s from n = list_at (record_at s from) 0 n

-- ## A ledger

-- the ledger with this tariff whose balances and whose held records stand from two words on, with as many of each as it has
unfoldable pub ledger_in : Tariff → List ℕ → ℕ → ℕ → ℕ → ℕ → LedgerState
ledger_in t s balances accounts records count =
    record { balances = take accounts (drop balances s); passed = records_from s records count; tariff = t }

-- the tariff in two words: the rate, then the charge account
abbrev pub tariff_at : List ℕ → ℕ → Tariff
tariff_at s at = record { rate = slice_index s at; account = slice_index s (at + 1) }

-- the words with a record's own from a word on
abbrev pub with_words : List ℕ → ℕ → Words → List ℕ
with_words s at w =
    slice_set (slice_set (slice_set (slice_set s at w.head) (at + 1) w.number) (at + 2) w.amount) (at + 3) w.tail

-- the words once a record has passed on the ledger with this tariff whose balances stand from a word on, with the record's own from word
-- `at` on
unfoldable pub stored : Tariff → List ℕ → ℕ → ℕ → Words → Record → List ℕ
stored t s balances at w r = with_words (moved_at t s balances r) at w

-- ## For inner functions: refusal 3 of one record

-- the number of accounts of each ledger, with those of a ledger and of its counterpart
abbrev pub accounts_by : Ledger → ℕ → ℕ → Ledger → ℕ
accounts_by Home own other Home = own
accounts_by Home own other Far = other
accounts_by Far own other Home = other
accounts_by Far own other Far = own

-- a ledger may hold what was read: 21, 22, 51 and 23 would not refuse it, and it is a record of that ledger (Refusals: 3, a held
-- record)
abbrev pub may_hold : Ledger → (Ledger → ℕ) → Reading → Bool
may_hold l accounts Unreadable = false
may_hold l accounts (Read r) = stands_under l r && held_allowed accounts r

-- it may hold what stands at a place
abbrev pub may_hold_at : List ℕ → ℕ → Ledger → (Ledger → ℕ) → ℕ → Bool
may_hold_at s from l accounts i = may_hold l accounts (reading_words (words_at s from i))

-- ## For inner functions: the same by limits

-- of each kind, a local first, the head of a record of the ledger with no accounts yet; of no kind 0
abbrev pub head_bases : ℕ → List ℕ
head_bases l = 0 ∷ (2 ^ 56 + l * 2 ^ 48) ∷ (2 * 2 ^ 56 + l * 2 ^ 48) ∷ (3 * 2 ^ 56 + l * 2 ^ 48) ∷ []

-- of each kind how far above it a head is whose sender is the first account that is not open
abbrev pub sender_limits : ℕ → ℕ → List ℕ
sender_limits own other = 0 ∷ own * 2 ^ 32 ∷ own * 2 ^ 32 ∷ other * 2 ^ 32 ∷ []

-- of each kind the first receiver's account that is not open
abbrev pub receiver_limits : ℕ → ℕ → List ℕ
receiver_limits own other = 0 ∷ own ∷ other ∷ own ∷ []

-- the arrays of limits of a ledger, for its own number of accounts and the other ledger's
abbrev pub LimitsOf : Ledger → ℕ → ℕ → List ℕ → List ℕ → List ℕ → Type 0
LimitsOf l own other bases senders receivers =
    (own ≤ account_limit)
    × (other ≤ account_limit)
    × (bases ≡ head_bases (ledger_byte l))
    × (senders ≡ sender_limits own other)
    × (receivers ≡ receiver_limits own other)

-- ## For inner functions: numbers

-- the number of the record at a place
abbrev pub number_at : List ℕ → ℕ → ℕ → ℕ
number_at s from i = slice_index s (from + 4 * i + 1)

-- the record at a place has number x
abbrev pub numbered_at : ℕ → List ℕ → ℕ → ℕ → Bool
numbered_at x s from i = x == number_at s from i

-- the head of the record at a place
abbrev pub head_at : List ℕ → ℕ → ℕ → ℕ
head_at s from i = slice_index s (from + 4 * i)

-- the record with a head is an arrival: its kind is neither 1 nor 2
abbrev pub arrival_in : ℕ → Bool
arrival_in head = is_receiving (kind_at (within 0 1 head) (ledger_at (within 1 1 head)))

-- the record at a place has number x, and is an arrival or not as the test says
abbrev pub used_at : Bool → ℕ → List ℕ → ℕ → ℕ → Bool
used_at arrival x s from i = same_truth arrival (arrival_in (head_at s from i)) && numbered_at x s from i

-- the records at two places have one number, and both are arrivals or neither is
abbrev pub shared_at : List ℕ → ℕ → ℕ → ℕ → Bool
shared_at s from i = used_at (arrival_in (head_at s from i)) (number_at s from i) s from

-- the elements of the index of a ledger's numbers: the heads of the chains, then the places
abbrev pub index_length : ℕ
index_length = chain_count + capacity

-- the index of the n numbers, from element `base` on: the heads of the chains, and after them of each place the one before it in its chain
abbrev pub IndexOf : List ℕ → ℕ → List ℕ → ℕ → ℕ → Type 0
IndexOf s from index base n =
    Chains (number_at s from) (λ (h : ℕ). slice_index index (base + h)) (λ (k : ℕ). slice_index index (base + chain_count + k)) n

-- n records from a word on, and the index of their numbers from an element on
abbrev pub Indexed : List ℕ → ℕ → ℕ → List ℕ → ℕ → Type 0
Indexed s from n index base =
    (from + 4 * n ≤ length s) × (base + chain_count + n ≤ length index) × IndexOf s from index base n

-- the index of no number: its elements are zero
abbrev pub EmptyIndex : List ℕ → ℕ → Type 0
EmptyIndex index base = (k : ℕ) → k < index_length → slice_index index (base + k) ≡ 0

-- the index with the number x of place n more
abbrev pub with_number : List ℕ → ℕ → ℕ → ℕ → List ℕ
with_number index base n x =
    slice_set (slice_set index (base + chain_count + n) (slice_index index (base + x % chain_count))) (base + x % chain_count) (n + 1)

-- ## For inner functions: arrivals and their sendings

-- the amount of the record at a place
abbrev pub amount_at : List ℕ → ℕ → ℕ → ℕ
amount_at s from i = slice_index s (from + 4 * i + 2)

-- the head of an arrival's sending, by the byte of the ledger that holds the sending and the arrival's own head
abbrev pub sending_head : ℕ → ℕ → ℕ
sending_head o head = 2 * 2 ^ 56 + o * 2 ^ 48 + head % 2 ^ 48

-- the record at a place has a number, a head and an amount
unfoldable pub sent_at : ℕ → ℕ → ℕ → List ℕ → ℕ → ℕ → Bool
sent_at number head amount s from i =
    every ((number == number_at s from i) ∷ (head == head_at s from i) ∷ (amount == amount_at s from i) ∷ [])

-- words are of no arrival, or its sending is one of the n records from a word on, of the ledger with byte o
unfoldable pub backed_by : List ℕ → ℕ → ℕ → ℕ → Words → Bool
backed_by s o others n w =
    not (within 0 1 w.head == 3) || any_at (sent_at w.number (sending_head o w.head) w.amount s others) 0 n

-- those at a place
abbrev pub backed_at : List ℕ → ℕ → ℕ → ℕ → ℕ → ℕ → Bool
backed_at s from o others n i = backed_by s o others n (words_at s from i)

-- the amount in words where their kind is a given byte
abbrev pub flow_by : ℕ → Words → ℕ
flow_by kind w = cond (within 0 1 w.head == kind) w.amount 0

-- of those at a place
abbrev pub flow_at : ℕ → List ℕ → ℕ → ℕ → ℕ
flow_at kind s from i = flow_by kind (words_at s from i)

-- what m records sent and received
pub record FlowsAt (s : List ℕ) (from m : ℕ) (f : Flows) : Type 0 where
  pub sent : Halves (sum_at (flow_at 2 s from) 0 m) m f.sent.high f.sent.low
  pub received : Halves (sum_at (flow_at 3 s from) 0 m) m f.received.high f.received.low
