-- Refusals by the balances of a list, and those of a record in order, as the rules say. Assumes nothing.
use Rattle.wire.proofs.Prelude.{Bool, List, ◌∙◌, ◌≡◌, arith, drop, sym, take, ℕ}
use Rattle.answers.specs.Answers.{or_else}
use Rattle.ledgers.specs.Ledgers.{receiver_ledger, sender_ledger}
use Rattle.ledgers.specs.Limits.{capacity}
use Rattle.places.proofs.PassedRecord.{balance_part}
use Rattle.places.specs.Amounts.{debit_by}
use Rattle.places.specs.LedgerBalances.{first_by, funds_at}
use Rattle.rules.proofs.Refusals.{first_else}
use Rattle.rules.specs.Lists.{any}
use Rattle.rules.specs.PairValidator.{room_refusal}
use Rattle.rules.specs.Rules.{Kind, Ledger, LedgerState, Local, Receiving, Record, Sending, clashes, debit, first_refusal, funds_refusal}
use Rattle.rules.specs.Rules.{Tariff}

-- the refusals of a record in order, 41 last, from those that were worked out
pub judged_by : (accounts : Ledger → ℕ) (passed : List Record) (r : Record) (x : ℕ) {senders receivers last full later n : ℕ} {taken : Bool}
    → senders ≡ accounts (sender_ledger r.kind) → receivers ≡ accounts (receiver_ledger r.kind) → last ≡ x
    → full ≡ room_refusal capacity passed → later ≡ or_else last full → taken ≡ any (clashes r) passed
    → n ≡ first_by senders receivers r taken later → n ≡ or_else (first_refusal accounts passed r x) (room_refusal capacity passed)
unfolding first_refusal first_by
judged_by accounts passed r x es ev el eu ea et h =
    h ∙ rw (es, ev, ea, el, eu, et) (sym (first_else accounts passed r x (room_refusal capacity passed)))

-- what a record takes from its sender, by the rules
debit_by_lem : (t : Tariff) (r : Record) (k : Kind) → debit t r k ≡ debit_by t.rate k r.amount
debit_by_lem t r (Local l) = omega arith
debit_by_lem t r (Sending l) = omega arith
debit_by_lem t r (Receiving l) = omega arith

-- 25 of a part of the balances
pub funds_at_lem : (s : LedgerState) (b : List ℕ) (from n : ℕ) (r : Record) → s.balances ≡ take n (drop from b)
    → funds_refusal s r r.kind ≡ funds_at b from n s.tariff.rate r
unfolding funds_refusal funds_at
funds_at_lem s b from n r h = rw (h, balance_part b from n r.sender, debit_by_lem s.tariff r r.kind)
