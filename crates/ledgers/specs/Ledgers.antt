-- The two ledgers and the three kinds of record (document 01, "The record"). Assumes nothing.
use Rattle.std.specs.Prelude.{ℕ, ◌<◌, ◌≡◌, ◌≤◌, cond, eqb, Result, MatchResult}
pub use Rattle.ledgers.specs.declared.Ledger.{Ledger}
pub use Rattle.ledgers.specs.declared.Ledger.TheVariants.{Far, Home}
pub use Rattle.ledgers.specs.declared.NoLedger.{NoLedger}
pub use Rattle.ledgers.specs.declared.Kind.{Kind}
pub use Rattle.ledgers.specs.declared.Kind.TheVariants.{Local, Receiving, Sending}

-- ## The ledgers

-- each ledger knows the other one
abbrev pub counterpart : Ledger → Ledger
counterpart Home = Far
counterpart Far = Home

-- byte 1: 0 home, 1 far
abbrev pub ledger_byte : Ledger → ℕ
ledger_byte Home = 0
ledger_byte Far = 1

-- the ledger with a byte, which is 0 or 1
abbrev pub ledger_at : ℕ → Ledger
ledger_at n = cond (eqb n 0) Home Far

-- a byte read as a ledger's: that ledger, or the byte where it is no ledger's
abbrev pub LedgerRead : ℕ → Result Ledger NoLedger → Type 0
LedgerRead byte r = MatchResult r (λ l. (byte ≤ 1) × (l ≡ ledger_at byte)) (λ e. (1 < byte) × (e.0 ≡ byte))

-- ## The kinds

-- byte 0: 1 local, 2 sending, 3 arrival
abbrev pub kind_byte : Kind → ℕ
kind_byte (Local l) = 1
kind_byte (Sending l) = 2
kind_byte (Receiving l) = 3

-- the kind with a byte, which is 1, 2 or 3
abbrev pub kind_at : ℕ → Ledger → Kind
kind_at n l = cond (eqb n 1) (Local l) (cond (eqb n 2) (Sending l) (Receiving l))

-- the ledger that holds the record
abbrev pub ledger_of : Kind → Ledger
ledger_of (Local l) = l
ledger_of (Sending l) = l
ledger_of (Receiving l) = l

-- a local's two accounts are on the record's ledger; a sending's sender is on it and its receiver on the other one; an
-- arrival's receiver is on it and its sender on the other one
abbrev pub sender_ledger : Kind → Ledger
sender_ledger (Local l) = l
sender_ledger (Sending l) = l
sender_ledger (Receiving l) = counterpart l

-- the receiver's likewise
abbrev pub receiver_ledger : Kind → Ledger
receiver_ledger (Local l) = l
receiver_ledger (Sending l) = counterpart l
receiver_ledger (Receiving l) = l
