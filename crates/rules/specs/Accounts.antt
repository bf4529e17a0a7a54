-- Which account of a record is not open (document 02, U1): what 22 and 51 say of the record that got them. Assumes nothing.
use Rattle.std.specs.Prelude.{◌<◌, ◌≤◌, ℕ, ◌↔◌, ◌≡◌}
use Rattle.answers.specs.Answers.{Answer}
use Rattle.answers.specs.Answers.{Refused}
use Rattle.ledgers.specs.Ledgers.{receiver_ledger, sender_ledger}
use Rattle.rules.specs.Rules.{Ledger, Record}

-- with each ledger's number of accounts, what the answer to a call with one record says of the record's accounts; the sender of an
-- arrival and the receiver of a sending are on the other ledger
pub record TellsAccount (accounts : Ledger → ℕ) (r : Record) (a : Answer) : Type 0 where
  -- 22 exactly when the sender's account is not open
  pub sender : (a ≡ Refused 22 0) ↔ (accounts (sender_ledger r.kind) ≤ r.sender)
  -- 51 exactly when the sender's is open and the receiver's is not
  pub receiver : (a ≡ Refused 51 0)
      ↔ ((r.sender < accounts (sender_ledger r.kind)) × (accounts (receiver_ledger r.kind) ≤ r.receiver))

-- both accounts of a record are open
pub record AccountsOpen (accounts : Ledger → ℕ) (r : Record) : Type 0 where
  pub sender : r.sender < accounts (sender_ledger r.kind)
  pub receiver : r.receiver < accounts (receiver_ledger r.kind)
