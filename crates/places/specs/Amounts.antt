-- What a passed record takes from the balances of its ledger and gives to them. Assumes nothing.
use Rattle.std.specs.Prelude.{ℕ, ◌+◌}
use Rattle.ledgers.specs.declared.Kind.{Kind}
use Rattle.ledgers.specs.declared.Kind.TheVariants.{Local, Receiving, Sending}
use Rattle.tariffs.specs.Tariffs.{charge}

-- what a record of a kind takes from its ledger, all accounts together
abbrev pub taken_by : Kind → ℕ → ℕ
taken_by (Local l) amount = amount
taken_by (Sending l) amount = amount
taken_by (Receiving l) amount = 0

-- what it gives to it
abbrev pub given_by : Kind → ℕ → ℕ
given_by (Local l) amount = amount
given_by (Sending l) amount = 0
given_by (Receiving l) amount = amount

-- the charge that it takes from its sender beside that, and gives to the charge account
abbrev pub charge_by : ℕ → Kind → ℕ → ℕ
charge_by rate (Local l) amount = 0
charge_by rate (Sending l) amount = charge rate amount
charge_by rate (Receiving l) amount = 0

-- what it takes from its sender's balance
abbrev pub debit_by : ℕ → Kind → ℕ → ℕ
debit_by rate k amount = taken_by k amount + charge_by rate k amount

-- what it gives to its payee's
abbrev pub credit_by : ℕ → Kind → ℕ → ℕ
credit_by rate k amount = given_by k amount + charge_by rate k amount

-- the account that it gives to: its receiver, or of a sending the charge account
abbrev pub payee_by : ℕ → Kind → ℕ → ℕ
payee_by account (Local l) receiver = receiver
payee_by account (Sending l) receiver = account
payee_by account (Receiving l) receiver = receiver
