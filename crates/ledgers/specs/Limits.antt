-- The limits of ledgers and amounts (document 01). Assumes nothing.
use Rattle.std.specs.Prelude.{ℕ, ◌-◌, ◌^◌}

-- the most accounts of a ledger
abbrev pub account_limit : ℕ
account_limit = 56

-- the passed records that a validator holds of a ledger (document 01: places)
abbrev pub capacity : ℕ
capacity = 512

-- the greatest amount, and the greatest supply (document 01: stake, all accounts together)
abbrev pub max_amount : ℕ
max_amount = 2 ^ 63 - 1
