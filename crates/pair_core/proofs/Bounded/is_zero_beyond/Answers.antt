-- A ledger's balances beyond its accounts lie within the words. Assumes nothing.
use Rattle.std.proofs.Common.{arith}
use Rattle.pair_core.proofs.Bounded.is_zero_beyond.Goals as goal
use Rattle.pair_core.proofs.Ledgers.{LedgerFits, ledger_fits}
use Rattle.pair_core.specs.Layout.{zero_beyond}

-- the ledger's bounds
fits : (c : goal.After-balances_word) → LedgerFits c.args.self.words.now c.args.l
fits c = ledger_fits c.args.self.words.now c.args.self.in_bounds.bounded c.args.l

pub overflow_add-balances_word : goal.overflow_add-balances_word
overflow_add-balances_word c = omega (arith, (fits c).accounts, c.balances_word.ensures.1, c.accounts_on-accounts.ensures)

pub overflow_sub-accounts : goal.overflow_sub-accounts
overflow_sub-accounts c = omega (arith, (fits c).accounts, c.accounts_on-accounts.ensures)

pub are_zero-requires : goal.are_zero-requires
are_zero-requires c =
    omega (arith, c.args.self.in_bounds.long, (fits c).accounts, c.balances_word.ensures.1, c.accounts_on-accounts.ensures)

pub returns : goal.returns
unfolding zero_beyond
returns c = rw (c.balances_word.ensures.0, c.accounts_on-accounts.ensures) at c.are_zero.ensures
