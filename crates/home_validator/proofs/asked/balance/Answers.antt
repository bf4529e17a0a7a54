-- `home_validator::asked::balance`: the accounts stand within the words. Assumes nothing.
use Rattle.calls.proofs.Handing.{accepted_of}
use Rattle.home_core.specs.Layout.{home_accounts_of, home_balances_word}
use Rattle.home_validator.proofs.HomeTotals.{home_balance_passed, home_on_ledger}
use Rattle.wire.proofs.Prelude.{◌+◌, ◌-◌, ◌∙◌, ◌≡◌, arith, sym}
use Rattle.home_validator.proofs.asked.balance.Goals as goal

pub overflow_add-open : goal.overflow_add-open
overflow_add-open c = omega (arith, home_on_ledger _ (accepted_of 2 c.accepts.ensures c.in_ok-refuse_if.ensures))

pub slice_bounds-balance_among-end : goal.slice_bounds-balance_among-end
slice_bounds-balance_among-end c = omega (arith, home_on_ledger _ (accepted_of 2 c.accepts.ensures c.in_ok-refuse_if.ensures))

pub returns : goal.returns
returns c =
    let n = home_accounts_of c.args.state.words in
    let k : home_balances_word + n - home_balances_word ≡ n = omega arith in
    c.balance_among.ensures ∙ rw k (home_balance_passed _ (accepted_of 2 c.accepts.ensures c.in_ok-refuse_if.ensures) _)
