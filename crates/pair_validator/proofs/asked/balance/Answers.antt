-- The balance of an account is one of the balances of its ledger. Assumes nothing.
use Rattle.calls.proofs.Handing.{accepted_of}
use Rattle.ledgers.specs.Ledgers.{ledger_byte}
use Rattle.pair_core.specs.Layout.{accounts_on, balances_start}
use Rattle.pair_validator.proofs.PairTotals.{no_such_ledger, pair_balance_passed, pair_on_ledger}
use Rattle.pair_validator.proofs.asked.balance.Goals as goal
use Rattle.rules.proofs.Bytes.{byte_at}
use Rattle.std.proofs.Common.{ap, arith, sym, ◌+◌, ◌-◌, ◌∙◌, ◌≡◌}

pub returns-in_default : goal.returns-in_default
returns-in_default c =
    let a = c.args in
    no_such_ledger a.state.words (accepted_of 2 c.accepts.ensures c.in_ok-refuse_if.ensures) a.ledger a.account c.in_default.ensures.0

pub overflow_add-start-2 : goal.overflow_add-start-2
overflow_add-start-2 c =
    let s = c.args.state.words in
    let f = pair_on_ledger s (accepted_of 2 c.accepts.ensures c.in_ok-refuse_if.ensures) c.ledger_index-l.result c.ledger_index-l.ensures.1 in
    omega (arith, f.1, c.ledger_index-l.ensures.1)

pub slice_bounds-balance_among-end : goal.slice_bounds-balance_among-end
slice_bounds-balance_among-end c =
    let s = c.args.state.words in
    omega (arith, (pair_on_ledger s (accepted_of 2 c.accepts.ensures c.in_ok-refuse_if.ensures) c.ledger_index-l.result c.ledger_index-l.ensures.1).0)

pub returns : goal.returns
returns c =
    let a = c.args in
    let s = a.state.words in
    let h = accepted_of 2 c.accepts.ensures c.in_ok-refuse_if.ensures in
    let e = c.ledger_index-l.ensures.0 ∙ ap ledger_byte c.in-Ok.ensures.1 ∙ byte_at a.ledger c.in-Ok.ensures.0 in
    let n = accounts_on s a.ledger in
    let k : balances_start a.ledger + n - balances_start a.ledger ≡ n = omega arith in
    (rw e at c.balance_among.ensures) ∙ rw k (pair_balance_passed s h a.ledger a.account (omega (arith, c.in-Ok.ensures.0)))
