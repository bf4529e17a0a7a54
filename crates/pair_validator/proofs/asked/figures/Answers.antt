-- Both totals are the sums of the balances, and in flight is the rest of the supply. Assumes nothing.
use Rattle.calls.proofs.Handing.{accepted_of}
use Rattle.pair_validator.proofs.PairTotals.{pair_figures_passed, pair_on_ledger, pair_supply_shared, pair_total}
use Rattle.pair_validator.proofs.asked.figures.Goals as goal
use Rattle.std.proofs.Common.{arith, sym, ◌∙◌}

pub add_balances-home-requires : goal.add_balances-home-requires
add_balances-home-requires c =
    let s = c.args.state.words in
    omega (arith, c.default-zero.ensures.0, pair_on_ledger s (accepted_of 2 c.accepts.ensures c.in_ok-refuse_if.ensures) 0 (omega arith))

pub add_balances-far-requires : goal.add_balances-far-requires
add_balances-far-requires c =
    let s = c.args.state.words in
    omega (arith, c.default-zero.ensures.0, pair_on_ledger s (accepted_of 2 c.accepts.ensures c.in_ok-refuse_if.ensures) 1 (omega arith))

pub overflow_sub-result : goal.overflow_sub-result
overflow_sub-result c =
    let s = c.args.state.words in
    let h = accepted_of 2 c.accepts.ensures c.in_ok-refuse_if.ensures in
    omega (arith, pair_total s h 0 (omega arith) c.default-zero.ensures c.add_balances-home.ensures, pair_supply_shared s h)

pub overflow_sub-result-2 : goal.overflow_sub-result-2
overflow_sub-result-2 c =
    let s = c.args.state.words in
    let h = accepted_of 2 c.accepts.ensures c.in_ok-refuse_if.ensures in
    omega (
      arith,
      pair_total s h 0 (omega arith) c.default-zero.ensures c.add_balances-home.ensures,
      pair_total s h 1 (omega arith) c.default-zero.ensures c.add_balances-far.ensures,
      pair_supply_shared s h,
    )

pub returns : goal.returns
returns c =
    let s = c.args.state.words in
    let h = accepted_of 2 c.accepts.ensures c.in_ok-refuse_if.ensures in
    pair_figures_passed s h _ _ (pair_total s h 0 (omega arith) c.default-zero.ensures c.add_balances-home.ensures)
    (pair_total s h 1 (omega arith) c.default-zero.ensures c.add_balances-far.ensures)
