-- Where the opening is accepted, home's balances are summed, and the rest of the supply is far's. Assumes nothing.
use Rattle.pair_core.proofs.Opened.{opened_counts}
use Rattle.pair_core.specs.Layout.{pair_zero_words}
use Rattle.pair_rows.proofs.Opened.{FirstFigures, first_figures}
use Rattle.pair_rows.proofs.first_figures.Goals as goal
use Rattle.std.proofs.Common.{arith, sym}

pub open-requires : goal.open-requires
unfolding pair_zero_words
open-requires c = c.requires

pub add_balances-home-requires : goal.add_balances-home-requires
add_balances-home-requires c =
    let a = c.args in
    (omega arith, omega (arith, c.default.ensures.0, (opened_counts a.tariff a.homes.now a.fars.now (sym c.in_ok-open.ensures.answers)).0))

-- the first figures
figures_at : (c : goal.After-struct_known-1)
    → FirstFigures c.args.tariff c.args.homes.now c.args.fars.now c.open.new.state c.add_balances-home.result.low
figures_at c =
    let a = c.args in
    first_figures a.tariff a.homes.now a.fars.now (sym c.in_ok-open.ensures.answers) c.open.ensures.leaves c.default.ensures c.add_balances-home.ensures

pub overflow_sub-result : goal.overflow_sub-result
overflow_sub-result c = (figures_at c).fits

pub returns-clause-opens : goal.returns-clause-opens
returns-clause-opens c = let w = figures_at c in (w.row, w.words)
