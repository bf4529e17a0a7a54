-- `home_core::open`: what its stores leave in words of zeros. Assumes nothing.
use Rattle.wire.proofs.Prelude.{arith, sym}
use Rattle.home_core.proofs.Opened.{opened_by_lem, opened_count}
use Rattle.home_core.proofs.open.Goals as goal

pub copy_numbers-requires : goal.copy_numbers-requires
copy_numbers-requires c =
    let a = c.args in
    omega (arith, c.told-state, opened_count a.tariff a.balances.now a.far_accounts a.far_total (sym c.in_ok-supply.ensures.refuses))

pub returns-clause-leaves : goal.returns-clause-leaves
returns-clause-leaves c =
    let a = c.args in
    let e = c.in_ok-supply.ensures in
    let n = sym e.refuses in
    rw n (opened_by_lem a.tariff a.balances.now a.far_accounts a.far_total (opened_count a.tariff a.balances.now a.far_accounts a.far_total n)
    _ _ _ c.requires e.supplies c.copy_numbers.ensures)
