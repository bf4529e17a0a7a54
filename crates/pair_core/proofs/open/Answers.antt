-- The words of an accepted opening are what the stores leave in words of zeros. Assumes nothing.
use Rattle.std.proofs.Common.{◌≡◌, arith, length, rules, sym}
use Rattle.pair_core.proofs.Opened.{opened_by_lem, opened_counts}
use Rattle.pair_core.proofs.open.Goals as goal
use Rattle.pair_core.specs.Layout.{balances_start, pair_words}

pub copy_numbers-requires : goal.copy_numbers-requires
copy_numbers-requires c =
    let a = c.args in
    omega (arith, c.told-state, (opened_counts a.tariff a.homes.now a.fars.now (sym c.in_ok-supply.ensures.refuses)).0)

pub copy_numbers-requires-2 : goal.copy_numbers-requires-2
copy_numbers-requires-2 c =
    let a = c.args in
    let n : length c.copy_numbers.new.out ≡ pair_words = search rules in
    omega (arith, n, (opened_counts a.tariff a.homes.now a.fars.now (sym c.in_ok-supply.ensures.refuses)).1)

pub returns-clause-leaves : goal.returns-clause-leaves
returns-clause-leaves c =
    let a = c.args in
    let k = opened_counts a.tariff a.homes.now a.fars.now (sym c.in_ok-supply.ensures.refuses) in
    let b : c.balances_word.result ≡ balances_start 1 = c.balances_word.ensures.0 in
    let i : c.ledger_index.result ≡ 1 = c.ledger_index.ensures.0 in
    rw (← c.in_ok-supply.ensures.refuses, i)
    (opened_by_lem a.homes.now a.fars.now k.0 k.1 a.tariff _ _ _ _ c.requires c.in_ok-supply.ensures.supplies c.copy_numbers.ensures
    (rw b at c.copy_numbers-2.ensures))
