-- `home_core::adds_up` meets its contract. Assumes nothing.
use Rattle.home_core.proofs.Accept.{bounds_facts}
use Rattle.places.proofs.ExactSums.{added_after, added_value}
use Rattle.table.proofs.Sums.{high_passes, low_compares}
use Rattle.wire.proofs.Prelude.{◌∙◌, arith, ne_eqb}
use Rattle.home_core.proofs.adds_up.Goals as goal

pub add_balances-requires : goal.add_balances-requires
add_balances-requires c =
    let b = bounds_facts c.args.s.now c.requires in
    (omega (arith, c.told-s, b.home_fits), omega (arith, b.home_fits))

pub add-sum-requires : goal.add-sum-requires
add-sum-requires c =
    let b = bounds_facts c.args.s.now c.requires in
    omega (arith, c.add_balances.ensures.high_most, b.home_fits)

pub returns-then-sum-eq0 : goal.returns-then-sum-eq0
returns-then-sum-eq0 c = low_compares _ _ _ (added_value c.default-zero.ensures (added_after c.add_balances.ensures c.add-sum.ensures)) c.if-sum-eq0.true

pub returns-else-sum-eq0 : goal.returns-else-sum-eq0
returns-else-sum-eq0 c =
    let sum = added_after c.add_balances.ensures c.add-sum.ensures in
    ne_eqb _ _ c.if-sum-eq0.false
    ∙ high_passes _ _ _ (added_value c.default-zero.ensures sum) (bounds_facts c.args.s.now c.requires).supply_fits c.if-sum-eq0.false
