-- `Wide::add` meets its contract. Assumes nothing.
use Rattle.wire.proofs.Prelude.{arith}
use Rattle.places.specs.ExactSums.{wide}
use Rattle.places.proofs.exact_sums.Wide.add.Goals as goal

pub returns-then-x-gt-MAX_AMOUNT : goal.returns-then-x-gt-MAX_AMOUNT
unfolding wide
returns-then-x-gt-MAX_AMOUNT c =
    let e = c.add_half.ensures in
    record { value = omega (arith, e.value); low_fits = e.low_fits; high_most = omega (arith, e.high_most) }
