-- `Wide::add_halves` meets its contract. Assumes nothing.
use Rattle.wire.proofs.Prelude.{arith}
use Rattle.places.specs.ExactSums.{wide}
use Rattle.places.proofs.exact_sums.Wide.add_halves.Goals as goal

pub returns : goal.returns
unfolding wide
returns c = omega (arith, c.add_half-v.ensures.value, c.add_half.ensures.value)
