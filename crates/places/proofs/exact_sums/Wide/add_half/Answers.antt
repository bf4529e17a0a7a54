-- `Wide::add_half` meets its contract. Assumes nothing.
use Rattle.wire.proofs.Prelude.{arith}
use Rattle.places.specs.ExactSums.{wide}
use Rattle.places.proofs.exact_sums.Wide.add_half.Goals as goal

pub returns-then-sum-gt-MAX_AMOUNT : goal.returns-then-sum-gt-MAX_AMOUNT
unfolding wide
returns-then-sum-gt-MAX_AMOUNT c = record { value = omega arith; low_fits = omega arith; high_most = omega arith }

pub returns : goal.returns
unfolding wide
returns c = record { value = omega arith; low_fits = omega arith; high_most = omega arith }
