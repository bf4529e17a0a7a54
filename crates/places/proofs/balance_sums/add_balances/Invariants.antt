-- The halves of the balances before the one that the loop is at are added. Assumes nothing.
use Rattle.wire.proofs.Prelude.{get_or, ℕ}
use Rattle.places.specs.ExactSums.{Halves}
use Rattle.places.specs.OverPlaces.{sum_at}
use Rattle.places.proofs.balance_sums.add_balances.Given as goal

abbrev pub invariant-loop-b : goal.invariant-loop-b
invariant-loop-b l = Halves (sum_at (λ (j : ℕ). get_or l.fn.balances j 0) l.from l.b-index) l.b-index l.sum.high l.sum.low
