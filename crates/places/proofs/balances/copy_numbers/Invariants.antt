-- The numbers before the one that the loop is at are copied. Assumes nothing.
use Rattle.wire.proofs.Prelude.{◌≡◌, paste}
use Rattle.places.proofs.balances.copy_numbers.Given as goal

abbrev pub invariant-loop-i : goal.invariant-loop-i
invariant-loop-i l = l.out ≡ paste l.initial.out l.at l.xs l.i
