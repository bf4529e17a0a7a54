-- The state is accepted, and its words have 64 bits. Assumes nothing.
use Rattle.pair_core.proofs.Accept.{in_bounds_of}
use Rattle.pair_core.proofs.judge.Goals as goal

pub invariant_of-accepted : goal.invariant_of-accepted
invariant_of-accepted c =
    record { ready = (c.requires.0, in_bounds_of c.args.s.now c.requires.0.accepted (λ i. c.fits-s i)) }
