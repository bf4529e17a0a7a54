-- `Accepted::held`: the held records stand in the words, and the index is that of their numbers. Assumes nothing.
use Rattle.home_core.proofs.Accept.{sound_of}
use Rattle.wire.proofs.Prelude.{arith}
use Rattle.home_core.proofs.Accepted.held.Goals as goal

pub bounds-self-2108 : goal.bounds-self-2108
bounds-self-2108 c = omega (arith, (sound_of c.args.self.words.now c.args.self.ready.accepted).long)

pub invariant_of-result : goal.invariant_of-result
invariant_of-result c =
    let r = c.args.self.ready in
    let h = sound_of c.args.self.words.now r.accepted in
    record { indexed = (omega (arith, h.long, h.bounds.room), omega (arith, r.index_long, h.bounds.room), r.indexed) }
