-- The invariant of the loop of `calls::take_list`. Assumes nothing.
use Rattle.wire.proofs.Prelude.{◌≡◌}
use Rattle.calls.proofs.Handing.{Handing}
use Rattle.calls.proofs.take_list.Given as goal

abbrev pub invariant-loop-i : goal.invariant-loop-i
invariant-loop-i g l =
    (l.before ≡ l.fn.words) × (l.i-iterator.iter.size ≡ 32)
    × Handing g.C.Core.checker g.C.Core.Ready l.fn.words l.fn.bytes l.words l.index l.i-iterator.count l.i-iterator.iter.rest.now
