-- The first i bytes are those that were handed in.
use Rattle.wire.proofs.Prelude.{length, take, ◌≡◌}
use Rattle.journal_writer.proofs.put.Given as goal

abbrev pub invariant-loop-i : goal.invariant-loop-i
invariant-loop-i l = (length l.s ≡ length l.from) × (take l.i l.s ≡ take l.i l.from)
