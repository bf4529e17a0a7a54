-- What was written stands within the bytes.
use Rattle.std.proofs.Common.{length, ◌-◌, ◌^◌, ◌<◌}
use Rattle.listing_journal.proofs.write_all.Given as goal

abbrev pub invariant-loop-done : goal.invariant-loop-done
invariant-loop-done g l = length l.bytes < 2 ^ 64

abbrev pub decreases-loop-done : goal.decreases-loop-done
decreases-loop-done g l = length l.bytes - l.done
