-- `sha256::whole_blocks`: the hash value after the blocks taken, and what the iterator has left.
use Rattle.std.proofs.Common.{◌≡◌, ◌*◌, ◌≤◌, drop, length}
use Rattle.sha256.specs.Sha256.{hashed, padded}
use Rattle.sha256.proofs.whole_blocks.Given as goal

abbrev pub invariant-loop-block : goal.invariant-loop-block
invariant-loop-block l =
    record {
      size : l.block-iterator.size ≡ 64;
      within : 64 * length l.yielded ≤ length l.message;
      rest : l.block-iterator.rest.now ≡ drop (64 * length l.yielded) l.message;
      hash : l.s ≡ hashed (padded l.message) (length l.yielded);
    }
