-- The blocks of a chunk: with those that are still to come. Assumes nothing.
use Rattle.listing_blocks.proofs.Listed.{ChunkListed}
use Rattle.listing_blocks.proofs.list_chunk.Given as goal
use Rattle.std.proofs.Common.{◌≡◌}
use Rattle.std.specs.Slice.Iter.{chunks_rest, chunks_size}

abbrev pub invariant-loop-block : goal.invariant-loop-block
invariant-loop-block g l =
    (goal.iterator-loop-block g).can_next l.block-iterator
    × (goal.iterator-loop-block g).is_finite l.block-iterator
    × (chunks_size l.block-iterator ≡ 512)
    × ChunkListed l.fn.cursor l.fn.state l.chunk l.fn.out.items (chunks_rest l.block-iterator) l.cursor l.state l.out.items l.index
