-- The lines of a block's records: after i of them. Assumes nothing.
use Rattle.listing_blocks.proofs.Listed.{Listed}
use Rattle.listing_blocks.proofs.list_records.Given as goal

abbrev pub invariant-loop-i : goal.invariant-loop-i
invariant-loop-i g l =
    Listed l.block l.cursor.index l.fn.out.items l.fn.state l.i l.out.items l.state l.index l.figures l.text.items
