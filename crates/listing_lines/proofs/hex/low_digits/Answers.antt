-- The bits of each digit, and where they give letters. Assumes nothing.
use Rattle.wire.proofs.Prelude.{arith}
use Rattle.listing_lines.proofs.Digits.{low_digits}
use Rattle.listing_lines.proofs.hex.low_digits.Goals as goal

pub returns : goal.returns
returns c = rw (c.masked-letters.ensures.0, c.masked-bits.ensures.0) (low_digits c.args.x (omega arith))
