-- The first digits are the second ones of a sixteenth. Assumes nothing.
use Rattle.wire.proofs.Prelude.{◌∙◌}
use Rattle.listing_lines.proofs.Digits.{high_digits}
use Rattle.listing_lines.proofs.hex.high_digits.Goals as goal

pub returns : goal.returns
returns c = c.low_digits.ensures ∙ high_digits 8 c.args.x
