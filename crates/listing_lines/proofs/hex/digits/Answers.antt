-- The goals of `listing_lines::hex::digits`. Assumes nothing.
use Rattle.wire.proofs.Prelude.{◌∙◌, refl}
use Rattle.wire.specs.BigEndian.{bytes_of}
use Rattle.listing_lines.specs.Lines.{hexadecimal}
use Rattle.listing_lines.proofs.hex.digits.Goals as goal

-- the first digits, and the second ones, stand in turn
pub returns : goal.returns
unfolding bytes_of hexadecimal
returns c =
    rw (c.bytes-h.ensures ∙ c.high_digits.ensures, c.bytes-l.ensures ∙ c.low_digits.ensures) refl
