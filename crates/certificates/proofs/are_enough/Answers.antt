-- `certificates::are_enough`: half of the members or fewer are too few; of more, the zeros above tell if one is beyond. Assumes nothing.
use Rattle.wire.proofs.Prelude.{arith, le-ltb, sym, ◌∙◌}
use Rattle.certificates.proofs.Masks.{few, many}
use Rattle.certificates.proofs.are_enough.Goals as goal

pub returns-then-half-from : goal.returns-then-half-from
returns-then-half-from c =
    rw c.from-then-half-from.ensures (sym (many c.args.half c.args.signers (omega arith) c.ranges.signers.fits))

pub returns-else-half-from : goal.returns-else-half-from
returns-else-half-from c = le-ltb _ _ c.if-half-from.false ∙ sym (few c.args.half c.args.signers (omega arith))
