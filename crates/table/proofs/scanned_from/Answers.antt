-- `scanned_from` meets its contract. Assumes nothing.
use Rattle.wire.proofs.Prelude.{◌∙◌, arith, sym}
use Rattle.places.proofs.OverPlaces.{any_end, any_here, any_on}
use Rattle.table.proofs.scanned_from.Goals as goal

pub returns-then-is_at : goal.returns-then-is_at
returns-then-is_at g c =
    sym (c.loop-i.invariant ∙ any_here _ c.loop-i.i c.args.n (omega arith) (sym c.is_at.ensures ∙ c.if-is_at.true))

pub loop-i-preserved : goal.loop-i-preserved
loop-i-preserved g c = c.loop-i.invariant ∙ any_on _ c.loop-i.i c.args.n (omega arith) (sym c.is_at.ensures ∙ c.if-is_at.false)

pub returns : goal.returns
returns g c = sym (c.loop-i.invariant ∙ any_end _ c.loop-i.i c.args.n (omega arith))
