-- `scanned` meets its contract. Assumes nothing.
use Rattle.wire.proofs.Prelude.{◌-◌, ◌∙◌, ◌≡◌, ap, arith, sym}
use Rattle.places.specs.OverPlaces.{any_at}
use Rattle.table.proofs.Scanning.{four_here, four_on}
use Rattle.table.proofs.scanned.Goals as goal

pub loop-i-init : goal.loop-i-init
loop-i-init g c =
    let z : c.args.n ≡ c.args.n - 0 = omega arith in
    record { most = omega arith; rest = ap (any_at _ 0) z }

pub returns-then-is_in_four : goal.returns-then-is_in_four
returns-then-is_in_four g c =
    sym (c.loop-i.invariant.rest ∙ four_here _ c.loop-i.i c.args.n (omega arith) (sym c.is_in_four.ensures ∙ c.if-is_in_four.true))

pub loop-i-preserved : goal.loop-i-preserved
loop-i-preserved g c =
    record {
      most = omega arith;
      rest = c.loop-i.invariant.rest ∙ four_on _ c.loop-i.i c.args.n (omega arith) (sym c.is_in_four.ensures ∙ c.if-is_in_four.false);
    }

pub returns : goal.returns
returns g c = c.scanned_from.ensures ∙ sym c.loop-i.invariant.rest
