-- No place before the one that the scan is at has what is looked for. Assumes nothing.
use Rattle.wire.proofs.Prelude.{◌-◌, ◌≡◌}
use Rattle.places.specs.OverPlaces.{any_at}
use Rattle.table.proofs.scanned_from.Given as goal

abbrev pub invariant-loop-i : goal.invariant-loop-i
invariant-loop-i g l =
    let p = g.S.Sought.has l.sought l.words l.from in
    any_at p l.k (l.n - l.k) ≡ any_at p l.i (l.n - l.i)
