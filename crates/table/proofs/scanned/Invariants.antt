-- None of the fours before the one that the scan is at has what is looked for. Assumes nothing.
use Rattle.wire.proofs.Prelude.{◌-◌, ◌≡◌, ◌≤◌}
use Rattle.places.specs.OverPlaces.{any_at}
use Rattle.table.proofs.scanned.Given as goal

abbrev pub invariant-loop-i : goal.invariant-loop-i
invariant-loop-i g l =
    let p = g.S.Sought.has l.sought l.words l.from in
    record { most : l.i ≤ l.n; rest : any_at p 0 l.n ≡ any_at p l.i (l.n - l.i) }

abbrev pub decreases-loop-i : goal.decreases-loop-i
decreases-loop-i g l = l.n - l.i
