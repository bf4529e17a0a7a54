-- The walk is for what is looked for. Assumes nothing.
use Rattle.table.proofs.Walking.{WalkFor}
use Rattle.table.proofs.walk.Given as goal

abbrev pub invariant-loop : goal.invariant-loop
invariant-loop g l =
    let s = l.words in
    WalkFor s l.from l.count (g.S.Sought.has l.sought s l.from) (g.S.Sought.number l.sought) l.at
