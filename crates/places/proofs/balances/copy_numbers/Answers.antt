-- `copy_numbers` meets its contract. Assumes nothing.
use Rattle.wire.proofs.Prelude.{List, ◌+◌, ◌∙◌, add-one, ap, arith, get_or, paste-suc, set, ℕ}
use Rattle.places.proofs.balances.copy_numbers.Goals as goal

pub loop-i-preserved : goal.loop-i-preserved
loop-i-preserved c =
    let a = c.args in
    let l = c.loop-i in
    let e = ap (λ (o : List ℕ). set o (a.at + l.i) (get_or a.xs.now l.i 0)) l.invariant in
    e ∙ rw add-one (paste-suc a.out.now a.at a.xs.now l.i 0 (omega arith) (omega arith))
