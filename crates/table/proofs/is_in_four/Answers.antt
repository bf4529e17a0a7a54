-- `is_in_four` meets its contract. Assumes nothing.
use Rattle.wire.proofs.Prelude.{◌+◌, ◌-◌, ◌≡◌, ◌∙◌, ap, arith, sym}
use Rattle.places.specs.OverPlaces.{any_at}
use Rattle.table.proofs.Scanning.{unnumbered}
use Rattle.table.proofs.is_in_four.Goals as goal

-- where none of four has the number, none has what is looked for
pub returns-then-not-numbered_in_four : goal.returns-then-not-numbered_in_four
returns-then-not-numbered_in_four g c =
    let a = c.args in
    let s = a.words.now in
    let only = g.met.S.Sought.numbered a.sought s a.from in
    let none = sym c.numbered_in_four.ensures ∙ c.if-not-numbered_in_four.true in
    sym
    (unnumbered c.number.result s a.from (g.S.Sought.has a.sought s a.from) (g.S.Sought.number a.sought) c.number.ensures only a.i 4 none)

pub returns : goal.returns
returns g c =
    let z : c.args.i + 4 - c.args.i ≡ 4 = omega arith in
    c.scanned_from.ensures ∙ ap (any_at (g.S.Sought.has c.args.sought c.args.words.now c.args.from) c.args.i) z
