-- `add_if_unused` meets its contract. Assumes nothing.
use Rattle.wire.proofs.Prelude.{ap, not, sym}
use Rattle.table.proofs.Walking.{chain_empty}
use Rattle.table.specs.Sought.{used_numbered}
use Rattle.table.proofs.add_if_unused.Goals as goal

-- none has a number whose chain is empty
pub returns-then-index-h-eq0-clause-answers : goal.returns-then-index-h-eq0-clause-answers
returns-then-index-h-eq0-clause-answers c =
    let a = c.args in
    let s = a.words.now in
    let only = used_numbered a.used.arrival a.used.number s a.from in
    let none = chain_empty s a.from a.index.now a.base a.n c.requires.0.2 _ _ only _ c.low_bits.ensures c.if-index-h-eq0.true in
    sym (ap not none)
