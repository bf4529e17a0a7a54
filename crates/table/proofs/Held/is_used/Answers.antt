-- `Held::is_used` meets its contract. Assumes nothing.
use Rattle.wire.proofs.Prelude.{sym}
use Rattle.table.proofs.Walking.{chain_empty}
use Rattle.table.specs.Sought.{used_numbered}
use Rattle.table.proofs.Held.is_used.Goals as goal

-- none has a number whose chain is empty
pub returns-then-self-low_bits-eq0 : goal.returns-then-self-low_bits-eq0
returns-then-self-low_bits-eq0 c =
    let h = c.args.self in
    let only = used_numbered c.args.arrival c.args.number h.words.now h.from in
    sym (chain_empty h.words.now h.from h.index.now h.base h.count h.indexed.2 _ _ only _ c.low_bits.ensures c.if-self-low_bits-eq0.true)
