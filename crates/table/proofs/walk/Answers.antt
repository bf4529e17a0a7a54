-- `table::walk` meets its contract. Assumes nothing.
use Rattle.wire.proofs.Prelude.{◌∙◌, ◌%◌, ap, arith, sym, ℕ}
use Rattle.places.specs.NumberIndex.{chain_count}
use Rattle.table.proofs.Walking.{walk_end, walk_first, walk_found, walk_next}
use Rattle.table.proofs.walk.Goals as goal

pub loop-init : goal.loop-init
loop-init g c =
    let a = c.args in
    let only = g.met.S.Sought.numbered c.args.sought a.words.now a.from in
    let low = c.low_bits.ensures ∙ ap (λ (x : ℕ). x % chain_count) c.number.ensures in
    walk_first a.words.now a.from a.index.now a.base a.count c.requires.2 _ _ only _ _ low c.from-at.ensures

pub returns-then-at-eq0 : goal.returns-then-at-eq0
returns-then-at-eq0 g c =
    let a = c.args in
    let only = g.met.S.Sought.numbered c.args.sought a.words.now a.from in
    sym (walk_end a.words.now a.from a.index.now a.base a.count c.requires.2 _ _ only c.loop.at c.loop.invariant c.if-at-eq0.true)

pub returns-then-is_at : goal.returns-then-is_at
returns-then-is_at g c =
    let a = c.args in
    let only = g.met.S.Sought.numbered c.args.sought a.words.now a.from in
    sym (walk_found a.words.now a.from a.index.now a.base a.count c.requires.2 _ _ only c.loop.at c.loop.invariant (omega arith)
    (sym c.is_at.ensures ∙ c.if-is_at.true))

pub loop-preserved : goal.loop-preserved
loop-preserved g c =
    let a = c.args in
    let only = g.met.S.Sought.numbered c.args.sought a.words.now a.from in
    walk_next a.words.now a.from a.index.now a.base a.count c.requires.2 _ _ only c.loop.at c.loop.invariant _ (omega arith)
    (sym c.is_at.ensures ∙ c.if-is_at.false) c.from-at-in-loop.ensures
