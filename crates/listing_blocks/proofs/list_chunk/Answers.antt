-- A block more at a time, until none is left or the listing stops. Assumes nothing.
use Rattle.listing_blocks.proofs.Listed.{chunk_end, chunk_next, chunk_room_lem, chunk_start, chunk_stopped}
use Rattle.listing_blocks.proofs.list_chunk.Goals as goal
use Rattle.std.proofs.Common.{arith, rules, ◌≡◌, ◌∙◌}
use Rattle.std.specs.Slice.Iter.{chunks_rest}

pub loop-block-init : goal.loop-block-init
loop-block-init g c =
    let o = c.requires in
    let rest : chunks_rest c.into_iter-block-iterator.result ≡ c.args.chunk.now = search rules in
    (search rules, tt, search rules, rw rest (chunk_start o.2))

pub list_block-requires : goal.list_block-requires
list_block-requires g c =
    let v = c.loop-block.invariant.3 in
    (search rules, (chunk_room_lem v (λ z. omega (arith, z, c.in-Some.ensures.steps.1.2)) c.requires.0 c.requires.1, v.ready))

pub loop-block-preserved : goal.loop-block-preserved
loop-block-preserved g c =
    let s = c.in-Some.ensures.steps in
    let size = c.loop-block.invariant.2 in
    let e = c.list_block.ensures in
    let next = chunk_next c.loop-block.invariant.3 c.in-Some.block.now (chunks_rest c.next.new.self) s.1.0 (rw size at s.1.1) (λ z. omega (arith, z, s.1.2))
    c.list_block.new.cursor (e.puts, (rw c.in_ok-list_block.was at e.stands, e.keeps)) in
    (search rules, tt, s.0 ∙ size, next)

pub returns-in_err-list_block : goal.returns-in_err-list_block
returns-in_err-list_block g c =
    let s = c.in-Some.ensures.steps in
    let size = c.loop-block.invariant.2 in
    let e = c.list_block.ensures in
    let d = chunk_stopped c.loop-block.invariant.3 c.in-Some.block.now (chunks_rest c.next.new.self) s.1.0 (rw size at s.1.1) (λ z. omega (arith, z, s.1.2))
    c.list_block.new.cursor (e.puts, (rw c.in_err-list_block.was at e.stands, e.keeps)) in
    record { puts = d.0; stands = rw c.from_residual.ensures d.1.0; keeps = d.1.1 }

pub returns : goal.returns
returns g c =
    let d = chunk_end c.loop-block.invariant.3 c.in-None.ensures.steps.1.0 in
    record { puts = d.0; stands = d.1.0; keeps = d.1.1 }
