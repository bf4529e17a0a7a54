-- The goals of `journal_writer::lay`. Assumes nothing.
use Rattle.wire.proofs.Prelude.{arith, length-take, rules, ◌≡◌, length, take}
use Rattle.journal_writer.proofs.Laying.{laid}
use Rattle.journal_writer.proofs.lay.Goals as goal

pub slice_bounds-copy_from_slice-end-2 : goal.slice_bounds-copy_from_slice-end-2
slice_bounds-copy_from_slice-end-2 c = omega (arith, length-take 32 c.args.out.now)

pub copy_from_slice-requires : goal.copy_from_slice-requires
copy_from_slice-requires c =
    let l : length (take 32 c.args.out.now) ≡ 32 = omega (arith, length-take 32 c.args.out.now) in
    search (rules, l)

pub returns : goal.returns
returns c =
    let a = c.args in
    laid a.out.now a.head a.items.now c.copy_from_slice.new.self c.put.new.s c.fill.new.self c.requires.0
    (search rules) c.requires.1 c.copy_from_slice.ensures.after c.put.ensures (c.fill.ensures.after (λ y e. e))
