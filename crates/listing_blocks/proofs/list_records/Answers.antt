-- A record more at a time, and all of them at the end. Assumes nothing.
use Rattle.listing_blocks.proofs.Listed.{listed_next, listed_start, part_long}
use Rattle.listing_blocks.proofs.list_records.Goals as goal
use Rattle.std.proofs.Common.{arith, rules}

pub loop-i-init : goal.loop-i-init
loop-i-init g c = listed_start c.requires.4 (rw c.new-text.ensures at c.put_figures.ensures.puts)

pub put_record-requires : goal.put_record-requires
put_record-requires g c =
    let v = c.loop-i.invariant in (
      search rules,
      (
        omega (arith, c.requires, v.room),
        part_long c.args.block.now c.loop-i.i c.judged_part-bytes.ensures c.requires.1 (omega (arith, c.requires.2)),
        c.as_slice.ensures.fits,
      ),
    )

pub loop-i-preserved : goal.loop-i-preserved
loop-i-preserved g c =
    let w = c.next_figures-judged.ensures in
    let u = c.put_figures_if.ensures in
    listed_next c.next_figures-judged.result c.loop-i.invariant c.judged_part-bytes.ensures (w.tells, (w.leaves, w.keeps))
    (u.passed, u.refused) (rw (c.as_slice.ensures.value, c.answer_number.ensures) at c.put_record.ensures.puts)
    c.put_record.ensures.fits
