-- A block's lines, or its fault. Assumes nothing.
use Rattle.answers.proofs.Answers.{passed_zero}
use Rattle.answers.specs.Answers.{answer_of}
use Rattle.listing_blocks.proofs.Listed.{block_stopped, passed_listed, passed_of_lem}
use Rattle.listing_blocks.proofs.list_block.Goals as goal
use Rattle.std.proofs.Common.{ap, arith, rules, sym, ◌∙◌}

-- a bad one
pub returns-in-Err : goal.returns-in-Err
returns-in-Err g c =
    let cursor = c.args.cursor.now in
    let k = block_stopped cursor c.args.state.now c.args.block.now _ _ (sym (ap answer_of c.in-Err.is) ∙ c.judge.ensures) in
    let f = c.put_fault.ensures in
    record {
      puts = rw (k.text, ← c.from.ensures, ← c.from-in-Err.ensures) f.puts;
      stands = k.stands;
      keeps = (c.requires.1, omega (arith, f.fits));
    }

-- one that has passed
pub list_records-requires : goal.list_records-requires
list_records-requires g c =
    let k = passed_of_lem c.args.cursor.now c.args.block.now (passed_zero _ _ (sym c.judge.ensures ∙ ap answer_of c.in-Ok.is)) in
    (search rules, (k.low, k.long, rw c.stated_count-count.ensures k.count_fits, c.requires.0, c.requires.1))

pub returns-in-Ok : goal.returns-in-Ok
returns-in-Ok g c =
    let k = passed_of_lem c.args.cursor.now c.args.block.now (passed_zero _ _ (sym c.judge.ensures ∙ ap answer_of c.in-Ok.is)) in
    let e = c.list_records.ensures in
    let l = passed_listed c.list_records.result c.args.state.now c.args.out.now.items k c.stated_count-count.ensures (e.puts, (e.stands, e.keeps)) in
    record { puts = l.0; stands = l.1.0; keeps = l.1.1 }
