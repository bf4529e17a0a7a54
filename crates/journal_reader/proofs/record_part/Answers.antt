-- The goals of `journal_reader::record_part`. Assumes nothing.
use Rattle.wire.proofs.Prelude.{[], ◌≡◌, sym, ℕ}
use Rattle.answers.proofs.Answers.{passed_zero, refused_instead}
use Rattle.journal_blocks.specs.Blocks.{record_part}
use Rattle.journal_reader.proofs.Judging.{place_facts}
use Rattle.journal_reader.specs.Judged.{part_of, record_refusal}
use Rattle.journal_reader.proofs.record_part.Goals as goal

pub judged_part-requires : goal.judged_part-requires
judged_part-requires c =
    let z = passed_zero _ c.args.k (sym c.in-Ok.ensures) in
    let f = place_facts _ _ _ _ z in
    (f.long, f.low)

pub returns-in-Ok : goal.returns-in-Ok
unfolding part_of
returns-in-Ok c =
    let a = c.args in
    let z : record_refusal a.block.now a.k a.before a.place ≡ 0 = passed_zero _ a.k (sym c.in-Ok.ensures) in
    rw (z, c.judged_part.ensures)

pub returns-in-Err : goal.returns-in-Err
unfolding part_of
returns-in-Err c =
    let a = c.args in
    let b = a.block.now in
    let n : ℕ = record_refusal b a.k a.before a.place in
    sym (refused_instead n a.k _ _ (record_part b a.place) [] (sym c.in-Err.ensures))
