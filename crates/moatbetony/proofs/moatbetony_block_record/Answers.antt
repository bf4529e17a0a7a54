-- Beside a refusal there is no part; where the record passed, the part is the record's.
use Rattle.wire.proofs.Prelude.{[], ◌≡◌, sym}
use Rattle.answers.proofs.Answers.{passed_zero, refused_instead}
use Rattle.journal_blocks.specs.Blocks.{record_part}
use Rattle.journal_reader.specs.Judged.{part_of, record_refusal}
use Rattle.moatbetony.proofs.moatbetony_block_record.Goals as goal

pub returns-in-Err-clause-holds : goal.returns-in-Err-clause-holds
unfolding part_of
returns-in-Err-clause-holds c =
    let a = c.args in
    sym (refused_instead _ a.number _ _ (record_part a.block.now a.place) [] (sym c.in-Err.ensures))

pub returns-clause-holds : goal.returns-clause-holds
unfolding part_of record_part
returns-clause-holds c =
    let a = c.args in
    let z : record_refusal a.block.now a.number a.before a.place ≡ 0 = passed_zero _ _ (sym c.in_default.ensures) in
    rw z
