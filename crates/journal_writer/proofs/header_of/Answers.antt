-- The goals of `journal_writer::header_of`. Assumes nothing.
use Rattle.wire.proofs.Prelude.{◌++◌, ◌∙◌, ap, replicate, set}
use borrow.Rule.Slice.PartMut.{put_mid}
use Rattle.journal_blocks.specs.Blocks.{kind_of_block}
use Rattle.wire.specs.BigEndian.{bytes_of}
use Rattle.journal_writer.proofs.header_of.Goals as goal

pub returns : goal.returns
unfolding bytes_of
returns c =
    let n = c.copy_from_slice.ensures.after ∙ c.bytes.ensures in
    let t = c.copy_from_slice-2.ensures.after ∙ c.tariff_bytes.ensures in
    let k = c.from-2.ensures ∙ c.kind_of_block.ensures ∙ ap kind_of_block c.from.ensures in
    λ i. put_mid 6 4 (set (set (n i ++ replicate 28 0) 4 (k i)) 5 c.args.count) (t i)
