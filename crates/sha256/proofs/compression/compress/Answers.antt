-- `sha256::compression::compress` meets its contract. Assumes nothing.
use Rattle.wire.proofs.Prelude.{◌∙◌}
use Rattle.sha256.proofs.Rounds.{compressed_by_sixteen}
use Rattle.sha256.proofs.compression.compress.Goals as goal

pub returns : goal.returns
returns c =
    c.add_words.ensures
    ∙ compressed_by_sixteen c.args.block.now c.args.s c.constants_from.ensures c.constants_from-2.ensures c.constants_from-3.ensures
    c.constants_from-4.ensures c.load-w0.ensures c.next_words-w1.ensures c.next_words-w2.ensures c.next_words-w3.ensures
    c.sixteen-s0.ensures c.sixteen-s1.ensures c.sixteen-s2.ensures c.sixteen.ensures
