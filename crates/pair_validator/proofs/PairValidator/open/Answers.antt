-- The words that an opening is given are zeros. Assumes nothing.
use Rattle.pair_core.specs.Layout.{pair_zero_words}
use Rattle.pair_validator.proofs.PairValidator.open.Goals as goal
use Rattle.std.proofs.Common.{refl}

pub open-judged-requires : goal.open-judged-requires
unfolding pair_zero_words
open-judged-requires c = refl
