-- An index of zeros is one of no numbers, on either ledger. Assumes nothing.
use Rattle.std.proofs.Common.{◌*◌, refl}
use Rattle.pair_core.proofs.PairCoreCore.empty_index.Goals as goal
use Rattle.pair_core.specs.Layout.{index_on}
use Rattle.table.proofs.Numbers.{empty_zeros}
use Rattle.table.specs.Table.{index_length}

pub returns : goal.returns
returns c = (refl, λ l p. empty_zeros (2 * index_length) (index_on l))
