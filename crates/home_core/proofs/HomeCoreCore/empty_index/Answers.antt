-- `HomeCore::empty_index` is an index of no record. Assumes nothing.
use Rattle.table.proofs.Numbers.{empty_zeros}
use Rattle.table.specs.Table.{index_length}
use Rattle.wire.proofs.Prelude.{refl}
use Rattle.home_core.proofs.HomeCoreCore.empty_index.Goals as goal

pub returns : goal.returns
returns c = (refl, empty_zeros index_length 0)
