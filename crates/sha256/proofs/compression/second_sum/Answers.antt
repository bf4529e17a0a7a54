-- `sha256::compression::second_sum` meets its contract. Assumes nothing.
use Rattle.sha256.specs.Sha256.{T₂}
use Rattle.sha256.proofs.compression.second_sum.Goals as goal

pub returns : goal.returns
unfolding T₂
returns c = cc
