-- `sha256::compression::first_sum` meets its contract. Assumes nothing.
use Rattle.sha256.specs.Sha256.{T₁}
use Rattle.sha256.proofs.compression.first_sum.Goals as goal

pub returns : goal.returns
unfolding T₁
returns c = cc
