-- `sha256::compression::small_sigma1` meets its contract. Assumes nothing.
use Rattle.sha256.specs.Sha256.{σ₁}
use Rattle.sha256.proofs.compression.small_sigma1.Goals as goal

pub returns : goal.returns
unfolding σ₁
returns c = cc
