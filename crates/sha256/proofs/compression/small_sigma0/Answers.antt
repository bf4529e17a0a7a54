-- `sha256::compression::small_sigma0` meets its contract. Assumes nothing.
use Rattle.sha256.specs.Sha256.{σ₀}
use Rattle.sha256.proofs.compression.small_sigma0.Goals as goal

pub returns : goal.returns
unfolding σ₀
returns c = cc
