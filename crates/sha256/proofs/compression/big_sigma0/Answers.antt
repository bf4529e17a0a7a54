-- `sha256::compression::big_sigma0` meets its contract. Assumes nothing.
use Rattle.sha256.specs.Sha256.{Σ₀}
use Rattle.sha256.proofs.compression.big_sigma0.Goals as goal

pub returns : goal.returns
unfolding Σ₀
returns c = cc
