-- `sha256::compression::big_sigma1` meets its contract. Assumes nothing.
use Rattle.sha256.specs.Sha256.{Σ₁}
use Rattle.sha256.proofs.compression.big_sigma1.Goals as goal

pub returns : goal.returns
unfolding Σ₁
returns c = cc
