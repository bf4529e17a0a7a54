-- `sha256::last_bytes` meets its contract. Assumes nothing.
use Rattle.sha256.proofs.Padding.{rest_padded}
use Rattle.sha256.proofs.last_bytes.Goals as goal

-- src/lib.rt:31:1
pub returns : goal.returns
returns c =
    rest_padded c.args.rest.now c.args.n c.requires c.copy_from_slice.ensures.after c.bytes.ensures
    c.copy_from_slice-2.ensures.after
