-- What is asked only where a test holds. Assumes nothing.
use Rattle.wire.proofs.Prelude.{Bool, ◌||◌, ◌≡◌, false, not, true}

-- nothing is asked where it does not hold
pub not_asked : (p q : Bool) → p ≡ false → (not p || q) ≡ true
not_asked p q a = rw a
