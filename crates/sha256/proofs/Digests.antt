-- The digest is 32 bytes. Assumes nothing.
use Rattle.wire.proofs.Prelude.{List, ◌≡◌, length, refl, ℕ}
use Rattle.sha256.specs.Sha256.{hash_bytes, sha256}
use Rattle.wire.proofs.Numbers.{bytes_bytes_of, bytes_then}
use Rattle.wire.specs.BigEndian.{Bytes, bytes_of}

-- as many as eight words have
pub length_sha256 : (m : List ℕ) → length (sha256 m) ≡ 32
unfolding sha256 hash_bytes bytes_of
length_sha256 m = refl

-- and they are bytes
pub bytes_sha256 : (m : List ℕ) → Bytes (sha256 m)
unfolding sha256 hash_bytes
bytes_sha256 m =
    bytes_then 4 _ _ (bytes_then 4 _ _ (bytes_then 4 _ _ (bytes_then 4 _ _ (bytes_then 4 _ _ (bytes_then 4 _ _ (bytes_then 4 _ _
    (bytes_bytes_of 4 _)))))))
