-- Digests of 32 bytes as four numbers of eight, highest byte first. Assumes nothing.
use Rattle.std.specs.Prelude.{ℕ, Bool, true, List, [], ◌++◌, ◌∷◌, ◌≡◌, eqb, length}
use Rattle.wire.specs.BigEndian.{Bytes, bytes_of, every, field}
pub use Rattle.certificates.specs.declared.digests.Digest.{Digest}

-- the digest with these bytes
abbrev pub digest_of : List ℕ → Digest
digest_of b = record { first = field 0 8 b; second = field 8 8 b; third = field 16 8 b; fourth = field 24 8 b }

-- its bytes
unfoldable pub digest_bytes : Digest → List ℕ
digest_bytes d = bytes_of 8 d.first ++ (bytes_of 8 d.second ++ (bytes_of 8 d.third ++ bytes_of 8 d.fourth))

-- two digests are the same
unfoldable pub same_digest : Digest → Digest → Bool
same_digest d e =
    every (eqb d.first e.first ∷ eqb d.second e.second ∷ eqb d.third e.third ∷ eqb d.fourth e.fourth ∷ [])

-- 32 bytes are those of their digest, so that no two strings of 32 bytes have one
unfoldable pub BytesKept : Type 0
BytesKept = (b : List ℕ) → Bytes b → length b ≡ 32 → digest_bytes (digest_of b) ≡ b

-- the test tells digests apart
unfoldable pub DigestsTold : Type 0
DigestsTold = (d e : Digest) → same_digest d e ≡ true → d ≡ e
