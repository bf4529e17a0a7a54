-- The 32 bytes with the fields of a record given as numbers (document 01, "The record"). Assumes nothing.
use Rattle.std.specs.Prelude.{ℕ, List, ◌++◌, ◌∷◌, replicate}
use Rattle.wire.specs.BigEndian.{bytes_of}

-- the 32 bytes with these fields, each in its place
unfoldable pub field_bytes : ℕ → ℕ → ℕ → ℕ → ℕ → ℕ → ℕ → List ℕ
field_bytes kind ledger sender receiver number amount verdict =
    kind
    ∷ ledger
    ∷ (bytes_of 2 sender
    ++ (bytes_of 2 receiver
    ++ (0 ∷ 0 ∷ (bytes_of 8 number
    ++ (bytes_of 8 amount
    ++ (verdict ∷ replicate 7 0))))))
