-- Laws of the items of a block. Assumes nothing.
use Rattle.wire.proofs.Prelude.{List, [], ◌*◌, ◌++◌, ◌+◌, ◌-◌, ◌<◌, ◌∙◌, ◌∷◌, ◌≡◌, add-one, ap, append_assoc, arith, length, length-append}
use Rattle.wire.proofs.Prelude.{refl, replicate, set, set_at, suc, sym, zero, ℕ}
use Rattle.journal_blocks.specs.Blocks.{first_balances, first_records, record_part}
use Rattle.wire.specs.BigEndian.{field}

-- n opening balances are n
pub length_balances : (n : ℕ) (b : List ℕ) → length (first_balances n b) ≡ n
unfolding first_balances
length_balances zero b = refl
length_balances (suc n) b =
    omega (arith, length-append (first_balances n b) (field (32 + 8 * n) 8 b ∷ []), length_balances n b)

-- n records are n
pub length_records : (n : ℕ) (b : List ℕ) → length (first_records n b) ≡ n
unfolding first_records
length_records zero b = refl
length_records (suc n) b = omega (arith, length-append (first_records n b) (record_part b n ∷ []), length_records n b)

-- one more opening balance in the table
pub table_on : (b : List ℕ) (i v : ℕ) → i < 56 → v ≡ field (32 + 8 * i) 8 b
    → set (first_balances i b ++ replicate (56 - i) 0) i v ≡ first_balances (i + 1) b ++ replicate (56 - (i + 1)) 0
unfolding first_balances
table_on b i v h e =
    let z : 56 - i ≡ suc (56 - (i + 1)) = omega arith in
    ap (λ (n : ℕ). set (first_balances i b ++ replicate n 0) i v) z
    ∙ set_at (first_balances i b) 0 (replicate (56 - (i + 1)) 0) v i (length_balances i b)
    ∙ ap (λ (x : ℕ). first_balances i b ++ x ∷ replicate (56 - (i + 1)) 0) e
    ∙ rw add-one (sym (append_assoc (first_balances i b) (field (32 + 8 * i) 8 b ∷ []) (replicate (56 - suc i) 0)))
