-- Kinds by their bytes. Assumes nothing.
use Rattle.wire.proofs.Prelude.{◌≡◌, ◌≤◌, arith, eqb, ne_eqb, refl, suc, zero, ℕ}
use Rattle.ledgers.specs.Ledgers.{kind_at}
use Rattle.rules.specs.Rules.{Ledger, is_receiving, is_sending}

-- the sendings are those with byte 2
pub sending_byte : (k : ℕ) (l : Ledger) → is_sending (kind_at k l) ≡ eqb k 2
sending_byte zero l = refl
sending_byte (suc zero) l = refl
sending_byte (suc (suc zero)) l = refl
sending_byte (suc (suc (suc k))) l =
    rw (ne_eqb (suc (suc (suc k))) 1 (λ q. omega arith), ne_eqb (suc (suc (suc k))) 2 (λ q. omega arith))

-- the arrivals are those with byte 3, among the bytes of kinds
pub receiving_byte : (k : ℕ) (l : Ledger) → 1 ≤ k → k ≤ 3 → is_receiving (kind_at k l) ≡ eqb k 3
receiving_byte zero l h m = absurd (omega arith)
receiving_byte (suc zero) l h m = refl
receiving_byte (suc (suc zero)) l h m = refl
receiving_byte (suc (suc (suc zero))) l h m = refl
receiving_byte (suc (suc (suc (suc k)))) l h m = absurd (omega arith)
