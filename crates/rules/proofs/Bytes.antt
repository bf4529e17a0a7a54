-- Ledgers and kinds by their bytes. Assumes nothing.
use Rattle.wire.proofs.Prelude.{◌≡◌, ◌≤◌, arith, cond, eqb, refl, suc, sym, true, zero, ℕ}
use Rattle.ledgers.specs.Ledgers.{counterpart, kind_at, ledger_at, ledger_byte, receiver_ledger, sender_ledger}
use Rattle.rules.proofs.Lists.{never_both_tests}
use Rattle.rules.specs.PairValidator.{same_ledger}
use Rattle.rules.specs.Rules.{Far, Home, Ledger}

-- the ledger with a ledger's byte
pub at_byte : (L : Ledger) → ledger_at (ledger_byte L) ≡ L
at_byte Home = refl
at_byte Far = refl

-- the byte 0 or 1 is that of its ledger
pub byte_at : (l : ℕ) → l ≤ 1 → ledger_byte (ledger_at l) ≡ l
byte_at zero h = refl
byte_at (suc zero) h = refl
byte_at (suc (suc l)) h = absurd (omega arith)

-- a ledger is the same as itself
pub same_own : (L : Ledger) → same_ledger L L ≡ true
same_own Home = refl
same_own Far = refl

-- the byte 0 or 1 of a ledger is that ledger's
pub byte_only : (L : Ledger) (n : ℕ) → n ≤ 1 → same_ledger L (ledger_at n) ≡ true → n ≡ ledger_byte L
byte_only Home zero m h = refl
byte_only Home (suc zero) m h = absurd (never_both_tests (sym h))
byte_only Far zero m h = absurd (never_both_tests (sym h))
byte_only Far (suc zero) m h = refl
byte_only L (suc (suc n)) m h = absurd (omega arith)

-- the accounts among which a kind's sender is
pub sender_byte : (accounts : Ledger → ℕ) (k : ℕ) (L : Ledger) → 1 ≤ k → k ≤ 3
    → accounts (sender_ledger (kind_at k L)) ≡ cond (eqb k 3) (accounts (counterpart L)) (accounts L)
sender_byte accounts zero L h m = absurd (omega arith)
sender_byte accounts (suc zero) L h m = refl
sender_byte accounts (suc (suc zero)) L h m = refl
sender_byte accounts (suc (suc (suc zero))) L h m = refl
sender_byte accounts (suc (suc (suc (suc k)))) L h m = absurd (omega arith)

-- the accounts among which its receiver is
pub receiver_byte : (accounts : Ledger → ℕ) (k : ℕ) (L : Ledger) → 1 ≤ k → k ≤ 3
    → accounts (receiver_ledger (kind_at k L)) ≡ cond (eqb k 2) (accounts (counterpart L)) (accounts L)
receiver_byte accounts zero L h m = absurd (omega arith)
receiver_byte accounts (suc zero) L h m = refl
receiver_byte accounts (suc (suc zero)) L h m = refl
receiver_byte accounts (suc (suc (suc zero))) L h m = refl
receiver_byte accounts (suc (suc (suc (suc k)))) L h m = absurd (omega arith)
