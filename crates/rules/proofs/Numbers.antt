-- A number that a judgement never gives: none of its tests has it. Assumes nothing.
use Rattle.wire.proofs.Prelude.{Bool, ◌≡◌, eqb, eqb-false, false, suc, true, zero, ℕ}
use Rattle.answers.specs.Answers.{or_else, refuse}

-- n is not the number m
unfoldable pub Other : ℕ → ℕ → Type 0
Other m n = n ≡ m → ⊥

-- a numeral
pub other_numeral : (m n : ℕ) → eqb n m ≡ false → Other m n
unfolding Other
other_numeral m n h = eqb-false n m h

-- a test with another number, before what is never m
pub other_refuse : (m : ℕ) (t : Bool) (n later : ℕ) → Other m n → Other m later → Other m (refuse t n later)
other_refuse m true n later h k = h
other_refuse m false n later h k = k

-- what is never m, before what is never m
pub other_else : (m n later : ℕ) → Other m n → Other m later → Other m (or_else n later)
other_else m zero later h k = k
other_else m (suc n) later h k = h

-- a judgement of tests
pub ruleset others = (other_refuse, other_else, other_numeral)
