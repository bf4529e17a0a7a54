-- Balances from a place on, and their total. Assumes nothing.
use Rattle.wire.proofs.Prelude.{List, ◌+◌, ◌∙◌, ◌≡◌, ◌≤◌, ap, arith, drop, drop-cons, get_or, length, refl, suc, take, zero, ℕ}
use Rattle.places.specs.OverPlaces.{sum_at}
use Rattle.rules.specs.Lists.{sum, total}

-- the total of n balances from a place on
pub balances_sum : (b : List ℕ) (from n : ℕ) → from + n ≤ length b
    → total (take n (drop from b)) ≡ sum_at (λ (i : ℕ). get_or b i 0) from n
unfolding sum sum_at
balances_sum b from zero h = refl
balances_sum b from (suc n) h =
    ap (λ (s : List ℕ). total (take (suc n) s)) (drop-cons b from 0 (omega arith))
    ∙ ap (λ (s : ℕ). get_or b from 0 + s) (balances_sum b (suc from) n (omega arith))
