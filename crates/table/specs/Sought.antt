-- A place that has what is looked for has its number: laws of both tests. Assumes nothing.
use Rattle.std.specs.Prelude.{Bool, List, ◌≡◌, eqb, true, ℕ}
use Rattle.wire.proofs.Prelude.{eqb-true}
use Rattle.rules.specs.Lists.{same_truth}
use Rattle.table.specs.Table.{arrival_in, head_at, number_at, sent_at, used_at}
use Rattle.wire.proofs.Lists.{and_both, every_first}

-- a place with a number in a class has the number
pub used_numbered : (arrival : Bool) (x : ℕ) (s : List ℕ) (from j : ℕ) → used_at arrival x s from j ≡ true → x ≡ number_at s from j
used_numbered arrival x s from j h =
    eqb-true x (number_at s from j) (and_both (same_truth arrival (arrival_in (head_at s from j))) (eqb x (number_at s from j)) h).1

-- and so has a place with a number, a head and an amount
pub sent_numbered : (x head amount : ℕ) (s : List ℕ) (from j : ℕ) → sent_at x head amount s from j ≡ true → x ≡ number_at s from j
unfolding sent_at
sent_numbered x head amount s from j h = eqb-true x (number_at s from j) (every_first _ _ h).0
