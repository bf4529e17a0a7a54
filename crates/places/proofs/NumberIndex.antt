-- Laws of lists of numbers that hold an index: zeros, and what stays beside what is written. Assumes nothing.
use Rattle.wire.proofs.Prelude.{List, ◌<◌, ◌∙◌, ◌≡◌, ◌≤◌, arith, get_or, get_or-set_other, length-set, refl, replicate, set, suc, zero, ℕ}
use Rattle.places.specs.NumberIndex.{Kept}

-- an entry of a list of zeros
pub zero_at : (n i : ℕ) → get_or (replicate n zero) i 0 ≡ 0
zero_at zero i = refl
zero_at (suc n) zero = refl
zero_at (suc n) (suc i) = zero_at n i

-- one place is written
pub kept_set : {a b : ℕ} (xs : List ℕ) (k v : ℕ) → a ≤ k → k < b → Kept a b xs (set xs k v)
kept_set xs k v p q =
    record {
      long = length-set xs k v;
      before = λ j r. get_or-set_other xs k j v 0 (λ s. omega arith);
      after = λ j r. get_or-set_other xs k j v 0 (λ s. omega arith);
    }

-- twice written
pub kept_twice : {a b : ℕ} {xs ys zs : List ℕ} → Kept a b xs ys → Kept a b ys zs → Kept a b xs zs
kept_twice f g =
    record {
      long = g.long ∙ f.long;
      before = λ k p. g.before k p ∙ f.before k p;
      after = λ k p. g.after k p ∙ f.after k p;
    }
