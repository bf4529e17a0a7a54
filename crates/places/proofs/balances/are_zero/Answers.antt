-- `are_zero` meets its contract. Assumes nothing.
use Rattle.wire.proofs.Prelude.{◌≡◌, rules, ℕ}
use Rattle.std.proofs.Common.{tests}
use Rattle.std.proofs.lemmas.Iterator.{YieldsList-from_slice, cases_from_all}
use Rattle.places.proofs.Slices.{part_zeros}
use Rattle.places.proofs.balances.are_zero.Goals as goal

pub returns : goal.returns
returns c =
    let a = c.args in
    let each = cases_from_all _ _ _ (λ (x : ℕ). x ≡ 0) (λ (x : ℕ). x ≡ 0 → ⊥) c.all.ensures.ran (YieldsList-from_slice _ c.iter.ensures.rest)
    (λ x q k. search (rules, tests)) (λ x q k. search (rules, tests)) in
    part_zeros a.balances.now a.from a.n c.all.result c.requires each
