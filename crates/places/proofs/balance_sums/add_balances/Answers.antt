-- `add_balances` meets its contract. Assumes nothing.
use Rattle.wire.proofs.Prelude.{◌+◌, ◌-◌, ◌≡◌, arith, get_or, refl, ℕ}
use Rattle.places.proofs.ExactSums.{halves_added, halves_more, halves_none}
use Rattle.places.proofs.OverPlaces.{sum_more, sum_none}
use Rattle.places.proofs.Slices.{part_at, part_length}
use Rattle.places.proofs.balance_sums.add_balances.Goals as goal

-- the sum of no balance
pub loop-b-init : goal.loop-b-init
loop-b-init c =
    let z : c.args.from - c.args.from ≡ 0 = omega arith in
    let d = c.default-sum.ensures in
    rw (d.0, d.1) (halves_none _ _ (rw z at (sum_none (λ (j : ℕ). get_or c.args.balances.now j 0) c.args.from)))

-- both sums leave room for one more
pub add-sum-requires : goal.add-sum-requires
add-sum-requires c =
    let h = c.loop-b.invariant in
    omega (arith, h.high_most, h.low_most, c.requires.1, part_length c.args.balances.now c.args.from c.args.n c.requires.0)

-- and of one more
pub loop-b-preserved : goal.loop-b-preserved
loop-b-preserved c =
    let a = c.args in
    let l = c.loop-b in
    let f : ℕ → ℕ = λ (j : ℕ). get_or a.balances.now j 0 in
    let e = part_at a.balances.now a.from a.n l.b-index 0 (omega arith) in
    let y : a.from + l.b-index + 1 - a.from ≡ l.b-index + 1 = omega arith in
    let z : a.from + l.b-index - a.from ≡ l.b-index = omega arith in
    let more = rw (y, z) at (sum_more f a.from (a.from + l.b-index) (omega arith)) in
    let g = c.add-sum.ensures in
    rw (g.0, g.1, e)
    (halves_more _ _ l.sum.high l.sum.low (f (a.from + l.b-index)) _ _ l.invariant (c.type_inv.balances (a.from + l.b-index)).fits more refl)

pub returns : goal.returns
returns c =
    let a = c.args in
    let z : c.loop-b.b-index ≡ a.n = omega (arith, part_length a.balances.now a.from a.n c.requires.0) in
    halves_added a.start c.add_halves.result (rw z at c.loop-b.invariant) c.add_halves.ensures
