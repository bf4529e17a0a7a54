-- The records before the one that the loop is at may be held, and the index is that of their numbers, which are apart. Assumes nothing.
use Rattle.wire.proofs.Prelude.{◌+◌, ◌-◌, ◌<◌, ◌≡◌, ◌≤◌, get_or, ℕ}
use Rattle.places.proofs.Apart.{Apart}
use Rattle.places.specs.NumberIndex.{Kept, chain_count}
use Rattle.places.specs.OverPlaces.{all_at}
use Rattle.table.specs.Table.{IndexOf, accounts_by, may_hold_at, shared_at}
use Rattle.table.proofs.hold_indexed.Given as goal

abbrev pub invariant-loop-i : goal.invariant-loop-i
invariant-loop-i l =
    let x = l.limits in
    let p = may_hold_at l.words l.from x.ledger (accounts_by x.ledger x.own x.other) in
    record {
      held : all_at p 0 l.n ≡ all_at p l.i (l.n - l.i);
      others : Kept l.base (l.base + chain_count + l.n) l.initial.index l.index;
      indexed : IndexOf l.words l.from l.index l.base l.i;
      apart : Apart (shared_at l.words l.from) l.i;
      empty : (k : ℕ) → l.i ≤ k → k < l.n → get_or l.index (l.base + chain_count + k) 0 ≡ 0;
    }
