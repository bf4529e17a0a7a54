-- The records before the one that the loop is at are backed, and the sums are theirs. Assumes nothing.
use Rattle.wire.proofs.Prelude.{◌-◌, ◌≡◌}
use Rattle.ledgers.specs.Ledgers.{ledger_byte}
use Rattle.places.specs.OverPlaces.{all_at}
use Rattle.table.specs.Table.{FlowsAt, backed_at}
use Rattle.table.proofs.Held.crossings.Given as goal

abbrev pub invariant-loop-i : goal.invariant-loop-i
invariant-loop-i l =
    let p = backed_at l.self.words.now l.from (ledger_byte l.o) l.self.from l.self.count in
    record {
      backed : all_at p 0 l.m ≡ all_at p l.i (l.m - l.i);
      sums : FlowsAt l.self.words.now l.from l.i l.flows;
    }
