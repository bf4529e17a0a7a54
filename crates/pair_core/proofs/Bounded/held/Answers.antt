-- A ledger's records and its index lie within the words and the indexes. Assumes nothing.
use Rattle.std.proofs.Common.{arith}
use Rattle.pair_core.proofs.Bounded.held.Goals as goal
use Rattle.pair_core.proofs.Ledgers.{ledger_fits}

pub invariant_of-result : goal.invariant_of-result
invariant_of-result c =
    let f = ledger_fits c.args.self.words.now c.args.self.in_bounds.bounded c.args.l in
    record {
      indexed = (
        omega (arith, c.args.self.in_bounds.long, f.room, c.records_word.ensures.1, c.count_on.ensures),
        omega (arith, c.told-index, f.room, c.index_start.ensures.1, c.count_on.ensures),
        rw (c.records_word.ensures.0, c.index_start.ensures.0, c.count_on.ensures) c.requires,
      );
    }
