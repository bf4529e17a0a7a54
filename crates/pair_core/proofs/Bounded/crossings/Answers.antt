-- A ledger's records lie within the words. Assumes nothing.
use Rattle.std.proofs.Common.{arith}
use Rattle.pair_core.proofs.Bounded.crossings.Goals as goal
use Rattle.pair_core.proofs.Ledgers.{ledger_fits}

pub crossings-requires : goal.crossings-requires
crossings-requires c =
    let f = ledger_fits c.args.self.words.now c.args.self.in_bounds.bounded c.args.l in (
      rw c.held-others.ensures.words (omega (arith, c.args.self.in_bounds.long, f.room, c.records_word.ensures.1, c.count_on.ensures)),
      omega (arith, f.room, c.count_on.ensures),
    )
