-- The words of an accepted state are in bounds, and each index is that of its ledger's numbers. Assumes nothing.
use Rattle.pair_core.proofs.Accepted.held.Goals as goal
use Rattle.pair_core.proofs.Ledgers.{byte_below}
use Rattle.ledgers.specs.Ledgers.{ledger_byte}

pub invariant_of-bounded : goal.invariant_of-bounded
invariant_of-bounded c = record { in_bounds = c.args.self.ready.1 }

pub held-requires : goal.held-requires
held-requires c = c.args.self.ready.0.indexed (ledger_byte c.args.l) (byte_below c.args.l)
