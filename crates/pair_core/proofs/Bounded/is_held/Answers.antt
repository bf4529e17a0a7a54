-- A ledger's records and its index lie within the words and the indexes. Assumes nothing.
use Rattle.std.proofs.Common.{◌+◌, arith}
use Rattle.ledgers.specs.Ledgers.{ledger_byte}
use Rattle.pair_core.proofs.Bounded.is_held.Goals as goal
use Rattle.pair_core.proofs.Ledgers.{ledger_fits}
use Rattle.pair_core.specs.Layout.{index_on}
use Rattle.table.proofs.Growing.{kept_longer}
use Rattle.table.specs.Table.{index_length}

pub new-limits-requires : goal.new-limits-requires
new-limits-requires c =
    let w = c.args.self.words.now in
    let f = ledger_fits w c.args.self.in_bounds.bounded c.args.l in
    let o = ledger_fits w c.args.self.in_bounds.bounded c.counterpart.result in
    omega (arith, f.accounts, o.accounts, c.accounts_on-own.ensures, c.accounts_on-other.ensures)

pub hold_indexed-requires : goal.hold_indexed-requires
hold_indexed-requires c =
    let f = ledger_fits c.args.self.words.now c.args.self.in_bounds.bounded c.args.l in (
      omega (arith, c.args.self.in_bounds.long, f.room, c.records_word.ensures.1, c.count_on.ensures),
      omega (arith, c.told-index, f.room, c.index_start.ensures.1, c.count_on.ensures),
      omega (arith, f.room, c.count_on.ensures),
      rw c.index_start.ensures.0 c.requires,
    )

pub returns-clause-others : goal.returns-clause-others
returns-clause-others c =
    let f = ledger_fits c.args.self.words.now c.args.self.in_bounds.bounded c.args.l in
    kept_longer (index_on (ledger_byte c.args.l) + index_length) (omega (arith, f.room, c.count_on.ensures))
    (rw (c.index_start.ensures.0, c.count_on.ensures) at c.hold_indexed.ensures.others)
