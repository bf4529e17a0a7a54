-- The first i balances stand in the table, and zeros after them.
use Rattle.wire.proofs.Prelude.{◌++◌, ◌-◌, ◌≡◌, ◌≤◌, replicate}
use Rattle.journal_blocks.specs.Blocks.{first_balances}
use Rattle.journal_reader.proofs.balances.judged_balances.Given as goal

abbrev pub invariant-loop-i : goal.invariant-loop-i
invariant-loop-i l = (l.i ≤ l.count) × (l.count ≤ 56) × (l.table ≡ first_balances l.i l.block ++ replicate (56 - l.i) 0)
