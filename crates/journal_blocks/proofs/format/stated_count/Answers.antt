-- The goals of `journal_blocks::format::stated_count`. Assumes nothing.
use Rattle.wire.proofs.Prelude.{arith}
use Rattle.wire.proofs.Numbers.{field_none, field_one}
use Rattle.std.proofs.lemmas.Grind.{common_steps}
use Rattle.journal_blocks.proofs.format.stated_count.Goals as goal

pub returns : goal.returns
returns c = grind (arith, common_steps, field_one, field_none)
