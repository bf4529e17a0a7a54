-- The kinds of a block, and their bytes (document 01, "The journal"). Assumes nothing.
use Rattle.std.specs.Prelude.{ℕ}
pub use Rattle.journal_blocks.specs.declared.format.BlockKind.{BlockKind}
pub use Rattle.journal_blocks.specs.declared.format.BlockKind.TheVariants.{HomeBalances, FarBalances, Records}

-- the byte of each
abbrev pub kind_byte : BlockKind → ℕ
kind_byte HomeBalances = 1
kind_byte FarBalances = 2
kind_byte Records = 3
