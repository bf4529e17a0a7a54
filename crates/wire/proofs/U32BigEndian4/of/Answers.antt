-- `wire::BigEndian::of` of `u32`: the library's number. Assumes nothing.
use Rattle.std.proofs.lemmas.Nat.{be_bytes_4}
use Rattle.wire.proofs.Prelude.{rules}
use Rattle.wire.proofs.Numbers.{written_by}
use Rattle.wire.proofs.U32BigEndian4.of.Goals as goal

pub returns : goal.returns
returns c = written_by 4 c.from_be_bytes.result (search rules) (be_bytes_4 _ _ (search rules) (search rules) c.from_be_bytes.ensures)
