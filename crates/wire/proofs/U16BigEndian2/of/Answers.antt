-- `wire::BigEndian::of` of `u16`: the library's number. Assumes nothing.
use Rattle.std.proofs.lemmas.Nat.{be_bytes_2}
use Rattle.wire.proofs.Prelude.{rules}
use Rattle.wire.proofs.Numbers.{written_by}
use Rattle.wire.proofs.U16BigEndian2.of.Goals as goal

pub returns : goal.returns
returns c = written_by 2 c.from_be_bytes.result (search rules) (be_bytes_2 _ _ (search rules) (search rules) c.from_be_bytes.ensures)
