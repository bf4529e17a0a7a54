-- `wire::BigEndian::of` of `u64`: the library's number. Assumes nothing.
use Rattle.std.proofs.lemmas.Nat.{be_bytes_8}
use Rattle.wire.proofs.Prelude.{rules}
use Rattle.wire.proofs.Numbers.{written_by}
use Rattle.wire.proofs.U64BigEndian8.of.Goals as goal

pub returns : goal.returns
returns c = written_by 8 c.from_be_bytes.result (search rules) (be_bytes_8 _ _ (search rules) (search rules) c.from_be_bytes.ensures)
