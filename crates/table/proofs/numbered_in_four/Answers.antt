-- `numbered_in_four` meets its contract. Assumes nothing.
use Rattle.table.proofs.Scanning.{four_numbers}
use Rattle.table.proofs.numbered_in_four.Goals as goal

pub returns : goal.returns
returns c = four_numbers c.args.x c.args.words.now c.args.from c.args.i
