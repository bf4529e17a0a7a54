-- Where the program's listing stands. For inner functions only. Assumes nothing.
use Rattle.std.specs.Prelude.{◌+◌, Bool, is_some, suc, true, ℕ, List}
use Rattle.std.specs.ControlFlow.{continue_value}
use Rattle.std.specs.declared.ops.ControlFlow.{ControlFlow}
use Rattle.listing.specs.Listing.{Progress}
use Rattle.listing_blocks.specs.declared.cursor.Cursor.{Cursor}

-- whether a listing goes on, by what a function of it hands back
abbrev pub goes : ControlFlow Unit Unit → Bool
goes flow = is_some (continue_value flow)

-- where the listing stands, by the program's cursor, whether it goes on, and its state in words
abbrev pub progress_of : Cursor → Bool → List ℕ → Progress (List ℕ)
progress_of cursor going s = record { state = s; index = cursor.index; block = cursor.block; before = cursor.before; going = going }

-- where it stands after a block of as many records, with the state after them
abbrev pub progress_after : Cursor → ℕ → List ℕ → Progress (List ℕ)
progress_after cursor count s = record { state = s; index = cursor.index + count; block = suc cursor.block; before = count; going = true }
