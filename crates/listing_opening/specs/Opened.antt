-- What the opening of a listing leaves: its figures, and the state in words. For inner functions only. Assumes nothing.
use Rattle.std.specs.Prelude.{ℕ, List, [], ◌++◌, ◌≡◌}
use Rattle.journal_blocks.specs.Blocks.{balances_of, stated_count, tariff_in}
use Rattle.listing.specs.Listing.{opening_text}
use Rattle.listing_opening.specs.declared.Start.{Start}
use Rattle.pair_core.specs.Layout.{pair_opened_words}
use Rattle.pair_rows.specs.Rows.{row_of, row_with}
use Rattle.rules.specs.PairValidator.{pair_opened, pair_opening_refusal}

-- an accepted opening of blocks 0 and 1: its figures, the count of block 1, and the words; the text goes on after the opening's
pub record OpenedIn (home far : List ℕ) (start : Start) (state : List ℕ) : Type 0 where
  pub continues : (rest : List ℕ) → opening_text home far rest ≡ opening_text home far [] ++ rest
  pub unrefused : pair_opening_refusal (tariff_in home) (balances_of home) (balances_of far) ≡ 0
  pub row_is : row_with 0 start.figures ≡ row_of 0 (pair_opened (tariff_in home) (balances_of home) (balances_of far))
  pub before_is : start.before ≡ stated_count far
  pub state_is : state ≡ pair_opened_words (tariff_in home) (balances_of home) (balances_of far)
