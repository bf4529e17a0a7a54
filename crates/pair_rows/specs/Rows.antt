-- The rows of a run of the pair validator: a refusal, or 0, and the figures of the rules' state after it. Assumes nothing.
use Rattle.std.specs.Prelude.{◌+◌, ◌-◌, ℕ, List, Result, ◌≡◌}
use Rattle.answers.specs.Refusals.{refused_by}
use Rattle.answers.specs.declared.refusal.Refusal.{Refusal}
use Rattle.ledgers.specs.declared.Ledger.{Ledger}
use Rattle.ledgers.specs.declared.Ledger.TheVariants.{Far, Home}
use Rattle.pair_core.specs.Layout.{PairReady, pair_view_of}
use Rattle.pair_rows.specs.declared.Figures.{Figures}
use Rattle.rules.specs.Lists.{total}
use Rattle.rules.specs.PairValidator.{PairView}
use Rattle.rules.specs.Rules.{in_flight}

-- a refusal, or 0, with the totals of both ledgers and what is in flight after it
pub record Row : Type 0 where
  pub refusal : ℕ
  pub home : ℕ
  pub far : ℕ
  pub flight : ℕ

-- the row of a refusal, or 0, and of the rules' state after it
abbrev pub row_of : ℕ → PairView → Row
row_of refusal v =
    record {
      refusal = refusal;
      home = total v.pair.home.balances;
      far = total v.pair.far.balances;
      flight = in_flight v.pair;
    }

-- the row of a refusal, or 0, and of figures
abbrev pub row_with : ℕ → Figures → Row
row_with refusal f = record { refusal = refusal; home = f.home; far = f.far; flight = f.flight }

-- the row of a result and of the figures beside it
abbrev pub row_told : Result (Unit {0}) Refusal → Figures → Row
row_told judged f = row_with (refused_by judged) f

-- ## For inner functions

-- an accepted state with the indexes of its numbers, and the row beside it: whatever it refuses, its figures are the state's
pub record RowReady (s index : List ℕ) (row : Row) : Type 0 where
  pub ready : PairReady s index
  pub row_is : row ≡ row_of row.refusal (pair_view_of s)

-- the same of figures
abbrev pub FiguresReady : List ℕ → List ℕ → Figures → Type 0
FiguresReady s index f = RowReady s index (row_with 0 f)

-- the total of a ledger in a row
abbrev pub total_in : Row → Ledger → ℕ
total_in row Home = row.home
total_in row Far = row.far

-- the row after one, with what a passed record takes from a ledger and gives to it
abbrev pub moved_row : ℕ → Row → Ledger → ℕ → ℕ → Row
moved_row supply row Home taken given =
    record {
      refusal = 0;
      home = row.home - taken + given;
      far = row.far;
      flight = supply - (row.home - taken + given) - row.far;
    }
moved_row supply row Far taken given =
    record {
      refusal = 0;
      home = row.home;
      far = row.far - taken + given;
      flight = supply - row.home - (row.far - taken + given);
    }
