-- For every list of records, the answers and figures that a listing folds over it are those of a run of the pair validator
-- (document 01, The runs of demand 3). A listing folds block by block; that this is one list is ListedWhole (listing_claims). Assumes
-- nothing.
use Rattle.std.specs.Prelude.{ℕ, ◌+◌, List, [], ◌∷◌, ◌++◌, ◌≡◌}
use Rattle.answers.specs.Answers.{number_of}
use Rattle.ledgers.specs.Limits.{capacity}
use Rattle.listing.specs.Listing.{state_listed}
use Rattle.rules.specs.Calls.{Call, call, one, passed_records, run}
use Rattle.rules.specs.Lists.{total}
use Rattle.rules.specs.PairValidator.{PairView, in_flight_of, pair_opened, pair_opening_refusal, pair_validator}
use Rattle.rules.specs.Rules.{Tariff, in_flight}

-- a call with each record
unfoldable pub one_by_one : List (List ℕ) → List Call
one_by_one [] = []
one_by_one (b ∷ bs) = one b ∷ one_by_one bs

-- the state of the listing after records, from an opening
abbrev pub listed : Tariff → List ℕ → List ℕ → List (List ℕ) → PairView
listed tariff homes fars bs = state_listed (pair_validator capacity) (pair_opened tariff homes fars) bs

-- what holds of the line of record b, after the records bs
pub record LineAsRun (tariff : Tariff) (homes fars : List ℕ) (bs : List (List ℕ)) (b : List ℕ) : Type 0 where
  -- its answer is the call's
  pub answer_is : (pair_validator capacity).judge (listed tariff homes fars bs) b
      ≡ number_of
      (call (pair_validator capacity) (run (pair_validator capacity) (pair_opened tariff homes fars) (one_by_one bs)) (one b)).answer
  -- its figures are those of the state that the run reaches with it
  pub state_is : listed tariff homes fars (bs ++ b ∷ []) ≡ run (pair_validator capacity) (pair_opened tariff homes fars) (one_by_one (bs ++ b ∷ []))
  -- in flight is the one worked out from the passed records
  pub flight_is : in_flight (listed tariff homes fars (bs ++ b ∷ [])).pair
      ≡ in_flight_of (passed_records (pair_validator capacity) (pair_opened tariff homes fars) (one_by_one (bs ++ b ∷ [])))
  -- the three figures add up to the supply
  pub conserved : total (listed tariff homes fars (bs ++ b ∷ [])).pair.home.balances
      + total (listed tariff homes fars (bs ++ b ∷ [])).pair.far.balances
      + in_flight (listed tariff homes fars (bs ++ b ∷ [])).pair
      ≡ total homes + total fars

-- so it is for every line after every accepted opening
unfoldable pub ListedAsRun : Type 0
ListedAsRun =
    (tariff : Tariff) (homes fars : List ℕ) → pair_opening_refusal tariff homes fars ≡ 0 → (bs : List (List ℕ)) (b : List ℕ)
    → LineAsRun tariff homes fars bs b
