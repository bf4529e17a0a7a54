-- The figures of the pair validator (document 01: pair book), the balance of one account, and the places left. Assumes nothing.
use Rattle.std.specs.Prelude.{◌-◌, suc, zero, ℕ, Bool, false, true, List, [], length, Result, Ok, Err}
use Rattle.answers.specs.Answers.{Answer, answer}
use Rattle.answers.specs.Balances.{balance_among, balance_refused}
use Rattle.answers.specs.Balances.{Balance}
use Rattle.answers.specs.Refusals.{refusal_number}
use Rattle.answers.specs.declared.refusal.Refusal.{Refusal}
use Rattle.ledgers.specs.Limits.{capacity}
use Rattle.pair_core.specs.Layout.{pair_view_of}
use Rattle.pair_validator.specs.declared.asked.PairFigures.{PairFigures as FiguresGiven}
use Rattle.pair_validator.specs.declared.asked.PairPlaces.{PairPlaces as PlacesGiven}
use Rattle.rules.specs.Lists.{total}
use Rattle.rules.specs.Rules.{PairState, in_flight}

-- the totals of both ledgers and what is in flight, beside the answer
pub record PairFigures : Type 0 where
  pub answer : Answer
  pub home : ℕ
  pub far : ℕ
  pub flight : ℕ

-- the places left on both ledgers, beside the answer
pub record PairPlaces : Type 0 where
  pub answer : Answer
  pub home : ℕ
  pub far : ℕ

-- what the result of a call for the figures tells: a refusal comes with zeros
abbrev pub figures_told : Result FiguresGiven Refusal → PairFigures
figures_told (Ok f) = record { answer = answer 0 0; home = f.home; far = f.far; flight = f.flight }
figures_told (Err r) = record { answer = answer (refusal_number r) 0; home = 0; far = 0; flight = 0 }

-- of a call for the places left
abbrev pub places_told : Result PlacesGiven Refusal → PairPlaces
places_told (Ok p) = record { answer = answer 0 0; home = p.home; far = p.far }
places_told (Err r) = record { answer = answer (refusal_number r) 0; home = 0; far = 0 }

-- the totals of both ledgers and in flight, of words that are accepted or not
abbrev pub pair_figures_of : Bool → List ℕ → PairFigures
pair_figures_of true s =
    record {
      answer = answer 0 0;
      home = total (pair_view_of s).pair.home.balances;
      far = total (pair_view_of s).pair.far.balances;
      flight = in_flight (pair_view_of s).pair;
    }
pair_figures_of false s = record { answer = answer 3 0; home = 0; far = 0; flight = 0 }

-- the balances of the ledger with a byte; a byte of no ledger has no accounts
abbrev pub balances_under : PairState → ℕ → List ℕ
balances_under p zero = p.home.balances
balances_under p (suc zero) = p.far.balances
balances_under p (suc (suc l)) = []

-- the balance of an account of the ledger with a byte, of words that are accepted or not
abbrev pub pair_balance_of : Bool → List ℕ → ℕ → ℕ → Balance
pair_balance_of true s l a = balance_among (balances_under (pair_view_of s).pair l) a
pair_balance_of false s l a = balance_refused 3

-- the places left on each ledger (document 01: 512 passed records a ledger), of words that are accepted or not
abbrev pub pair_places_of : Bool → List ℕ → PairPlaces
pair_places_of true s =
    record {
      answer = answer 0 0;
      home = capacity - length (pair_view_of s).pair.home.passed;
      far = capacity - length (pair_view_of s).pair.far.passed;
    }
pair_places_of false s = record { answer = answer 3 0; home = 0; far = 0 }
