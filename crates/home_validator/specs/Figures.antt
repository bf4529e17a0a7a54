-- The figures of the home validator (document 01: guard), the balance of one account, and the places left. Assumes nothing.
use Rattle.std.specs.Prelude.{◌-◌, ℕ, Bool, false, true, List, length, Result, Ok, Err}
use Rattle.answers.specs.Answers.{Answer, answer}
use Rattle.answers.specs.Balances.{balance_among, balance_refused}
use Rattle.answers.specs.Balances.{Balance}
use Rattle.answers.specs.Refusals.{refusal_number}
use Rattle.answers.specs.declared.refusal.Refusal.{Refusal}
use Rattle.home_core.specs.Layout.{home_view_of, pool_of}
use Rattle.home_validator.specs.declared.asked.HomeFigures.{HomeFigures as Told}
use Rattle.ledgers.specs.Limits.{capacity}
use Rattle.rules.specs.Lists.{total}

-- the home total and the far pool, beside the answer; 0 where they are refused
pub record HomeFigures : Type 0 where
  pub answer : Answer
  pub home : ℕ
  pub pool : ℕ

-- what the result of a call for them tells
abbrev pub figures_told : Result Told Refusal → HomeFigures
figures_told (Ok f) = record { answer = answer 0 0; home = f.home; pool = f.pool }
figures_told (Err r) = record { answer = answer (refusal_number r) 0; home = 0; pool = 0 }

-- the home total and the far pool, of words that are accepted or not
abbrev pub home_figures_of : Bool → List ℕ → HomeFigures
home_figures_of true s = record { answer = answer 0 0; home = total (home_view_of s).home.balances; pool = pool_of s }
home_figures_of false s = record { answer = answer 3 0; home = 0; pool = 0 }

-- the balance of a home account, of words that are accepted or not
abbrev pub home_balance_of : Bool → List ℕ → ℕ → Balance
home_balance_of true s a = balance_among (home_view_of s).home.balances a
home_balance_of false s a = balance_refused 3

-- the places left on the home ledger, beside the answer; 0 where they are refused
pub record HomePlaces : Type 0 where
  pub answer : Answer
  pub home : ℕ

-- what the result of a call for them tells
abbrev pub places_told : Result ℕ Refusal → HomePlaces
places_told (Ok n) = record { answer = answer 0 0; home = n }
places_told (Err r) = record { answer = answer (refusal_number r) 0; home = 0 }

-- the places left on the home ledger (document 01: 512 passed records a ledger), of words that are accepted or not
abbrev pub home_places_of : Bool → List ℕ → HomePlaces
home_places_of true s = record { answer = answer 0 0; home = capacity - length (home_view_of s).home.passed }
home_places_of false s = record { answer = answer 3 0; home = 0 }
