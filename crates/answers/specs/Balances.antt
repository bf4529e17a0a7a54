-- The balance of one account among the balances of a ledger. Assumes nothing.
use Rattle.std.specs.Prelude.{ℕ, Bool, false, true, List, ltb, get_or, length, Result, Ok, Err}
use Rattle.answers.specs.Answers.{Answer, answer}
use Rattle.answers.specs.Refusals.{Refusal, refusal_number}

-- the balance of an account, beside the answer; 0 where it is refused
pub record Balance : Type 0 where
  pub answer : Answer
  pub balance : ℕ

-- a refusal in place of a balance
abbrev pub balance_refused : ℕ → Balance
balance_refused n = record { answer = answer n 0; balance = 0 }

-- what the result of a call for a balance tells
abbrev pub balance_told : Result ℕ Refusal → Balance
balance_told (Ok b) = record { answer = answer 0 0; balance = b }
balance_told (Err r) = balance_refused (refusal_number r)

-- a balance where the account is open, and 22 where it is not (Refusals: 22)
abbrev pub if_open : Bool → ℕ → Balance
if_open true n = record { answer = answer 0 0; balance = n }
if_open false n = balance_refused 22

-- the balance of the account with a number, of those that have these balances
unfoldable pub balance_among : List ℕ → ℕ → Balance
balance_among xs a = if_open (ltb a (length xs)) (get_or xs a 0)
