-- What home's network takes on each sending that leaves home (document 02, U3). Assumes nothing.
use Rattle.std.specs.Prelude.{ℕ, ◌+◌, ◌*◌, ◌/◌, Bool, true, List, [], ◌∷◌, map, ◌≡◌, eqb, leb, ltb, get_or, Result, Ok, Err}
use Rattle.answers.specs.Answers.{Answer, answer, refuse, unless_refused}
use Rattle.answers.specs.Refusals.{refusal_number}
use Rattle.answers.specs.declared.refusal.Refusal.{Refusal}
use Rattle.wire.specs.BigEndian.{every}
pub use Rattle.tariffs.specs.declared.Tariff.{Tariff}

-- the ten-thousandths of a whole: the greatest rate
abbrev pub parts : ℕ
parts = 10000

-- nothing taken: what the far ledger has, and home in journals of before
abbrev pub free : Tariff
free = record { rate = 0; account = 0 }

-- a tariff is that one
unfoldable pub takes_nothing : Tariff → Bool
takes_nothing t = every (eqb t.rate 0 ∷ eqb t.account 0 ∷ [])

-- the charge on an amount that leaves home: so many ten-thousandths of it, rounded down
unfoldable pub charge : ℕ → ℕ → ℕ
charge rate amount = amount * rate / parts

-- charges by rate and amount: rounded down, nothing at rate 0, as much as the amount at 10,000, and exact where the product is beyond 64
-- bits
unfoldable pub rounded_rows : List (List ℕ)
rounded_rows =
    (0 ∷ 9223372036854775807 ∷ 0 ∷ [])
    ∷ (1 ∷ 9999 ∷ 0 ∷ [])
    ∷ (1 ∷ 10000 ∷ 1 ∷ [])
    ∷ (50 ∷ 199 ∷ 0 ∷ [])
    ∷ (50 ∷ 200 ∷ 1 ∷ [])
    ∷ (50 ∷ 399 ∷ 1 ∷ [])
    ∷ (50 ∷ 400 ∷ 2 ∷ [])
    ∷ (9999 ∷ 1 ∷ 0 ∷ [])
    ∷ (9999 ∷ 9999 ∷ 9998 ∷ [])
    ∷ (9999 ∷ 4611916614258100809 ∷ 4611455422596674998 ∷ [])
    ∷ (9999 ∷ 9223372036854775807 ∷ 9222449699651090329 ∷ [])
    ∷ (10000 ∷ 9223372036854775807 ∷ 9223372036854775807 ∷ [])
    ∷ []

-- a row of rate, amount and charge holds
abbrev pub row_holds : List ℕ → Bool
row_holds row = eqb (charge (get_or row 0 0) (get_or row 1 0)) (get_or row 2 0)

-- and so does each
unfoldable pub ChargesHold : Type 0
ChargesHold = every (map row_holds rounded_rows) ≡ true

-- what the amount costs its sender: itself and the charge
abbrev pub cost : ℕ → ℕ → ℕ
cost rate amount = amount + charge rate amount

-- what 52 asks where home has so many accounts: the rate is at most 10,000, and the account is open, whatever the rate is
unfoldable pub tariff_allowed : Tariff → ℕ → Bool
tariff_allowed t accounts = every (leb t.rate parts ∷ ltb t.account accounts ∷ [])

-- ## Asked by itself

-- a rate above 10,000 is 52
unfoldable pub rate_refusal : ℕ → ℕ
rate_refusal rate = refuse (ltb parts rate) 52 0

-- an answer, and the charge on an amount; 0 where it is refused
pub record Charged : Type 0 where
  pub answer : Answer
  pub charge : ℕ

-- what the result of a call for a charge tells
abbrev pub told : Result ℕ Refusal → Charged
told (Ok c) = record { answer = answer 0 0; charge = c }
told (Err r) = record { answer = answer (refusal_number r) 0; charge = 0 }

-- the charge on an amount, with its answer
unfoldable pub charge_told : ℕ → ℕ → Charged
charge_told rate amount =
    record { answer = answer (rate_refusal rate) 0; charge = unless_refused (rate_refusal rate) (charge rate amount) 0 }
