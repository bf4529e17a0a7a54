-- The balances of a ledger in the words of a state: none is more than their total, and what is given to one stays in 64 bits.
-- Assumes nothing.
use Rattle.wire.proofs.Prelude.{Bool, List, ◌+◌, ◌-◌, ◌<◌, ◌^◌, ◌∙◌, ◌≡◌, ◌≤◌, arith, drop, eqb, eqb-true, false, get_or, get_or-drop}
use Rattle.wire.proofs.Prelude.{get_or-take, length, ltb, ltb-false, ltb-true, refl, sym, true, ℕ}
use Rattle.ledgers.specs.Limits.{max_amount}
use Rattle.places.proofs.OverPlaces.{all_each}
use Rattle.places.proofs.PassedRecord.{credit_most, stored_fits}
use Rattle.places.specs.Amounts.{credit_by, debit_by, payee_by}
use Rattle.places.specs.LedgerBalances.{zeros_at}
use Rattle.records.specs.declared.Record.{Record}
use Rattle.rules.proofs.Lists.{balance_total}
use Rattle.rules.specs.Lists.{lowered, total}
use Rattle.rules.specs.Rules.{Tariff}
use Rattle.table.specs.Table.{ledger_in}
use Rattle.tariffs.specs.Tariffs.{parts}

module _ (t : Tariff) (s : List ℕ) (from accounts records count : ℕ) where
  -- an account's balance, as the rules have it
  pub balance_in : (i : ℕ) → i < accounts → get_or s (from + i) 0 ≡ get_or (ledger_in t s from accounts records count).balances i 0
  unfolding ledger_in
  balance_in i h = sym (get_or-take accounts (drop from s) i 0 h ∙ get_or-drop from s i 0)

  module _ (limit : ℕ) (zeros : zeros_at s (from + accounts) (limit - accounts) ≡ true) where
    -- one beyond the accounts is zero
    beyond_zero : (i : ℕ) → accounts ≤ i → i < limit → get_or s (from + i) 0 ≡ 0
    unfolding zeros_at
    beyond_zero i a b =
        eqb-true _ 0
        (all_each (λ (j : ℕ). eqb (get_or s j 0) 0) (from + accounts) (limit - accounts) zeros (from + i) (omega arith) (omega arith))

    -- any is at most what the total is
    pub balance_fits : (most : ℕ) → total (ledger_in t s from accounts records count).balances ≤ most → (i : ℕ) → i < limit
        → get_or s (from + i) 0 ≤ most
    balance_fits most m i h = go (ltb i accounts) refl
      where
        go : (u : Bool) → ltb i accounts ≡ u → get_or s (from + i) 0 ≤ most
        go true q =
            omega (arith, balance_in i (ltb-true i accounts q), balance_total (ledger_in t s from accounts records count).balances i, m)
        go false q = omega (arith, beyond_zero i (ltb-false i accounts q) h)

-- what is given to an account stays in 64 bits
pub given_fits : (t : Tariff) (s : List ℕ) (from : ℕ) (r : Record) → t.rate ≤ parts → from + r.sender < length s
    → get_or s (from + r.sender) 0 ≤ max_amount → get_or s (from + payee_by t.account r.kind r.receiver) 0 ≤ max_amount
    → r.amount ≤ max_amount
    → get_or (lowered s (from + r.sender) (debit_by t.rate r.kind r.amount)) (from + payee_by t.account r.kind r.receiver) 0
    + credit_by t.rate r.kind r.amount < 2 ^ 64
unfolding lowered
given_fits t s from r y h a b m =
    let p : ℕ = payee_by t.account r.kind r.receiver in
    let f =
    stored_fits s (from + r.sender) (from + p) (get_or s (from + r.sender) 0 - debit_by t.rate r.kind r.amount) max_amount h
    (omega (arith, a)) b in
    omega (arith, f, m, credit_most t.rate y r.kind r.amount)
