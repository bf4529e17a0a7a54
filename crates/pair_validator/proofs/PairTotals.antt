-- Laws of the totals, the figures, the balance of an account and the places left of accepted words. Assumes nothing.
use Rattle.wire.proofs.Prelude.{List, ◌*◌, ◌+◌, ◌-◌, ◌<◌, ◌∙◌, ◌≡◌, ◌≤◌, arith, drop, false, get_or, le-ltb, leb-true, length, ltb, refl, suc}
use Rattle.wire.proofs.Prelude.{sym, take, true, zero, ℕ}
use Rattle.answers.specs.Balances.{balance_among, balance_refused}
use Rattle.answers.specs.Answers.{Passed}
use Rattle.ledgers.specs.Limits.{capacity, max_amount}
use Rattle.pair_core.proofs.Accept.{sound_of}
use Rattle.pair_core.proofs.Ledgers.{accounts_fit, balances_within, by_byte, length_held}
use Rattle.pair_core.specs.Layout.{accepts_pair, accounts_on, balances_start, count_on, ledger_on, pair_supply_of, pair_view_of}
use Rattle.pair_validator.specs.Figures.{PairFigures, PairPlaces, balances_under, pair_balance_of, pair_figures_of, pair_places_of}
use Rattle.places.proofs.BalanceTotals.{balances_sum}
use Rattle.places.proofs.ExactSums.{added_value}
use Rattle.places.proofs.Openings.{low_is_wide}
use Rattle.places.specs.ExactSums.{Added, IsNoSum}
use Rattle.places.specs.OverPlaces.{sum_at}
use Rattle.places.specs.declared.exact_sums.Wide.{Wide}
use Rattle.rules.proofs.PairAccepted.{accepts_facts}
use Rattle.rules.specs.Lists.{total}
use Rattle.rules.specs.PairValidator.{supply_allowed}
use Rattle.rules.specs.Rules.{in_flight}
use Rattle.table.specs.Table.{ledger_in}

-- ## The places left

module _ (s : List ℕ) (h : accepts_pair s ≡ true) where
  -- a ledger's count is within the capacity
  pub pair_held_fits : (l : ℕ) → l < 2 → count_on s l ≤ capacity
  pair_held_fits l q = (sound_of s h).bounds.room l q

  -- the places left, by both counts
  pub pair_places_passed : ◌≡◌ {A = PairPlaces}
      (record { answer = Passed; home = capacity - count_on s 0; far = capacity - count_on s 1 }) (pair_places_of (accepts_pair s) s)
  pair_places_passed =
      rw h (λ i. record {
        answer = Passed;
        home = capacity - sym (length_held s 0) i;
        far = capacity - sym (length_held s 1) i;
      })

  -- ## The totals

  -- balances and in flight are the supply
  pub pair_supply_shared : total (ledger_on s 0).balances + total (ledger_on s 1).balances + in_flight (pair_view_of s).pair ≡ pair_supply_of s
  pair_supply_shared = (accepts_facts capacity (pair_view_of s) (sound_of s h).accepted).sums

  -- which is at most an amount
  supply_most : pair_supply_of s ≤ max_amount
  unfolding supply_allowed
  supply_most = leb-true _ _ (sound_of s h).bounds.supply_fits

  -- the accounts of a ledger are within the words, and few
  pub pair_on_ledger : (l : ℕ) → l < 2 → (balances_start l + accounts_on s l ≤ length s) × (2 * accounts_on s l < 65535)
  pair_on_ledger l q =
      let o = sound_of s h in
      (balances_within s o.long o.bounds l q, omega (arith, (accounts_fit s o.bounds l q).1))

  -- a ledger's total is at most the supply
  total_most : (l : ℕ) → l < 2 → total (ledger_on s l).balances ≤ pair_supply_of s
  total_most = by_byte (λ (l : ℕ). total (ledger_on s l).balances ≤ pair_supply_of s) (omega (arith, pair_supply_shared))
      (omega (arith, pair_supply_shared))

  -- it is what the sum of its balances has in its low limb
  pub pair_total : (l : ℕ) → l < 2 → {v w : Wide} {n : ℕ}
      → IsNoSum v
      → Added v (sum_at (λ (i : ℕ). get_or s i 0) (balances_start l) (accounts_on s l)) n w
      → w.low ≡ total (ledger_on s l).balances
  unfolding ledger_in
  pair_total l q {v} {w} o a =
      let e = balances_sum s (balances_start l) (accounts_on s l) (pair_on_ledger l q).0 in
      low_is_wide w (omega (arith, added_value o a, e, total_most l q, supply_most)) ∙ added_value o a ∙ sym e

  -- the figures of accepted words, by both totals
  pub pair_figures_passed : (home far : ℕ) → home ≡ total (ledger_on s 0).balances → far ≡ total (ledger_on s 1).balances
      → ◌≡◌ {A = PairFigures} (record { answer = Passed; home = home; far = far; flight = pair_supply_of s - home - far })
      (pair_figures_of (accepts_pair s) s)
  pair_figures_passed home far a b =
      let e : pair_supply_of s - home - far ≡ in_flight (pair_view_of s).pair = omega (arith, pair_supply_shared) in
      rw h (λ i. record { answer = Passed; home = a i; far = b i; flight = e i })

  -- ## The balance of one account

  -- a byte of no ledger has no accounts
  pub no_such_ledger : (l a : ℕ) → 1 < l → balance_refused 22 ≡ pair_balance_of (accepts_pair s) s l a
  unfolding balance_among
  no_such_ledger zero a q = absurd (omega arith)
  no_such_ledger (suc zero) a q = absurd (omega arith)
  no_such_ledger (suc (suc l)) a q = let f : ltb a 0 ≡ false = le-ltb a 0 (omega arith) in rw (h, f)

  -- the balances of a ledger by its byte
  balances_under_lem : (l : ℕ) → l < 2 → take (accounts_on s l) (drop (balances_start l) s) ≡ balances_under (pair_view_of s).pair l
  unfolding ledger_in
  balances_under_lem =
      by_byte (λ (l : ℕ). take (accounts_on s l) (drop (balances_start l) s) ≡ balances_under (pair_view_of s).pair l) refl refl

  -- the balance among those of the ledger
  pub pair_balance_passed : (l a : ℕ) → l < 2
      → balance_among (take (accounts_on s l) (drop (balances_start l) s)) a ≡ pair_balance_of (accepts_pair s) s l a
  pair_balance_passed l a q = rw (h, balances_under_lem l q)
