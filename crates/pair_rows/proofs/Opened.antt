-- The row of an accepted opening. Assumes nothing.
use Rattle.wire.proofs.Prelude.{List, ◌+◌, ◌-◌, ◌∙◌, ◌≡◌, ◌≤◌, ap, arith, get_or, leb-true, length, sym, ℕ}
use Rattle.answers.specs.Answers.{unless_refused}
use Rattle.ledgers.specs.Limits.{max_amount}
use Rattle.pair_core.proofs.Opened.{opened_view}
use Rattle.pair_core.specs.Layout.{pair_opened_words, pair_supply_of, pair_zero_words}
use Rattle.pair_rows.specs.Rows.{row_of, row_with}
use Rattle.places.proofs.ExactSums.{added_value}
use Rattle.places.proofs.Openings.{low_is_wide, total_sum}
use Rattle.places.specs.ExactSums.{Added, IsNoSum}
use Rattle.places.specs.OverPlaces.{sum_at}
use Rattle.places.specs.declared.exact_sums.Wide.{Wide}
use Rattle.rules.proofs.PairConserved.{opening_none}
use Rattle.rules.specs.Lists.{sum, total}
use Rattle.rules.specs.PairValidator.{PairView, pair_opened, pair_opening_refusal, supply_allowed}
use Rattle.rules.specs.Rules.{Tariff, flight, in_flight}

-- where the opening left words t and home's balances were summed, the low limb is home's total, and with the supply it gives the row
pub record FirstFigures (tariff : Tariff) (homes fars t : List ℕ) (low : ℕ) : Type 0 where
  pub words : t ≡ pair_opened_words tariff homes fars
  pub fits : low ≤ pair_supply_of t
  pub row : row_with 0 (record { home = low; far = pair_supply_of t - low; flight = 0 }) ≡ row_of 0 (pair_opened tariff homes fars)

module _ (tariff : Tariff) (homes fars : List ℕ) (z : pair_opening_refusal tariff homes fars ≡ 0) where
  -- it does
  pub first_figures : {t : List ℕ} {v w : Wide} {n : ℕ}
      → t ≡ unless_refused (pair_opening_refusal tariff homes fars) (pair_opened_words tariff homes fars) pair_zero_words
      → IsNoSum v
      → Added v (sum_at (λ (i : ℕ). get_or homes i 0) 0 (length homes)) n w
      → FirstFigures tariff homes fars t w.low
  unfolding supply_allowed in_flight flight sum
  first_figures {t} {v} {w} q o a =
      let e = total_sum homes in
      let s = leb-true (total homes + total fars) max_amount
      (opening_none tariff (length homes) (length fars) (total homes + total fars) z).supply_fits in
      let x : t ≡ pair_opened_words tariff homes fars = rw z at q in
      let u : pair_supply_of t ≡ total homes + total fars = ap pair_supply_of x ∙ ap (λ (v : PairView). v.supply) (opened_view tariff homes fars z) in
      let l = low_is_wide w (omega (arith, added_value o a, e, s)) ∙ added_value o a ∙ sym e in
      let d : pair_supply_of t - w.low ≡ total fars = omega (arith, l, u) in
      record { words = x; fits = omega (arith, l, u); row = rw (d, l) }
