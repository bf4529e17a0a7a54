-- Laws of the figures and the places left of accepted words. Assumes nothing.
use Rattle.wire.proofs.Prelude.{List, ◌+◌, ◌-◌, ◌≡◌, ◌≤◌, arith, drop, false, length, sym, take, true, ℕ}
use Rattle.answers.specs.Answers.{answer}
use Rattle.answers.specs.Balances.{balance_among}
use Rattle.answers.specs.Answers.{Answer}
use Rattle.answers.specs.Answers.{Passed}
use Rattle.home_core.proofs.Accept.{length_held, sound_of}
use Rattle.home_core.specs.Layout.{accepts_home, home_balances_word, home_count_of, home_supply_of, home_view_of, home_accounts_of, pool_of}
use Rattle.home_validator.specs.Figures.{HomeFigures, HomePlaces, home_balance_of, home_figures_of, home_places_of}
use Rattle.ledgers.specs.Limits.{capacity}
use Rattle.rules.proofs.HomeAccepted.{home_accepts_facts}
use Rattle.rules.specs.Lists.{total}
use Rattle.table.specs.Table.{ledger_in}

-- none are told of words that are not accepted
pub home_places_refused : (s : List ℕ) → accepts_home s ≡ false → {a : Answer} → a ≡ answer 3 0
    → ◌≡◌ {A = HomePlaces} (record { answer = a; home = 0 }) (home_places_of (accepts_home s) s)
home_places_refused s h e = rw h (λ i. record { answer = e i; home = 0 })

module _ (s : List ℕ) (h : accepts_home s ≡ true) where
  -- balances and the pool are the supply
  pub home_supply_shared : total (home_view_of s).home.balances + pool_of s ≡ home_supply_of s
  home_supply_shared = (home_accepts_facts capacity (home_view_of s) (sound_of s h).accepted).sums

  -- the figures of accepted words
  pub home_figures_passed : ◌≡◌ {A = HomeFigures} (record { answer = Passed; home = home_supply_of s - pool_of s; pool = pool_of s })
      (home_figures_of (accepts_home s) s)
  home_figures_passed =
      let e : home_supply_of s - pool_of s ≡ total (home_view_of s).home.balances = omega (arith, home_supply_shared) in
      rw h (λ i. record { answer = Passed; home = e i; pool = pool_of s })

  -- the accounts are within the words
  pub home_on_ledger : home_balances_word + home_accounts_of s ≤ length s
  home_on_ledger = let o = sound_of s h in omega (arith, o.long, o.bounds.home_fits)

  -- the balance among those of the ledger
  pub home_balance_passed : (a : ℕ) → balance_among (take (home_accounts_of s) (drop home_balances_word s)) a ≡ home_balance_of (accepts_home s) s a
  unfolding ledger_in
  home_balance_passed a = rw h

  -- the count is within the capacity
  pub home_held_fits : home_count_of s ≤ capacity
  home_held_fits = (sound_of s h).bounds.room

  -- the places left, by the count
  pub home_places_passed : ◌≡◌ {A = HomePlaces} (record { answer = Passed; home = capacity - home_count_of s }) (home_places_of (accepts_home s)
      s)
  home_places_passed = rw h (λ i. record { answer = Passed; home = capacity - sym (length_held s) i })
