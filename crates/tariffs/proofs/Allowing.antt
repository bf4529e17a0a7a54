-- What a tariff that 52 has nothing against is. Assumes nothing.
use Rattle.wire.proofs.Prelude.{◌<◌, ◌≡◌, ◌≤◌, ap₂, eqb-true, leb-true, lt-ltb, ltb-true, refl, true, ℕ}
use Rattle.tariffs.specs.Tariffs.{Tariff, free, parts, takes_nothing, tariff_allowed}
use Rattle.wire.proofs.Lists.{every_first, every_hold, hold_every}
use Rattle.wire.specs.BigEndian.{All}

-- its rate is at most 10,000
pub allowed_rate : (t : Tariff) (accounts : ℕ) → tariff_allowed t accounts ≡ true → t.rate ≤ parts
unfolding tariff_allowed
allowed_rate t accounts h = leb-true _ _ (every_first _ _ h).0

-- its account is open
pub allowed_open : (t : Tariff) (accounts : ℕ) → tariff_allowed t accounts ≡ true → t.account < accounts
unfolding tariff_allowed
allowed_open t accounts h = ltb-true _ _ (every_first _ _ (every_first _ _ h).1).0

-- nothing taken, with an account at least
pub free_allowed : (accounts : ℕ) → 0 < accounts → tariff_allowed free accounts ≡ true
unfolding tariff_allowed All
free_allowed accounts h = hold_every _ (refl, (lt-ltb 0 accounts h, tt))

-- the test of it
pub nothing_free : (t : Tariff) → takes_nothing t ≡ true → t ≡ free
unfolding takes_nothing All
nothing_free t h =
    let a = every_hold _ h in
    ap₂ {C = Tariff} (λ (n m : ℕ). record { rate = n; account = m }) (eqb-true t.rate 0 a.0) (eqb-true t.account 0 a.1.0)

-- and what it says of nothing taken
pub free_nothing : takes_nothing free ≡ true
unfolding takes_nothing All
free_nothing = hold_every _ (refl, (refl, tt))
