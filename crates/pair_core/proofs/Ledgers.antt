-- Both ledgers of the words, one law for each: their bounds, and how the rules see them. Assumes nothing.
use Rattle.wire.proofs.Prelude.{List, ◌*◌, ◌+◌, ◌-◌, ◌<◌, ◌∙◌, ◌≡◌, ◌≤◌, arith, drop, le-leb, leb-true, length, length-drop, length-take-le}
use Rattle.wire.proofs.Prelude.{refl, suc, sym, true, zero, ℕ}
use Rattle.ledgers.specs.Ledgers.{counterpart, ledger_byte}
use Rattle.ledgers.specs.Limits.{account_limit, capacity}
use Rattle.pair_core.specs.Layout.{accounts_on, balances_start, count_on, index_on, ledger_on, pair_bounds, pair_view_of}
use Rattle.pair_core.specs.Layout.{pair_words}
use Rattle.pair_core.specs.Layout.{pair_supply_of, pair_tariff_of, records_start, tariff_on}
use Rattle.places.proofs.Openings.{count_facts}
use Rattle.places.specs.NumberIndex.{chain_count}
use Rattle.rules.specs.PairValidator.{count_allowed, supply_allowed}
use Rattle.rules.specs.Rules.{Far, Home, Ledger, accounts_of, state_of}
use Rattle.table.proofs.Records.{length_held_records}
use Rattle.table.specs.Table.{accounts_by, index_length, ledger_in}
use Rattle.tariffs.proofs.Allowing.{free_allowed}
use Rattle.tariffs.specs.Tariffs.{tariff_allowed}
use Rattle.wire.proofs.Lists.{every_both, every_first, every_none}

-- ## Ledger by ledger

-- what holds of home and of far holds of each ledger
pub by_ledger : (P : Ledger → Type 0) → P Home → P Far → (L : Ledger) → P L
by_ledger P h f Home = h
by_ledger P h f Far = f

-- and of each byte
pub by_byte : (P : ℕ → Type 0) → P 0 → P 1 → (l : ℕ) → l < 2 → P l
by_byte P h f zero q = h
by_byte P h f (suc zero) q = f
by_byte P h f (suc (suc l)) q = absurd (omega arith)

-- a ledger's byte is 0 or 1
pub byte_below : (L : Ledger) → ledger_byte L < 2
byte_below Home = omega arith
byte_below Far = omega arith

-- the other ledger's byte
pub other_byte : (L : Ledger) → 1 - ledger_byte L ≡ ledger_byte (counterpart L)
other_byte Home = refl
other_byte Far = refl

-- ## Bounds

-- the bounds of both ledgers, of the supply and of home's tariff
pub record PairBounds (s : List ℕ) : Type 0 where
  pub count : (l : ℕ) → l < 2 → count_allowed (accounts_on s l) ≡ true
  pub room : (l : ℕ) → l < 2 → count_on s l ≤ capacity
  pub supply_fits : supply_allowed (pair_supply_of s) ≡ true
  pub tariff_allowed : tariff_allowed (pair_tariff_of s) (accounts_on s 0) ≡ true

-- the test gives the bounds
pub bounds_of : (s : List ℕ) → pair_bounds s ≡ true → PairBounds s
unfolding pair_bounds
bounds_of s h =
    let a = every_first _ _ h in
    let b = every_first _ _ a.1 in
    let c = every_first _ _ b.1 in
    let d = every_first _ _ c.1 in
    let e = every_first _ _ d.1 in
    let f = every_first _ _ e.1 in
    record {
      count = by_byte (λ (l : ℕ). count_allowed (accounts_on s l) ≡ true) a.0 b.0;
      room = by_byte (λ (l : ℕ). count_on s l ≤ capacity) (leb-true _ _ c.0) (leb-true _ _ d.0);
      supply_fits = e.0;
      tariff_allowed = f.0;
    }

-- and back
pub of_bounds : (s : List ℕ) → PairBounds s → pair_bounds s ≡ true
unfolding pair_bounds
of_bounds s b =
    every_both _ _ (b.count 0 (omega arith))
    (every_both _ _ (b.count 1 (omega arith))
    (every_both _ _ (le-leb _ _ (b.room 0 (omega arith)))
    (every_both _ _ (le-leb _ _ (b.room 1 (omega arith)))
    (every_both _ _ b.supply_fits
    (every_both _ _ b.tariff_allowed
    every_none)))))

-- a ledger has an account and at most as many as it can have
pub accounts_fit : (s : List ℕ) → PairBounds s → (l : ℕ) → l < 2 → (1 ≤ accounts_on s l) × (accounts_on s l ≤ account_limit)
accounts_fit s b l h = count_facts (accounts_on s l) (b.count l h)

-- a ledger's tariff is one that 52 has nothing against
pub tariff_fits_lem : (s : List ℕ) → PairBounds s → (l : ℕ) → l < 2 → tariff_allowed (tariff_on s l) (accounts_on s l) ≡ true
tariff_fits_lem s b =
    by_byte (λ (l : ℕ). tariff_allowed (tariff_on s l) (accounts_on s l) ≡ true) b.tariff_allowed
    (free_allowed (accounts_on s 1) (omega (arith, (accounts_fit s b 1 (omega arith)).0)))

-- by a ledger itself: it has at most as many accounts, and holds at most as many records, as it can
pub record LedgerFits (s : List ℕ) (L : Ledger) : Type 0 where
  pub accounts : accounts_on s (ledger_byte L) ≤ account_limit
  pub room : count_on s (ledger_byte L) ≤ capacity

-- from the test
pub ledger_fits : (s : List ℕ) → pair_bounds s ≡ true → (L : Ledger) → LedgerFits s L
ledger_fits s h L =
    let b = bounds_of s h in
    record { accounts = (accounts_fit s b (ledger_byte L) (byte_below L)).1; room = b.room (ledger_byte L) (byte_below L) }

-- ## As the rules see them

-- a ledger by its byte
pub state_on : (s : List ℕ) (L : Ledger) → state_of L (pair_view_of s).pair ≡ ledger_on s (ledger_byte L)
state_on s Home = refl
state_on s Far = refl

-- it has as many held records as its count says
pub length_held : (s : List ℕ) (l : ℕ) → length (ledger_on s l).passed ≡ count_on s l
unfolding ledger_in
length_held s l = length_held_records s _ (count_on s l)

module _ (s : List ℕ) (z : length s ≡ pair_words) (b : PairBounds s) where
  -- its balances lie within the words
  pub balances_within : (l : ℕ) → l < 2 → balances_start l + accounts_on s l ≤ length s
  balances_within = by_byte (λ (l : ℕ). balances_start l + accounts_on s l ≤ length s) (omega (arith, z, (accounts_fit s b 0 (omega arith)).1))
      (omega (arith, z, (accounts_fit s b 1 (omega arith)).1))

  -- its records too
  pub records_within : (l : ℕ) → l < 2 → records_start l + 4 * count_on s l ≤ length s
  records_within l h = omega (arith, z, b.room l h, h)

  -- its index lies within both
  pub index_within : (l : ℕ) → l < 2 → index_on l + chain_count + count_on s l ≤ 2 * index_length
  index_within l h = omega (arith, b.room l h, h)

  -- it has as many balances as accounts
  pub length_balances : (l : ℕ) → l < 2 → length (ledger_on s l).balances ≡ accounts_on s l
  unfolding ledger_in
  length_balances l h =
      length-take-le (accounts_on s l) (drop (balances_start l) s) (omega (arith, length-drop (balances_start l) s, balances_within l h))

  -- so the rules count them
  pub accounts_on_lem : (L : Ledger) → accounts_of (pair_view_of s).pair L ≡ accounts_on s (ledger_byte L)
  accounts_on_lem Home = length_balances 0 (omega arith)
  accounts_on_lem Far = length_balances 1 (omega arith)

  -- as the words' own tests do
  accounts_at : (L m : Ledger)
      → accounts_by L (accounts_on s (ledger_byte L)) (accounts_on s (ledger_byte (counterpart L))) m ≡ accounts_on s (ledger_byte m)
  accounts_at Home Home = refl
  accounts_at Home Far = refl
  accounts_at Far Home = refl
  accounts_at Far Far = refl

  pub accounts_same : (L : Ledger)
      → accounts_by L (accounts_on s (ledger_byte L)) (accounts_on s (ledger_byte (counterpart L))) ≡ accounts_of (pair_view_of s).pair
  accounts_same L = λ i m. (accounts_at L m ∙ sym (accounts_on_lem m)) i
