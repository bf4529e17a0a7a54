-- The words of an opening: what the stores leave in words of zeros, what they are as the rules' state, and that they are accepted; and
-- the words beside a refused one. Assumes nothing.
use Rattle.wire.proofs.Prelude.{List, [], ◌*◌, ◌++◌, ◌+◌, ◌∙◌, ◌∷◌, ◌≡◌, ◌≤◌, ap, arith, drop, false, get_or, leb-true, length}
use Rattle.wire.proofs.Prelude.{length-replicate, refl, replicate, replicate-append-replicate, set, take, ℕ}
use Rattle.home_core.proofs.Accept.{HomeSound}
use Rattle.home_core.specs.Layout.{accepts_home, home_balances_word, far_accounts_word, home_bounds, home_opened_words, home_view_of, home_zero_words}
use Rattle.home_core.specs.Layout.{home_supply_word, home_accounts_word, home_tariff_word, pool_word}
use Rattle.ledgers.specs.Limits.{account_limit, capacity, max_amount}
use Rattle.places.proofs.Openings.{Stands, copied, count_facts, stands, stored_behind}
use Rattle.places.specs.LedgerBalances.{zero_filled}
use Rattle.places.specs.OverPlaces.{all_at, list_at}
use Rattle.rules.proofs.HomeAccepted.{home_opened_accepted}
use Rattle.rules.proofs.PairConserved.{opening_none}
use Rattle.rules.specs.HomeValidator.{home_accepts, home_opened, home_opening_refusal}
use Rattle.rules.specs.Lists.{total}
use Rattle.rules.specs.PairValidator.{count_allowed, supply_allowed}
use Rattle.rules.specs.Rules.{Tariff}
use Rattle.table.specs.Table.{ledger_in, records_from}
use Rattle.wire.proofs.Lists.{every_not}

-- ## The words

-- words of zeros, in the parts that an opening writes
zeros_split : (a b c : ℕ) → replicate {A = ℕ} (a + (b + c)) 0 ≡ replicate a 0 ++ (replicate b 0 ++ replicate c 0)
zeros_split a b c = simp replicate-append-replicate

-- what the stores leave behind other words
stores_leave : (z : List ℕ) → length z ≡ home_balances_word → (homes : List ℕ) → length homes ≤ account_limit → (s first : List ℕ)
    → (supply pool n m rate account : ℕ) → s ≡ z ++ (replicate account_limit 0 ++ replicate 7 0)
    → first ≡ take home_balances_word s ++ (homes ++ drop (home_balances_word + length homes) s)
    → set (set (set (set (set (set first home_supply_word supply) pool_word pool) home_accounts_word n) far_accounts_word m) home_tariff_word rate)
    (home_tariff_word + 1) account
    ≡ z ++ (zero_filled homes ++ supply ∷ pool ∷ n ∷ m ∷ 0 ∷ rate ∷ account ∷ [])
stores_leave z e homes h s first supply pool n m rate account q a =
    rw (
      a,
      q,
      copied z home_balances_word e homes h (replicate 7 0),
      stored_behind z home_balances_word e homes h (0 ∷ 0 ∷ 0 ∷ 0 ∷ 0 ∷ 0 ∷ 0 ∷ []) 0 supply,
      stored_behind z home_balances_word e homes h (supply ∷ 0 ∷ 0 ∷ 0 ∷ 0 ∷ 0 ∷ 0 ∷ []) 1 pool,
      stored_behind z home_balances_word e homes h (supply ∷ pool ∷ 0 ∷ 0 ∷ 0 ∷ 0 ∷ 0 ∷ []) 2 n,
      stored_behind z home_balances_word e homes h (supply ∷ pool ∷ n ∷ 0 ∷ 0 ∷ 0 ∷ 0 ∷ []) 3 m,
      stored_behind z home_balances_word e homes h (supply ∷ pool ∷ n ∷ m ∷ 0 ∷ 0 ∷ 0 ∷ []) 5 rate,
      stored_behind z home_balances_word e homes h (supply ∷ pool ∷ n ∷ m ∷ 0 ∷ rate ∷ 0 ∷ []) 6 account,
    )

module _ (tariff : Tariff) (homes : List ℕ) (fars far_total : ℕ) where
  -- the words of an opening are what the stores leave in words of zeros
  pub opened_by_lem : length homes ≤ account_limit → (s first : List ℕ) (supply : ℕ) → s ≡ home_zero_words → supply ≡ total homes + far_total
      → first ≡ take home_balances_word s ++ (homes ++ drop (home_balances_word + length homes) s)
      → set (set (set (set (set (set first home_supply_word supply) pool_word far_total) home_accounts_word (length homes)) far_accounts_word fars)
      home_tariff_word tariff.rate) (home_tariff_word + 1) tariff.account
      ≡ home_opened_words tariff homes fars far_total
  unfolding home_opened_words home_zero_words
  opened_by_lem h s first supply q u a =
      stores_leave (replicate (4 * capacity) 0) (length-replicate {A = ℕ} (4 * capacity) 0) homes h s first supply far_total
      (length homes) fars tariff.rate tariff.account (q ∙ zeros_split (4 * capacity) account_limit 7) a
      ∙ ap
      (λ (n : ℕ).
      replicate (4 * capacity) 0
      ++ (zero_filled homes ++ n ∷ far_total ∷ length homes ∷ fars ∷ 0 ∷ tariff.rate ∷ tariff.account ∷ []))
      u

  -- ## An accepted opening

  module _ (n : home_opening_refusal tariff homes fars far_total ≡ 0) where
    -- its number of home accounts is within the limit
    pub opened_count : length homes ≤ account_limit
    opened_count = (count_facts (length homes) (opening_none tariff (length homes) fars (total homes + far_total) n).home_count).1

    -- its words
    abbrev opened_words : List ℕ
    opened_words = home_opened_words tariff homes fars far_total

    -- the last seven
    abbrev scalars : List ℕ
    scalars = (total homes + far_total) ∷ far_total ∷ length homes ∷ fars ∷ 0 ∷ tariff.rate ∷ tariff.account ∷ []

    -- the balances stand there
    opened_stand : Stands opened_words home_balances_word homes scalars
    unfolding home_opened_words
    opened_stand =
        stands (replicate (4 * capacity) 0) home_balances_word (length-replicate {A = ℕ} (4 * capacity) 0) homes opened_count scalars

    -- each of the last seven
    last : (k : ℕ) → get_or opened_words (home_supply_word + k) 0 ≡ get_or scalars k 0
    last = opened_stand.behind

    -- they are, seen as the rules' state, the rules' opened state
    pub opened_view : home_view_of opened_words ≡ home_opened tariff homes fars far_total
    unfolding ledger_in records_from list_at
    opened_view = rw (last 0, last 1, last 2, last 3, last 4, last 5, last 6, opened_stand.balances)

    -- so they are sound
    pub opened_sound : HomeSound opened_words
    unfolding supply_allowed all_at
    opened_sound =
        let o = opening_none tariff (length homes) fars (total homes + far_total) n in
        let h = count_facts (length homes) o.home_count in
        let f = count_facts fars o.far_count in
        record {
          long = opened_stand.long;
          bounds =
              record {
                home_some = omega (arith, last 2, h);
                home_fits = omega (arith, last 2, h);
                far_some = omega (arith, last 3, f);
                far_fits = omega (arith, last 3, f);
                room = omega (arith, last 4);
                supply_fits = omega (arith, last 0, leb-true (total homes + far_total) max_amount o.supply_fits);
                tariff_allowed = rw (last 2, last 5, last 6) o.tariff_allowed;
              };
          zeros = rw (last 2) opened_stand.zeros;
          reads = rw (last 4);
          accepted = ap (home_accepts capacity) opened_view ∙ home_opened_accepted capacity tariff homes fars far_total n;
        }

-- the all-zero words, beside a refused opening, are refused by every call
pub zero_refused : accepts_home home_zero_words ≡ false
unfolding accepts_home home_bounds count_allowed home_zero_words
zero_refused = every_not 1 _ (every_not 0 _ (every_not 0 _ refl))
