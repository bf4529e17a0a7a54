-- What accepted words have, and that what is tested of words is what refusal 3 asks of them. Assumes nothing.
use Rattle.wire.proofs.Prelude.{Bool, List, [], ◌&&◌, ◌+◌, ◌-◌, ◌∙◌, ◌∷◌, ◌≡◌, ◌≤◌, arith, drop, eq-eqb, eqb, eqb-true, false, get_or, le-leb}
use Rattle.wire.proofs.Prelude.{leb-true, length, length-drop, length-take-le, refl, subst, sym, true, ℕ}
use Rattle.home_core.specs.Layout.{HomeReady, accepts_home, home_balances_word, far_accounts_of, home_bounds, home_count_of, home_view_of, home_words}
use Rattle.home_core.specs.Layout.{home_accounts_of}
use Rattle.home_core.specs.Layout.{home_supply_of, home_tariff_of, pool_of}
use Rattle.ledgers.specs.Limits.{account_limit, capacity, max_amount}
use Rattle.places.proofs.BalanceTotals.{balances_sum}
use Rattle.places.proofs.Openings.{count_facts, facts_count}
use Rattle.places.specs.LedgerBalances.{zeros_at}
use Rattle.places.specs.OverPlaces.{all_at, apart_at, sum_at}
use Rattle.records.specs.Records.{formed}
use Rattle.rules.proofs.Clashes.{distinct_unshared, unshared_distinct}
use Rattle.rules.proofs.HomeAccepted.{HomeFacts, home_accepts_facts, home_facts_accepts}
use Rattle.rules.proofs.Lists.{never_both_tests}
use Rattle.rules.specs.HomeValidator.{home_accepts, home_accounts}
use Rattle.rules.specs.Lists.{total}
use Rattle.rules.specs.PairValidator.{supply_allowed}
use Rattle.rules.specs.Rules.{Far, Home, Ledger}
use Rattle.table.proofs.Numbers.{apart_records}
use Rattle.table.proofs.Records.{AllHeld, all_held, held_all, length_held_records}
use Rattle.table.specs.Table.{accounts_by, ledger_in, may_hold_at, shared_at, words_at}
use Rattle.tariffs.specs.Tariffs.{tariff_allowed}
use Rattle.wire.proofs.Lists.{and_both, every_both, every_first, every_none, same_tests}
use Rattle.wire.specs.BigEndian.{every}

-- ## The bounds

-- what the test of the bounds says
pub record HomeBounds (s : List ℕ) : Type 0 where
  pub home_some : 1 ≤ home_accounts_of s
  pub home_fits : home_accounts_of s ≤ account_limit
  pub far_some : 1 ≤ far_accounts_of s
  pub far_fits : far_accounts_of s ≤ account_limit
  pub room : home_count_of s ≤ capacity
  pub supply_fits : home_supply_of s ≤ max_amount
  pub tariff_allowed : tariff_allowed (home_tariff_of s) (home_accounts_of s) ≡ true

-- from the test
pub bounds_facts : (s : List ℕ) → home_bounds s ≡ true → HomeBounds s
unfolding home_bounds supply_allowed
bounds_facts s h =
    let a = every_first _ _ h in
    let b = every_first _ _ a.1 in
    let c = every_first _ _ b.1 in
    let d = every_first _ _ c.1 in
    let e = every_first _ _ d.1 in
    record {
      home_some = (count_facts (home_accounts_of s) a.0).0;
      home_fits = (count_facts (home_accounts_of s) a.0).1;
      far_some = (count_facts (far_accounts_of s) b.0).0;
      far_fits = (count_facts (far_accounts_of s) b.0).1;
      room = leb-true (home_count_of s) capacity c.0;
      supply_fits = leb-true (home_supply_of s) max_amount d.0;
      tariff_allowed = e.0;
    }

-- and back
pub facts_bounds : (s : List ℕ) → HomeBounds s → home_bounds s ≡ true
unfolding home_bounds supply_allowed
facts_bounds s b =
    every_both _ _ (facts_count (home_accounts_of s) b.home_some b.home_fits)
    (every_both _ _ (facts_count (far_accounts_of s) b.far_some b.far_fits)
    (every_both _ _ (le-leb (home_count_of s) capacity b.room)
    (every_both _ _ (le-leb (home_supply_of s) max_amount b.supply_fits)
    (every_both _ _ b.tariff_allowed
    every_none))))

-- ## Accepted words

-- what they have
pub record HomeSound (s : List ℕ) : Type 0 where
  pub long : length s ≡ home_words
  pub bounds : HomeBounds s
  pub zeros : zeros_at s (home_balances_word + home_accounts_of s) (account_limit - home_accounts_of s) ≡ true
  pub reads : all_at (λ (i : ℕ). formed (words_at s 0 i)) 0 (home_count_of s) ≡ true
  pub accepted : home_accepts capacity (home_view_of s) ≡ true

-- from the test
pub sound_of : (s : List ℕ) → accepts_home s ≡ true → HomeSound s
unfolding accepts_home
sound_of s h =
    let a = every_first _ _ h in
    let b = every_first _ _ a.1 in
    let c = every_first _ _ b.1 in
    let d = every_first _ _ c.1 in
    let e = every_first _ _ d.1 in
    record {
      long = eqb-true (length s) home_words a.0;
      bounds = bounds_facts s b.0;
      zeros = c.0;
      reads = d.0;
      accepted = e.0;
    }

-- and back
pub sound_accepts : (s : List ℕ) → HomeSound s → accepts_home s ≡ true
unfolding accepts_home
sound_accepts s h =
    every_both _ _ (eq-eqb (length s) home_words h.long)
    (every_both _ _ (facts_bounds s h.bounds)
    (every_both _ _ h.zeros
    (every_both _ _ h.reads
    (every_both _ _ h.accepted
    every_none))))

-- ## The ledger as the rules see it

-- it has as many held records as the count says
pub length_held : (s : List ℕ) → length (home_view_of s).home.passed ≡ home_count_of s
unfolding ledger_in
length_held s = length_held_records s 0 (home_count_of s)

module _ (s : List ℕ) (z : length s ≡ home_words) (fits : home_accounts_of s ≤ account_limit) where
  -- it has as many balances as accounts
  pub length_balances : length (home_view_of s).home.balances ≡ home_accounts_of s
  unfolding ledger_in
  length_balances = length-take-le (home_accounts_of s) (drop home_balances_word s) (rw (length-drop home_balances_word s, z) (omega (arith, fits)))

  -- the rules count its accounts, and the far ones
  pub accounts_are : home_accounts (home_view_of s) ≡ accounts_by Home (home_accounts_of s) (far_accounts_of s)
  accounts_are = λ i. λ l. go l i
    where
      go : (l : Ledger) → home_accounts (home_view_of s) l ≡ accounts_by Home (home_accounts_of s) (far_accounts_of s) l
      go Home = length_balances
      go Far = refl

  -- the total of its balances
  total_is : total (home_view_of s).home.balances ≡ sum_at (λ (i : ℕ). get_or s i 0) home_balances_word (home_accounts_of s)
  unfolding ledger_in
  total_is = balances_sum s home_balances_word (home_accounts_of s) (omega (arith, z, fits))

-- ## The whole test

-- the test of the held records
abbrev holds_all : List ℕ → Bool
holds_all s = all_at (may_hold_at s 0 Home (accounts_by Home (home_accounts_of s) (far_accounts_of s))) 0 (home_count_of s)

-- the test of their numbers
abbrev apart_all : List ℕ → Bool
apart_all s = apart_at (shared_at s 0) 0 (home_count_of s)

-- the sum of the balances and of the far pool
abbrev sum_all : List ℕ → ℕ
sum_all s = sum_at (λ (i : ℕ). get_or s i 0) home_balances_word (home_accounts_of s) + pool_of s

-- the tests of words, in the order of the code
unfoldable pub tests_home : List ℕ → Bool
tests_home s =
    every
    (eqb (length s) home_words
    ∷ home_bounds s
    ∷ zeros_at s (home_balances_word + home_accounts_of s) (account_limit - home_accounts_of s)
    ∷ (holds_all s && apart_all s)
    ∷ eqb (sum_all s) (home_supply_of s)
    ∷ []
    )

module _ (s : List ℕ) (z : length s ≡ home_words) (b : HomeBounds s) where
  -- records that the ledger may hold
  held_there : holds_all s ≡ true → AllHeld s 0 (home_count_of s) Home (home_accounts (home_view_of s))
  held_there h =
      subst (AllHeld s 0 (home_count_of s) Home) (sym (accounts_are s z b.home_fits))
      (all_held s 0 (home_count_of s) Home (accounts_by Home (home_accounts_of s) (far_accounts_of s)) h)

  -- and back
  held_back : AllHeld s 0 (home_count_of s) Home (home_accounts (home_view_of s)) → holds_all s ≡ true
  held_back h =
      held_all s 0 (home_count_of s) Home (accounts_by Home (home_accounts_of s) (far_accounts_of s))
      (subst (AllHeld s 0 (home_count_of s) Home) (accounts_are s z b.home_fits) h)

  -- what is tested gives the facts of an accepted state
  tested_facts : holds_all s ≡ true → apart_all s ≡ true → sum_all s ≡ home_supply_of s → HomeFacts capacity (home_view_of s)
  unfolding supply_allowed ledger_in
  tested_facts holds apart adds =
      let h = held_there holds in
      record {
        home_count = rw (length_balances s z b.home_fits) (facts_count (home_accounts_of s) b.home_some b.home_fits);
        far_count = facts_count (far_accounts_of s) b.far_some b.far_fits;
        room = rw (length_held s) b.room;
        supply_fits = le-leb (home_supply_of s) max_amount b.supply_fits;
        tariff_allowed = rw (length_balances s z b.home_fits) b.tariff_allowed;
        allowed = h.allowed;
        distinct = unshared_distinct _ (sym (apart_records s 0 (home_count_of s)) ∙ apart);
        stand = h.stand;
        sums = omega (arith, adds, total_is s z b.home_fits);
      }

-- what is tested is asked by refusal 3
tests_accepts : (s : List ℕ) → tests_home s ≡ true → accepts_home s ≡ true
unfolding tests_home
tests_accepts s h =
    let a = every_first _ _ h in
    let c = every_first _ _ a.1 in
    let d = every_first _ _ c.1 in
    let e = every_first _ _ d.1 in
    let f = every_first _ _ e.1 in
    let g = and_both _ _ e.0 in
    let z = eqb-true (length s) home_words a.0 in
    let b = bounds_facts s c.0 in
    sound_accepts s
    (record {
      long = z;
      bounds = b;
      zeros = d.0;
      reads = (held_there s z b g.0).read;
      accepted = home_facts_accepts capacity (home_view_of s) (tested_facts s z b g.0 g.1 (eqb-true _ _ f.0));
    })

-- and back
accepts_tests : (s : List ℕ) → accepts_home s ≡ true → tests_home s ≡ true
unfolding tests_home ledger_in
accepts_tests s h =
    let o = sound_of s h in
    let f = home_accepts_facts capacity (home_view_of s) o.accepted in
    let adds : sum_all s ≡ home_supply_of s = omega (arith, f.sums, total_is s o.long o.bounds.home_fits) in
    let holds = held_back s o.long o.bounds (record { read = o.reads; stand = f.stand; allowed = f.allowed }) in
    let apart = apart_records s 0 (home_count_of s) ∙ distinct_unshared _ f.distinct in
    every_both _ _ (eq-eqb (length s) home_words o.long)
    (every_both _ _ (facts_bounds s o.bounds)
    (every_both _ _ o.zeros
    (every_both _ _ (rw (holds, apart))
    (every_both _ _ (eq-eqb (sum_all s) (home_supply_of s) adds)
    every_none))))

-- what is tested is what refusal 3 asks
pub tests_are : (s : List ℕ) → tests_home s ≡ accepts_home s
tests_are s = same_tests (tests_home s) (accepts_home s) (tests_accepts s) (accepts_tests s)

-- where one of the tests fails the state is refused, and nothing is asked of an index
pub tests_refused : (s index : List ℕ) → tests_home s ≡ false → (false ≡ accepts_home s) × (false ≡ true → HomeReady s index)
tests_refused s index h = (sym h ∙ tests_are s, λ q. absurd (never_both_tests (sym q)))
