-- The words of an opening: what the stores leave in words of zeros, what they are as the rules' state, and that they are accepted; and
-- the words beside a refused one. Assumes nothing.
use Rattle.wire.proofs.Prelude.{List, [], ◌*◌, ◌++◌, ◌+◌, ◌<◌, ◌∙◌, ◌∷◌, ◌≡◌, ◌≤◌, ap, append_assoc, arith, drop, false, get_or, length}
use Rattle.wire.proofs.Prelude.{length-replicate, refl, replicate, replicate-append-replicate, set, subst, sym, take, true, ℕ}
use Rattle.ledgers.specs.Limits.{account_limit, capacity}
use Rattle.pair_core.proofs.Accept.{PairSound, sound_accepts}
use Rattle.pair_core.proofs.Ledgers.{by_byte}
use Rattle.pair_core.specs.Layout.{PairReady, accepts_pair, accounts_on, accounts_word, balances_start, count_on, formed_on}
use Rattle.pair_core.specs.Layout.{index_on, pair_tariff_word}
use Rattle.pair_core.specs.Layout.{pair_bounds, pair_opened_words, pair_supply_word, pair_view_of, pair_zero_words, records_start, zero_beyond}
use Rattle.places.proofs.Openings.{Stands, copied, count_facts, front_long, stands, stored_behind}
use Rattle.places.specs.LedgerBalances.{zero_filled}
use Rattle.places.specs.OverPlaces.{all_at, list_at}
use Rattle.rules.proofs.PairConserved.{opening_none, pair_opened_accepted}
use Rattle.rules.specs.Lists.{total}
use Rattle.rules.specs.PairValidator.{count_allowed, pair_accepts, pair_opened, pair_opening_refusal}
use Rattle.rules.specs.Rules.{Tariff}
use Rattle.table.proofs.Numbers.{index_none}
use Rattle.table.specs.Table.{IndexOf, index_length, ledger_in, records_from}
use Rattle.wire.proofs.Lists.{every_not}

-- ## The words

-- words of zeros, in the parts that an opening writes
zeros_split : (a b c : ℕ)
    → replicate {A = ℕ} (a + (b + (b + c))) 0 ≡ replicate a 0 ++ (replicate b 0 ++ (replicate b 0 ++ replicate c 0))
zeros_split a b c = simp replicate-append-replicate

module _ (homes fars : List ℕ) (h : length homes ≤ account_limit) (f : length fars ≤ account_limit) where
  module _ (z : List ℕ) (p : ℕ) (e : length z ≡ p) where
    -- both ledgers' balances, behind p other words
    both_stand : (rest : List ℕ)
        → Stands (z ++ (zero_filled homes ++ (zero_filled fars ++ rest))) p homes (zero_filled fars ++ rest)
        × Stands (z ++ (zero_filled homes ++ (zero_filled fars ++ rest))) (p + account_limit) fars rest
    both_stand rest = (
      stands z p e homes h (zero_filled fars ++ rest),
      rw (append_assoc z (zero_filled homes) (zero_filled fars ++ rest)) at
          (stands (z ++ zero_filled homes) (p + account_limit) (front_long z p e homes h) fars f rest),
    )

    -- what the stores leave behind them
    stores_leave : (s first second : List ℕ) (supply n m rate account : ℕ)
        → s ≡ z ++ (replicate account_limit 0 ++ (replicate account_limit 0 ++ replicate 7 0))
        → first ≡ take p s ++ (homes ++ drop (p + length homes) s)
        → second ≡ take (p + account_limit) first ++ (fars ++ drop (p + account_limit + length fars) first)
        → set
        (set
        (set (set (set second (p + account_limit + account_limit + 0) supply) (p + account_limit + account_limit + 1) n)
        (p + account_limit + account_limit + 2) m)
        (p + account_limit + account_limit + 5) rate)
        (p + account_limit + account_limit + 6) account
        ≡ z ++ (zero_filled homes ++ (zero_filled fars ++ supply ∷ n ∷ m ∷ 0 ∷ 0 ∷ rate ∷ account ∷ []))
    stores_leave s first second supply n m rate account q a b =
        let l = front_long z p e homes h in
        rw (
          b,
          a,
          q,
          copied z p e homes h (replicate account_limit 0 ++ replicate 7 0),
          ← append_assoc z (zero_filled homes) (replicate account_limit 0 ++ replicate 7 0),
          copied (z ++ zero_filled homes) (p + account_limit) l fars f (replicate 7 0),
          stored_behind (z ++ zero_filled homes) (p + account_limit) l fars f (0 ∷ 0 ∷ 0 ∷ 0 ∷ 0 ∷ 0 ∷ 0 ∷ []) 0 supply,
          stored_behind (z ++ zero_filled homes) (p + account_limit) l fars f (supply ∷ 0 ∷ 0 ∷ 0 ∷ 0 ∷ 0 ∷ 0 ∷ []) 1 n,
          stored_behind (z ++ zero_filled homes) (p + account_limit) l fars f (supply ∷ n ∷ 0 ∷ 0 ∷ 0 ∷ 0 ∷ 0 ∷ []) 2 m,
          stored_behind (z ++ zero_filled homes) (p + account_limit) l fars f (supply ∷ n ∷ m ∷ 0 ∷ 0 ∷ 0 ∷ 0 ∷ []) 5 rate,
          stored_behind (z ++ zero_filled homes) (p + account_limit) l fars f (supply ∷ n ∷ m ∷ 0 ∷ 0 ∷ rate ∷ 0 ∷ []) 6 account,
        )
        (append_assoc z (zero_filled homes) (zero_filled fars ++ supply ∷ n ∷ m ∷ 0 ∷ 0 ∷ rate ∷ account ∷ []))

  -- the words of an opening are what the stores leave in words of zeros
  pub opened_by_lem : (tariff : Tariff) (s first second : List ℕ) (supply : ℕ) → s ≡ pair_zero_words → supply ≡ total homes + total fars
      → first ≡ take (balances_start 0) s ++ (homes ++ drop (balances_start 0 + length homes) s)
      → second ≡ take (balances_start 1) first ++ (fars ++ drop (balances_start 1 + length fars) first)
      → set
      (set (set (set (set second pair_supply_word supply) (accounts_word 0) (length homes)) (accounts_word 1) (length fars)) pair_tariff_word
      tariff.rate)
      (pair_tariff_word + 1) tariff.account
      ≡ pair_opened_words tariff homes fars
  unfolding pair_opened_words pair_zero_words
  opened_by_lem tariff s first second supply q u a b =
      stores_leave (replicate (8 * capacity) 0) (8 * capacity) (length-replicate {A = ℕ} (8 * capacity) 0) s first second supply (length homes)
      (length fars) tariff.rate tariff.account (q ∙ zeros_split (8 * capacity) account_limit 7) a b
      ∙ ap (λ (n : ℕ). replicate (8 * capacity) 0 ++ (zero_filled homes ++ (zero_filled fars ++ n ∷ length homes ∷ length fars ∷ 0 ∷ 0 ∷
      tariff.rate ∷ tariff.account ∷ []))) u

-- ## An accepted opening

module _ (tariff : Tariff) (homes fars : List ℕ) (n : pair_opening_refusal tariff homes fars ≡ 0) where
  -- its numbers of accounts are within the limit
  pub opened_counts : (length homes ≤ account_limit) × (length fars ≤ account_limit)
  opened_counts =
      let o = opening_none tariff (length homes) (length fars) (total homes + total fars) n in
      ((count_facts (length homes) o.home_count).1, (count_facts (length fars) o.far_count).1)

  -- its words
  abbrev opened_words : List ℕ
  opened_words = pair_opened_words tariff homes fars

  -- the last seven
  abbrev scalars : List ℕ
  scalars = (total homes + total fars) ∷ length homes ∷ length fars ∷ 0 ∷ 0 ∷ tariff.rate ∷ tariff.account ∷ []

  -- both ledgers' balances stand there
  opened_stand : Stands opened_words (balances_start 0) homes (zero_filled fars ++ scalars) × Stands opened_words (balances_start 1) fars scalars
  unfolding pair_opened_words
  opened_stand =
      both_stand homes fars opened_counts.0 opened_counts.1 (replicate (8 * capacity) 0) (8 * capacity)
      (length-replicate {A = ℕ} (8 * capacity) 0) scalars

  -- each of the last seven
  last : (k : ℕ) → get_or opened_words (pair_supply_word + k) 0 ≡ get_or scalars k 0
  last = opened_stand.1.behind

  -- they are, seen as the rules' state, the rules' opened state
  pub opened_view : pair_view_of opened_words ≡ pair_opened tariff homes fars
  unfolding ledger_in records_from list_at
  opened_view = rw (last 0, last 1, last 2, last 3, last 4, last 5, last 6, opened_stand.0.balances, opened_stand.1.balances)

  -- no record is held
  count_none : (l : ℕ) → l < 2 → count_on opened_words l ≡ 0
  count_none = by_byte (λ (l : ℕ). count_on opened_words l ≡ 0) (last 3) (last 4)

  -- so they are sound
  pub opened_sound : PairSound opened_words
  unfolding zero_beyond formed_on all_at
  opened_sound =
      let o = opening_none tariff (length homes) (length fars) (total homes + total fars) n in
      record {
        long = opened_stand.1.long;
        bounds =
            record {
              count = by_byte (λ (l : ℕ). count_allowed (accounts_on opened_words l) ≡ true) (rw (last 1) o.home_count)
                  (rw (last 2) o.far_count);
              room = λ l h. omega (arith, count_none l h);
              supply_fits = rw (last 0) o.supply_fits;
              tariff_allowed = rw (last 5, last 6, last 1) o.tariff_allowed;
            };
        zeros = by_byte (λ (l : ℕ). zero_beyond opened_words l ≡ true) (rw (last 1) opened_stand.0.zeros) (rw (last 2) opened_stand.1.zeros);
        reads = λ l h. rw (count_none l h);
        accepted = ap (pair_accepts capacity) opened_view ∙ pair_opened_accepted capacity tariff homes fars n;
      }

  -- with indexes of zeros they are ready for a record
  pub opened_ready : PairReady opened_words (replicate (2 * index_length) 0)
  opened_ready =
      record {
        accepted = sound_accepts opened_words opened_sound;
        index_long = length-replicate {A = ℕ} (2 * index_length) 0;
        indexed = λ l h. subst (IndexOf opened_words (records_start l) (replicate (2 * index_length) 0) (index_on l)) (sym (count_none l h))
            (index_none opened_words (records_start l) (2 * index_length) (index_on l));
      }

-- the all-zero words, beside a refused opening, are refused by every call
pub zero_refused : accepts_pair pair_zero_words ≡ false
unfolding accepts_pair pair_bounds count_allowed pair_zero_words
zero_refused = every_not 1 _ (every_not 0 _ (every_not 0 _ refl))
