-- What is tested of the words is what refusal 3 asks of both ledgers. Assumes nothing.
use Rattle.wire.proofs.Prelude.{Bool, List, [], ◌&&◌, ◌+◌, ◌<◌, ◌^◌, ◌∙◌, ◌∷◌, ◌≡◌, arith, eq-eqb, eqb, eqb-true, false, get_or, inl, length, refl}
use Rattle.wire.proofs.Prelude.{sym, true, ℕ}
use Rattle.ledgers.specs.Ledgers.{counterpart, ledger_byte}
use Rattle.ledgers.specs.Limits.{capacity}
use Rattle.pair_core.proofs.Ledgers.{PairBounds, accounts_same, balances_within, bounds_of, by_byte, by_ledger, byte_below}
use Rattle.pair_core.proofs.Ledgers.{length_balances, length_held, of_bounds, state_on, tariff_fits_lem}
use Rattle.pair_core.specs.Layout.{InBounds, accepts_pair, accounts_on, balances_start, count_on, formed_on, index_on}
use Rattle.pair_core.specs.Layout.{ledger_on}
use Rattle.pair_core.specs.Layout.{pair_bounds, pair_supply_of, pair_view_of, pair_words, records_start, zero_beyond}
use Rattle.pair_core.specs.Testing.{backed_on, balance_sum, flow_sum, held_on, sums_agree}
use Rattle.places.proofs.BalanceTotals.{balances_sum}
use Rattle.places.proofs.OverPlaces.{all_each, all_list}
use Rattle.places.specs.NumberIndex.{Kept}
use Rattle.places.specs.OverPlaces.{all_at, apart_at}
use Rattle.records.specs.Records.{formed}
use Rattle.rules.proofs.Clashes.{distinct_unshared, unshared_distinct}
use Rattle.rules.proofs.Ledgers.{Clean, crossing}
use Rattle.rules.proofs.PairAccepted.{AcceptedFacts, LedgerFacts, accepts_facts, facts_accepts}
use Rattle.rules.specs.Lists.{all, total}
use Rattle.rules.specs.PairValidator.{matched, pair_accepts, stands_under}
use Rattle.rules.specs.Rules.{Far, Home, Ledger, accounts_of, in_flight}
use Rattle.table.proofs.Crossings.{FormedUnder, all_backed_is, received_sum, sent_sum}
use Rattle.table.proofs.Growing.{index_beside}
use Rattle.table.proofs.Numbers.{apart_records}
use Rattle.table.proofs.Records.{AllHeld, all_held, held_all}
use Rattle.table.specs.Table.{EmptyIndex, IndexOf, accounts_by, index_length, ledger_in, may_hold_at, record_at, records_from, shared_at, words_at}
use Rattle.tariffs.proofs.Allowing.{free_nothing}
use Rattle.wire.proofs.Lists.{and_both, every_both, every_first, every_none, same_tests}
use Rattle.wire.specs.BigEndian.{every}

-- both of two tests
both_tests : (t u : Bool) → t ≡ true → u ≡ true → (t && u) ≡ true
both_tests t u a b = rw (a, b)

-- ## The tests, ledger by ledger

-- all that is tested, the length first
unfoldable pub tests_of : List ℕ → Bool
tests_of s =
    every
    (eqb (length s) pair_words
    ∷ pair_bounds s
    ∷ zero_beyond s 0
    ∷ zero_beyond s 1
    ∷ held_on s 0
    ∷ held_on s 1
    ∷ backed_on s 0
    ∷ backed_on s 1
    ∷ sums_agree s
    ∷ []
    )

-- what is tested of each ledger, and of the sums
pub record Tested (s : List ℕ) : Type 0 where
  pub zeros : (L : Ledger) → zero_beyond s (ledger_byte L) ≡ true
  pub holds : (L : Ledger) → held_on s (ledger_byte L) ≡ true
  pub backed : (L : Ledger) → backed_on s (ledger_byte L) ≡ true
  pub adds : balance_sum s 0 + balance_sum s 1 + (flow_sum 2 s 0 + flow_sum 2 s 1) ≡ pair_supply_of s + (flow_sum 3 s 0 + flow_sum 3 s 1)

-- the tests give the facts
tests_facts : (s : List ℕ) → tests_of s ≡ true → (length s ≡ pair_words) × ((pair_bounds s ≡ true) × Tested s)
unfolding tests_of sums_agree
tests_facts s h =
    let a = every_first _ _ h in
    let b = every_first _ _ a.1 in
    let c = every_first _ _ b.1 in
    let d = every_first _ _ c.1 in
    let e = every_first _ _ d.1 in
    let f = every_first _ _ e.1 in
    let g = every_first _ _ f.1 in
    let j = every_first _ _ g.1 in
    let k = every_first _ _ j.1 in
    let t : Tested s =
    record {
      zeros = by_ledger _ c.0 d.0;
      holds = by_ledger _ e.0 f.0;
      backed = by_ledger _ g.0 j.0;
      adds = eqb-true _ _ k.0;
    } in
    (eqb-true _ _ a.0, (b.0, t))

-- and back
facts_tests : (s : List ℕ) → length s ≡ pair_words → pair_bounds s ≡ true → Tested s → tests_of s ≡ true
unfolding tests_of sums_agree
facts_tests s z b t =
    every_both _ _ (eq-eqb _ _ z)
    (every_both _ _ b
    (every_both _ _ (t.zeros Home)
    (every_both _ _ (t.zeros Far)
    (every_both _ _ (t.holds Home)
    (every_both _ _ (t.holds Far)
    (every_both _ _ (t.backed Home)
    (every_both _ _ (t.backed Far)
    (every_both _ _ (eq-eqb _ _ t.adds)
    every_none))))))))

-- ## Both ledgers as the rules see them

module _ (s : List ℕ) (z : length s ≡ pair_words) (b : PairBounds s) (small : (i : ℕ) → get_or s i 0 < 2 ^ 64) where
  -- a ledger's records, read and under it
  standing_of : (L : Ledger) → formed_on s (ledger_byte L) ≡ true → all (stands_under L) (ledger_on s (ledger_byte L)).passed ≡ true
      → FormedUnder s (records_start (ledger_byte L)) (count_on s (ledger_byte L)) L
  unfolding ledger_in records_from formed_on
  standing_of L f h =
      let l = ledger_byte L in
      let g = sym (all_list (record_at s (records_start l)) (stands_under L) 0 (count_on s l)) ∙ h in
      record {
        read = λ i a. all_each (λ (j : ℕ). formed (words_at s (records_start l) j)) 0 (count_on s l) f i (omega arith) (omega arith);
        stands = λ i a. all_each (λ (j : ℕ). stands_under L (record_at s (records_start l) j)) 0 (count_on s l) g i (omega arith) (omega arith);
        small = small;
      }

  -- the total of a ledger's balances
  total_on : (L : Ledger) → total (ledger_on s (ledger_byte L)).balances ≡ balance_sum s (ledger_byte L)
  unfolding ledger_in
  total_on L =
      balances_sum s (balances_start (ledger_byte L)) (accounts_on s (ledger_byte L)) (balances_within s z b (ledger_byte L) (byte_below L))

  -- balances and in flight, with what arrived, are balances and what was sent
  figures : ((L : Ledger) → formed_on s (ledger_byte L) ≡ true)
      → ((L : Ledger) → all (stands_under L) (ledger_on s (ledger_byte L)).passed ≡ true)
      → ((L : Ledger) → Clean (ledger_on s (ledger_byte L)) (ledger_on s (ledger_byte (counterpart L))))
      → total (ledger_on s 0).balances + total (ledger_on s 1).balances + in_flight (pair_view_of s).pair + flow_sum 3 s 0 + flow_sum 3 s 1
      ≡ balance_sum s 0 + balance_sum s 1 + flow_sum 2 s 0 + flow_sum 2 s 1
  unfolding in_flight ledger_in
  figures f h c =
      omega (
        arith,
        total_on Home,
        total_on Far,
        crossing (ledger_on s 0) (ledger_on s 1) (c Home) (c Far),
        crossing (ledger_on s 1) (ledger_on s 0) (c Far) (c Home),
        sent_sum s (records_start 0) (count_on s 0),
        sent_sum s (records_start 1) (count_on s 1),
        received_sum s (records_start 0) (count_on s 0) (standing_of Home (f Home) (h Home)).read,
        received_sum s (records_start 1) (count_on s 1) (standing_of Far (f Far) (h Far)).read,
      )

  -- what is tested of a ledger's records, with the other's accounts
  abbrev held_by : Ledger → Bool
  held_by L =
      all_at
      (may_hold_at s (records_start (ledger_byte L)) L
      (accounts_by L (accounts_on s (ledger_byte L)) (accounts_on s (ledger_byte (counterpart L)))))
      0 (count_on s (ledger_byte L))

  -- a ledger's records that are held, and their numbers apart
  record HeldOn (L : Ledger) : Type 0 where
    records : AllHeld s (records_start (ledger_byte L)) (count_on s (ledger_byte L)) L (accounts_of (pair_view_of s).pair)
    apart : apart_at (shared_at s (records_start (ledger_byte L))) 0 (count_on s (ledger_byte L)) ≡ true

  -- from the test
  held_by_lem : (L : Ledger) → (held_by L && apart_at (shared_at s (records_start (ledger_byte L))) 0 (count_on s (ledger_byte L))) ≡ true → HeldOn L
  held_by_lem L h =
      let a = and_both _ _ h in
      record {
        records = rw (accounts_same s z b L) at (all_held s (records_start (ledger_byte L)) (count_on s (ledger_byte L)) L _ a.0);
        apart = a.1;
      }

  -- and back
  by_held : (L : Ledger) → HeldOn L → (held_by L && apart_at (shared_at s (records_start (ledger_byte L))) 0 (count_on s (ledger_byte L))) ≡ true
  by_held L h =
      both_tests _ _
      (held_all s (records_start (ledger_byte L)) (count_on s (ledger_byte L)) L _ (rw (accounts_same s z b L) h.records))
      h.apart

  -- the same by the ledger's byte
  held_on_lem : (L : Ledger) → held_on s (ledger_byte L) ≡ true → HeldOn L
  held_on_lem Home h = held_by_lem Home h
  held_on_lem Far h = held_by_lem Far h

  -- and back
  on_held : (L : Ledger) → HeldOn L → held_on s (ledger_byte L) ≡ true
  on_held Home h = by_held Home h
  on_held Far h = by_held Far h

  -- the arrivals of a ledger
  backed_on_lem : (L : Ledger) → FormedUnder s (records_start (ledger_byte (counterpart L))) (count_on s (ledger_byte (counterpart L))) (counterpart L)
      → ((i : ℕ) → i < count_on s (ledger_byte L) → formed (words_at s (records_start (ledger_byte L)) i) ≡ true)
      → all (matched (ledger_on s (ledger_byte (counterpart L))).passed) (ledger_on s (ledger_byte L)).passed ≡ backed_on s (ledger_byte L)
  unfolding ledger_in
  backed_on_lem Home h f = all_backed_is s (records_start 1) (count_on s 1) Far h (records_start 0) (count_on s 0) f
  backed_on_lem Far h f = all_backed_is s (records_start 0) (count_on s 0) Home h (records_start 1) (count_on s 1) f

  -- the facts of an accepted state, and records that read
  tested_facts : Tested s → AcceptedFacts capacity (pair_view_of s) × ((L : Ledger) → formed_on s (ledger_byte L) ≡ true)
  unfolding ledger_in formed_on
  tested_facts t = (accepted, formed_on_lem)
    where
      right : (L : Ledger) → HeldOn L
      right L = held_on_lem L (t.holds L)

      formed_on_lem : (L : Ledger) → formed_on s (ledger_byte L) ≡ true
      formed_on_lem L = (right L).records.read

      under : (L : Ledger) → all (stands_under L) (ledger_on s (ledger_byte L)).passed ≡ true
      under L = (right L).records.stand

      standing : (L : Ledger) → FormedUnder s (records_start (ledger_byte L)) (count_on s (ledger_byte L)) L
      standing L = standing_of L (formed_on_lem L) (under L)

      clean : (L : Ledger) → Clean (ledger_on s (ledger_byte L)) (ledger_on s (ledger_byte (counterpart L)))
      clean L =
          record {
            distinct = unshared_distinct _ (sym (apart_records s (records_start (ledger_byte L)) (count_on s (ledger_byte L))) ∙ (right L
                ).apart);
            receivings = backed_on_lem L (standing (counterpart L)) (standing L).read ∙ t.backed L;
          }

      own : (L : Ledger)
          → LedgerFacts capacity (accounts_of (pair_view_of s).pair) L (ledger_on s (ledger_byte L)) (ledger_on s (ledger_byte (counterpart L)))
      own L =
          record {
            count = rw (length_balances s z b (ledger_byte L) (byte_below L)) (b.count (ledger_byte L) (byte_below L));
            room = rw (length_held s (ledger_byte L)) (b.room (ledger_byte L) (byte_below L));
            tariff_allowed = rw (length_balances s z b (ledger_byte L) (byte_below L)) (tariff_fits_lem s b (ledger_byte L) (byte_below L));
            allowed = (right L).records.allowed;
            clean = clean L;
            stand = under L;
          }

      accepted : AcceptedFacts capacity (pair_view_of s)
      accepted =
          record {
            ledgers = by_ledger _ (own Home) (own Far);
            supply_fits = b.supply_fits;
            far_free = free_nothing;
            sums = omega (arith, t.adds, figures formed_on_lem under clean);
          }

  -- and back
  facts_tested : ((L : Ledger) → zero_beyond s (ledger_byte L) ≡ true) → ((L : Ledger) → formed_on s (ledger_byte L) ≡ true)
      → AcceptedFacts capacity (pair_view_of s) → Tested s
  unfolding ledger_in formed_on
  facts_tested zeros formed_on_lem a =
      record {
        zeros = zeros;
        holds = λ L. on_held L
            (record {
              records = record { read = formed_on_lem L; stand = (own L).stand; allowed = (own L).allowed };
              apart = apart_records s (records_start (ledger_byte L)) (count_on s (ledger_byte L)) ∙ distinct_unshared _ (own L).clean.distinct;
            });
        backed = λ L. sym (backed_on_lem L (standing (counterpart L)) (standing L).read) ∙ (own L).clean.receivings;
        adds = omega (arith, a.sums, figures formed_on_lem (λ L. (own L).stand) (λ L. (own L).clean));
      }
    where
      own : (L : Ledger)
          → LedgerFacts capacity (accounts_of (pair_view_of s).pair) L (ledger_on s (ledger_byte L)) (ledger_on s (ledger_byte (counterpart L)))
      own Home = a.ledgers Home
      own Far = a.ledgers Far

      standing : (L : Ledger) → FormedUnder s (records_start (ledger_byte L)) (count_on s (ledger_byte L)) L
      standing L = standing_of L (formed_on_lem L) (own L).stand

-- ## The whole test

-- what is tested of words of 64 bits is what refusal 3 asks
pub accepts_is : (s : List ℕ) → ((i : ℕ) → get_or s i 0 < 2 ^ 64) → tests_of s ≡ accepts_pair s
unfolding accepts_pair
accepts_is s small = same_tests (tests_of s) (accepts_pair s) there back
  where
    there : tests_of s ≡ true → accepts_pair s ≡ true
    there h =
        let f = tests_facts s h in
        let t = f.1.1 in
        let a = tested_facts s f.0 (bounds_of s f.1.0) small t in
        every_both _ _ (eq-eqb _ _ f.0)
        (every_both _ _ f.1.0
        (every_both _ _ (t.zeros Home)
        (every_both _ _ (t.zeros Far)
        (every_both _ _ (a.1 Home)
        (every_both _ _ (a.1 Far)
        (every_both _ _ (facts_accepts capacity (pair_view_of s) a.0)
        every_none))))))

    back : accepts_pair s ≡ true → tests_of s ≡ true
    back h =
        let a = every_first _ _ h in
        let b = every_first _ _ a.1 in
        let c = every_first _ _ b.1 in
        let d = every_first _ _ c.1 in
        let e = every_first _ _ d.1 in
        let f = every_first _ _ e.1 in
        let g = every_first _ _ f.1 in
        let z = eqb-true _ _ a.0 in
        facts_tests s z b.0
        (facts_tested s z (bounds_of s b.0) small (by_ledger _ c.0 d.0) (by_ledger _ e.0 f.0)
        (accepts_facts capacity (pair_view_of s) g.0))

-- where one of the tests fails the state is refused
pub tests_refused : (s : List ℕ) → ((i : ℕ) → get_or s i 0 < 2 ^ 64) → tests_of s ≡ false → false ≡ accepts_pair s
tests_refused s small h = sym h ∙ accepts_is s small

-- ## The indexes, made one after the other

-- the index of far is empty still where that of home is made
pub second_empty : {i j : List ℕ} → Kept (index_on 0) (index_on 0 + index_length) i j → EmptyIndex i (index_on 1)
    → EmptyIndex j (index_on 1)
second_empty k h n p = k.after (index_on 1 + n) (omega arith) ∙ h n p

-- both are made where that of far is made beside that of home
pub both_indexed : (s : List ℕ) → PairBounds s → {i j : List ℕ} → Kept (index_on 1) (index_on 1 + index_length) i j
    → IndexOf s (records_start 0) i (index_on 0) (count_on s 0) → IndexOf s (records_start 1) j (index_on 1) (count_on s 1)
    → (l : ℕ) → l < 2 → IndexOf s (records_start l) j (index_on l) (count_on s l)
both_indexed s b {i} {j} k g h =
    by_byte (λ (l : ℕ). IndexOf s (records_start l) j (index_on l) (count_on s l))
    (index_beside s s (records_start 0) (index_on 0) (count_on s 0) k (inl (omega (arith, b.room 0 (omega arith)))) (λ n p. refl) g) h

-- ## What accepted words have

-- what refusal 3 asks, one by one
pub record PairSound (s : List ℕ) : Type 0 where
  pub long : length s ≡ pair_words
  pub bounds : PairBounds s
  pub zeros : (l : ℕ) → l < 2 → zero_beyond s l ≡ true
  pub reads : (l : ℕ) → l < 2 → formed_on s l ≡ true
  pub accepted : pair_accepts capacity (pair_view_of s) ≡ true

-- from the test
pub sound_of : (s : List ℕ) → accepts_pair s ≡ true → PairSound s
unfolding accepts_pair
sound_of s h =
    let a = every_first _ _ h in
    let b = every_first _ _ a.1 in
    let c = every_first _ _ b.1 in
    let d = every_first _ _ c.1 in
    let e = every_first _ _ d.1 in
    let f = every_first _ _ e.1 in
    let g = every_first _ _ f.1 in
    record {
      long = eqb-true _ _ a.0;
      bounds = bounds_of s b.0;
      zeros = by_byte (λ (l : ℕ). zero_beyond s l ≡ true) c.0 d.0;
      reads = by_byte (λ (l : ℕ). formed_on s l ≡ true) e.0 f.0;
      accepted = g.0;
    }

-- and back
pub sound_accepts : (s : List ℕ) → PairSound s → accepts_pair s ≡ true
unfolding accepts_pair
sound_accepts s o =
    every_both _ _ (eq-eqb _ _ o.long)
    (every_both _ _ (of_bounds s o.bounds)
    (every_both _ _ (o.zeros 0 (omega arith))
    (every_both _ _ (o.zeros 1 (omega arith))
    (every_both _ _ (o.reads 0 (omega arith))
    (every_both _ _ (o.reads 1 (omega arith))
    (every_both _ _ o.accepted
    every_none))))))

-- a ledger's records read and stand under it
pub standing_on : (s : List ℕ) → PairSound s → ((i : ℕ) → get_or s i 0 < 2 ^ 64) → (L : Ledger)
    → FormedUnder s (records_start (ledger_byte L)) (count_on s (ledger_byte L)) L
standing_on s o small L =
    standing_of s o.long o.bounds small L (o.reads (ledger_byte L) (byte_below L))
    (rw (state_on s L) at ((accepts_facts capacity (pair_view_of s) o.accepted).ledgers L).stand)

-- an accepted state, of words of 64 bits, is in bounds
pub in_bounds_of : (s : List ℕ) → accepts_pair s ≡ true → ((i : ℕ) → get_or s i 0 < 2 ^ 64) → InBounds s
in_bounds_of s h small =
    let o = sound_of s h in
    record { long = o.long; small = small; bounded = of_bounds s o.bounds }
