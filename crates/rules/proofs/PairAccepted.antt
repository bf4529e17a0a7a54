-- A pass keeps a state of the pair validator accepted, whatever accepted state it starts from. Assumes nothing.
use Rattle.wire.proofs.Prelude.{List, [], ◌+◌, ◌<◌, ◌∷◌, ◌≡◌, ◌≤◌, arith, eq-eqb, eqb-true, le-leb, leb-true, length, length-append, lt-ltb}
use Rattle.wire.proofs.Prelude.{ltb-true, refl, true, ℕ}
use Rattle.ledgers.specs.Ledgers.{counterpart, ledger_of, receiver_ledger, sender_ledger}
use Rattle.ledgers.specs.Limits.{max_amount}
use Rattle.records.specs.Records.{reading}
use Rattle.rules.proofs.Bytes.{same_own}
use Rattle.rules.proofs.Clashes.{distinct_unshared, unshared_distinct}
use Rattle.rules.proofs.Ledgers.{Clean, accounts_with, clean_other, clean_own, crossing, own_sums, read_amount}
use Rattle.rules.proofs.Lists.{all_every, all_snoc, every_all, length_moved}
use Rattle.rules.proofs.Refusals.{Allowed, Passable, first_none, judge_none, none_first, pair_read}
use Rattle.rules.proofs.Runs.{keeps_accepted}
use Rattle.rules.specs.Lists.{all, any, total}
use Rattle.rules.specs.PairValidator.{PairKeepsAccepted, PairView, count_allowed, held_allowed, pair_judge, stands_under, supply_allowed}
use Rattle.rules.specs.PairValidator.{pair_accepts, pair_validator}
use Rattle.rules.specs.Rules.{Far, Home, Ledger, LedgerState, PairState, Record, accounts_of, after, held, judge, state_of, with_state}
use Rattle.rules.specs.Rules.{after_bytes, flight, in_flight}
use Rattle.tariffs.proofs.Allowing.{allowed_open, free_allowed, nothing_free}
use Rattle.tariffs.specs.Tariffs.{takes_nothing, tariff_allowed}
use Rattle.wire.specs.BigEndian.{All}

-- ## The facts of an accepted state

-- of one ledger beside the other
pub record LedgerFacts (capacity : ℕ) (accounts : Ledger → ℕ) (l : Ledger) (own other : LedgerState) : Type 0 where
  pub count : count_allowed (length own.balances) ≡ true
  pub room : length own.passed ≤ capacity
  pub tariff_allowed : tariff_allowed own.tariff (length own.balances) ≡ true
  pub allowed : all (held_allowed accounts) own.passed ≡ true
  pub clean : Clean own other
  pub stand : all (stands_under l) own.passed ≡ true

-- of both, with the supply
pub record AcceptedFacts (capacity : ℕ) (v : PairView) : Type 0 where
  pub ledgers : (l : Ledger) → LedgerFacts capacity (accounts_of v.pair) l (state_of l v.pair) (state_of (counterpart l) v.pair)
  pub supply_fits : supply_allowed v.supply ≡ true
  pub far_free : takes_nothing v.pair.far.tariff ≡ true
  pub sums : total v.pair.home.balances + total v.pair.far.balances + in_flight v.pair ≡ v.supply

-- an allowed number of accounts is not 0
pub count_some : (n : ℕ) → count_allowed n ≡ true → 0 < n
unfolding count_allowed All
count_some n h = ltb-true _ _ (every_all _ h).0

-- a ledger on whose sendings nothing is taken
nothing_allowed : (s : LedgerState) → count_allowed (length s.balances) ≡ true → takes_nothing s.tariff ≡ true
    → tariff_allowed s.tariff (length s.balances) ≡ true
nothing_allowed s c h = rw (nothing_free s.tariff h) (free_allowed _ (count_some _ c))

-- the test of refusal 3
pub accepts_facts : (capacity : ℕ) (v : PairView) → pair_accepts capacity v ≡ true → AcceptedFacts capacity v
unfolding pair_accepts All
accepts_facts capacity v h =
    let a = every_all _ h in
    record {
      ledgers = elim [ Home ↦ search (leb-true, unshared_distinct) | Far ↦ search (leb-true, unshared_distinct, nothing_allowed) ];
      supply_fits = search;
      far_free = search;
      sums = search eqb-true;
    }

-- and back
pub facts_accepts : (capacity : ℕ) (v : PairView) → AcceptedFacts capacity v → pair_accepts capacity v ≡ true
unfolding pair_accepts All
facts_accepts capacity v a =
    let h = a.ledgers Home in
    let f = a.ledgers Far in
    all_every _ (search (le-leb, distinct_unshared, eq-eqb) depth 20)

-- ## A record that passes

-- a record that 21, 22, 51 and 23 do not refuse may be held
pub allowed_held : (accounts : Ledger → ℕ) (passed : List Record) (r : Record)
    → Allowed (accounts (sender_ledger r.kind)) (accounts (receiver_ledger r.kind)) passed r
    → (0 < r.amount) × (r.amount ≤ max_amount) → held_allowed accounts r ≡ true
unfolding held_allowed any All
allowed_held accounts passed r a m =
    let b : Allowed (accounts (sender_ledger r.kind)) (accounts (receiver_ledger r.kind)) [] r =
    record { sender_open = a.sender_open; receiver_open = a.receiver_open; signed = a.signed; fresh = refl } in
    all_every _ (lt-ltb _ _ m.0, (le-leb _ _ m.1, (eq-eqb _ 0 (none_first accounts [] r 0 b refl), tt)))

-- and back
pub held_allowed_lem : (accounts : Ledger → ℕ) (r : Record) → held_allowed accounts r ≡ true
    → Allowed (accounts (sender_ledger r.kind)) (accounts (receiver_ledger r.kind)) [] r × ((0 < r.amount) × (r.amount ≤ max_amount))
unfolding held_allowed All
held_allowed_lem accounts r h =
    let a = every_all _ h in
    ((first_none accounts [] r 0 (eqb-true _ _ a.1.1.0)).0, (ltb-true _ _ a.0, leb-true _ _ a.1.0))

-- a record stands under its ledger
pub stands_own : (r : Record) → stands_under (ledger_of r.kind) r ≡ true
unfolding stands_under
stands_own r = same_own (ledger_of r.kind)

module _ (capacity : ℕ) (accounts : Ledger → ℕ) (l : Ledger) (own other : LedgerState) (r : Record) where
  -- the record's ledger
  facts_own : held_allowed accounts r ≡ true → stands_under l r ≡ true → Passable own other r r.kind → length own.passed < capacity
      → LedgerFacts capacity accounts l own other → LedgerFacts capacity accounts l (held own r) other
  facts_own a s h room f =
      record {
        count = rw (length_moved own.tariff own.balances r r.kind) f.count;
        tariff_allowed = rw (length_moved own.tariff own.balances r r.kind) f.tariff_allowed;
        room = omega (arith, length-append own.passed (r ∷ []));
        allowed = all_snoc _ own.passed r f.allowed a;
        clean = clean_own own other r h f.clean;
        stand = all_snoc _ own.passed r f.stand s;
      }

  -- the other ledger
  facts_other : LedgerFacts capacity accounts l own other → LedgerFacts capacity accounts l own (held other r)
  facts_other f = let c = clean_other own other r f.clean in search

-- balances and in flight, from the record's ledger
sum_step : (own other : LedgerState) (r : Record) → own.tariff.account < length own.balances
    → Passable own other r r.kind → Clean own other → Clean other own
    → total (held own r).balances + (flight (held own r).passed other.passed + flight other.passed (held own r).passed)
    ≡ total own.balances + (flight own.passed other.passed + flight other.passed own.passed)
sum_step own other r o h c d =
    let e = clean_own own other r h c in
    let f = clean_other other own r d in
    let a = crossing own other c d in
    let b = crossing other own d c in
    omega (arith, own_sums own other r r.kind o refl h, crossing (held own r) other e f, crossing other (held own r) f e)

-- both ledgers
accepted_after : (capacity : ℕ) (v : PairView) (r : Record) → (0 < r.amount) × (r.amount ≤ max_amount) → judge v.pair r ≡ 0
    → length (state_of (ledger_of r.kind) v.pair).passed < capacity → AcceptedFacts capacity v
    → AcceptedFacts capacity (record { pair = after v.pair r; supply = v.supply })
unfolding judge after in_flight
accepted_after capacity v r m j room a =
    go (ledger_of r.kind) (stands_own r) (judge_none v.pair r r.kind refl j) room
  where
    p : PairState
    p = v.pair

    ok : held_allowed (accounts_of p) r ≡ true
    ok = allowed_held (accounts_of p) _ r (first_none _ _ r _ j).0 m

    go : (l : Ledger) → stands_under l r ≡ true → Passable (state_of l p) (state_of (counterpart l) p) r r.kind
        → length (state_of l p).passed < capacity
        → AcceptedFacts capacity (record { pair = with_state l (held (state_of l p) r) p; supply = v.supply })
    go Home s h room =
        record {
          ledgers = rw (accounts_with Home r p) (elim [
            | Home ↦ facts_own capacity (accounts_of p) Home p.home p.far r ok s h room (a.ledgers Home)
            | Far ↦ facts_other capacity (accounts_of p) Far p.far p.home r (a.ledgers Far)
          ]);
          supply_fits = a.supply_fits;
          far_free = a.far_free;
          sums = omega (arith, a.sums, sum_step p.home p.far r (allowed_open _ _ (a.ledgers Home).tariff_allowed) h (a.ledgers Home).clean (a.ledgers Far).clean);
        }
    go Far s h room =
        record {
          ledgers = rw (accounts_with Far r p) (elim [
            | Home ↦ facts_other capacity (accounts_of p) Home p.home p.far r (a.ledgers Home)
            | Far ↦ facts_own capacity (accounts_of p) Far p.far p.home r ok s h room (a.ledgers Far)
          ]);
          supply_fits = a.supply_fits;
          far_free = a.far_free;
          sums = omega (arith, a.sums, sum_step p.far p.home r (allowed_open _ _ (a.ledgers Far).tariff_allowed) h (a.ledgers Far).clean (a.ledgers Home).clean);
        }

-- a record of bytes that passes
pub pair_step : (capacity : ℕ) (v : PairView) (b : List ℕ) → pair_accepts capacity v ≡ true → pair_judge capacity v.pair (reading b) ≡ 0
    → pair_accepts capacity (record { pair = after_bytes v.pair b; supply = v.supply }) ≡ true
unfolding after_bytes
pair_step capacity v b ok j =
    let x = pair_read capacity v.pair (reading b) j in
    rw x.1
    (facts_accepts capacity (record { pair = after v.pair x.0; supply = v.supply })
    (accepted_after capacity v x.0 (read_amount b x.0 x.1) x.2 x.3 (accepts_facts capacity v ok)))

-- every call of the pair validator in an accepted state hands back an accepted one
pub pair_keeps_accepted : PairKeepsAccepted
unfolding PairKeepsAccepted
pair_keeps_accepted capacity = keeps_accepted (pair_validator capacity) (λ v b a j. pair_step capacity v b a j)
