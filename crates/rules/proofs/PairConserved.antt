-- Demand 3, first half: conservation over the runs of the pair validator. Assumes nothing.
use Rattle.wire.proofs.Prelude.{List, [], ◌++◌, ◌+◌, ◌∙◌, ◌∷◌, ◌≡◌, append_assoc, append-nil, arith, lit<, not-false, refl}
use Rattle.wire.proofs.Prelude.{sym, true, ℕ}
use Rattle.answers.proofs.Answers.{refuse_zero}
use Rattle.ledgers.specs.Ledgers.{ledger_of}
use Rattle.records.specs.Records.{reading}
use Rattle.rules.proofs.Clashes.{Distinct}
use Rattle.rules.proofs.Lists.{every_all}
use Rattle.rules.proofs.PairAccepted.{accepts_facts, count_some, facts_accepts, pair_step}
use Rattle.rules.proofs.Refusals.{pair_read}
use Rattle.rules.proofs.Runs.{keep_run, run_accepted}
use Rattle.rules.specs.Calls.{if_on, passed_records, read_on, records_on, run}
use Rattle.rules.specs.Lists.{all, sum, total}
use Rattle.rules.specs.PairValidator.{PairView, count_allowed, opening_refusal, pair_accepts, pair_judge, pair_validator, supply_allowed}
use Rattle.rules.specs.PairValidator.{Conserved, in_flight_of, pair_opened, pair_opening_refusal}
use Rattle.rules.specs.Rules.{Far, Home, Ledger, PairState, Record, Tariff, after, after_bytes, flight, held, in_flight, state_of}
use Rattle.rules.specs.Rules.{with_state}
use Rattle.tariffs.proofs.Allowing.{free_allowed, free_nothing}
use Rattle.tariffs.specs.Tariffs.{tariff_allowed}
use Rattle.wire.specs.BigEndian.{All}

-- ## The passed records of a run

-- the records of a ledger, with one record more
pub records_snoc : (l : Ledger) (bs : List (List ℕ)) (b : List ℕ) → records_on l (bs ++ b ∷ []) ≡ records_on l bs ++ read_on l (reading b)
unfolding records_on
records_snoc l [] b = append-nil (read_on l (reading b))
records_snoc l (x ∷ bs) b = rw (records_snoc l bs b) (sym (append_assoc (read_on l (reading x)) (records_on l bs) (read_on l (reading b))))

-- the records passed on a ledger once a record has passed
pub passed_after : (p : PairState) (r : Record) (l m : Ledger)
    → (state_of l (with_state m (held (state_of m p) r) p)).passed ≡ (state_of l p).passed ++ if_on l r m
passed_after p r Home Home = refl
passed_after p r Home Far = sym (append-nil p.home.passed)
passed_after p r Far Home = sym (append-nil p.far.passed)
passed_after p r Far Far = refl

-- the state holds the passed records of each ledger, and its supply is the opening's
record Tracked (supply : ℕ) (v : PairView) (done : List (List ℕ)) : Type 0 where
  lists : (l : Ledger) → (state_of l v.pair).passed ≡ records_on l done
  supply_same : v.supply ≡ supply

-- a passed record keeps it so
tracked_step : (capacity supply : ℕ) (v : PairView) (b : List ℕ) (done : List (List ℕ)) → pair_judge capacity v.pair (reading b) ≡ 0
    → Tracked supply v done → Tracked supply (record { pair = after_bytes v.pair b; supply = v.supply }) (done ++ b ∷ [])
unfolding after_bytes after
tracked_step capacity supply v b done j t =
    let x = pair_read capacity v.pair (reading b) j in
    record {
      lists = λ l. rw (records_snoc l done b, x.1, ← t.lists l) (passed_after v.pair x.0 l (ledger_of x.0.kind));
      supply_same = t.supply_same;
    }

-- ## The opening

-- what an accepted opening is
pub record Opening (tariff : Tariff) (homes fars supply : ℕ) : Type 0 where
  pub home_count : count_allowed homes ≡ true
  pub far_count : count_allowed fars ≡ true
  pub supply_fits : supply_allowed supply ≡ true
  pub tariff_allowed : tariff_allowed tariff homes ≡ true

-- the refusals 1, 2 and 52
pub opening_none : (tariff : Tariff) (homes fars supply : ℕ) → opening_refusal tariff homes fars supply ≡ 0
    → Opening tariff homes fars supply
unfolding opening_refusal All
opening_none tariff homes fars supply h =
    let a = refuse_zero _ 1 _ (lit< tt) h in
    let b = refuse_zero _ 2 _ (lit< tt) a.1 in
    let d = refuse_zero _ 52 0 (lit< tt) b.1 in
    let c = every_all _ (not-false _ a.0) in
    record { home_count = c.0; far_count = c.1.0; supply_fits = not-false _ b.0; tariff_allowed = not-false _ d.0 }

-- the state of an accepted opening is accepted
pub pair_opened_accepted : (capacity : ℕ) (tariff : Tariff) (homes fars : List ℕ) → pair_opening_refusal tariff homes fars ≡ 0
    → pair_accepts capacity (pair_opened tariff homes fars) ≡ true
unfolding all Distinct in_flight flight sum
pair_opened_accepted capacity tariff homes fars h =
    let o = opening_none _ _ _ _ h in
    let f = free_allowed _ (count_some _ o.far_count) in
    facts_accepts capacity (pair_opened tariff homes fars)
    (record {
      ledgers = elim [ Home ↦ search arith | Far ↦ search arith ];
      supply_fits = o.supply_fits;
      far_free = free_nothing;
      sums = omega arith;
    })

-- ## The theorem

-- demand 3, its first half
pub conserved : Conserved
unfolding Conserved records_on in_flight in_flight_of
conserved capacity tariff homes fars h ds =
    let supply : ℕ = total homes + total fars in
    let ok =
    run_accepted (pair_validator capacity) (λ v b a j. pair_step capacity v b a j) (pair_opened tariff homes fars)
    (pair_opened_accepted capacity tariff homes fars h) ds in
    let t =
    keep_run (pair_validator capacity) (Tracked supply) (tracked_step capacity supply) ds (pair_opened tariff homes fars) []
    (record { lists = elim [ Home ↦ refl | Far ↦ refl ]; supply_same = refl }) in
    let v : PairView = run (pair_validator capacity) (pair_opened tariff homes fars) ds in
    let figure : in_flight v.pair ≡ in_flight_of (passed_records (pair_validator capacity) (pair_opened tariff homes fars) ds) =
    rw (t.lists Home, t.lists Far) in
    record {
      conserved = rw (← figure) ((accepts_facts capacity v ok).sums ∙ t.supply_same);
      figure = figure;
      supply_same = t.supply_same;
      tables = t.lists;
      accepted = ok;
    }
