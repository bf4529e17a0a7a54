-- Demand 3, second half: home never pays out above the far pool, at any beginning of the passed records of a run.
-- Assumes nothing.
use Rattle.wire.specs.BigEndian.{All}
use Rattle.wire.proofs.Prelude.{List, [], ◌++◌, ◌+◌, ◌∙◌, ◌∷◌, ◌≡◌, ap, arith, refl, ℕ}
use Rattle.answers.proofs.Answers.{or_else_zero}
use Rattle.records.specs.Records.{reading}
use Rattle.rules.proofs.HomeAccepted.{home_only, home_run_accepted}
use Rattle.rules.proofs.InFlight.{received_snoc, sent_snoc}
use Rattle.rules.proofs.PairConserved.{records_snoc}
use Rattle.rules.proofs.Refusals.{HomePassable, home_judge_none, home_read}
use Rattle.rules.proofs.Runs.{in_turn_split, keep_in_turn, reached_run}
use Rattle.rules.specs.Calls.{InTurn, passed_records, records_on, state_after}
use Rattle.rules.specs.HomeValidator.{HomeView, far_pool_of, home_after, home_judge, home_judge_record, pool_after, received, sent}
use Rattle.rules.specs.HomeValidator.{HomeRecord, WithinPool, home_opened, home_validator}
use Rattle.rules.specs.Lists.{sum}
use Rattle.rules.specs.Rules.{Far, Home, Kind, Local, Read, Receiving, Record, Sending, Tariff}

-- ## The far pool and the passed records

-- the state holds the passed records, and its far pool is what they leave of the far total
record Pooled (far_total : ℕ) (v : HomeView) (done : List (List ℕ)) : Type 0 where
  records : v.home.passed ≡ records_on Home done
  pool : v.far_pool + received (records_on Home done) ≡ far_total + sent (records_on Home done)

-- with one record more
pub pool_step : (v : HomeView) (r : Record) (k : Kind) (far_total : ℕ) (passed : List Record) → r.kind ≡ k → HomePassable v r k
    → v.far_pool + received passed ≡ far_total + sent passed
    → pool_after v.far_pool r k + received (passed ++ r ∷ []) ≡ far_total + sent (passed ++ r ∷ [])
unfolding HomePassable
pool_step v r (Local Home) far_total passed q h e = omega (arith, sent_snoc passed r q, received_snoc passed r q)
pool_step v r (Sending Home) far_total passed q h e = omega (arith, sent_snoc passed r q, received_snoc passed r q)
pool_step v r (Receiving Home) far_total passed q h e = omega (arith, h.1, sent_snoc passed r q, received_snoc passed r q)
pool_step v r (Local Far) far_total passed q h e = absurd h
pool_step v r (Sending Far) far_total passed q h e = absurd h
pool_step v r (Receiving Far) far_total passed q h e = absurd h

-- a passed record keeps it so
pooled_step : (capacity far_total : ℕ) (v : HomeView) (b : List ℕ) (done : List (List ℕ)) → home_judge capacity v (reading b) ≡ 0
    → Pooled far_total v done → Pooled far_total (home_after v (reading b)) (done ++ b ∷ [])
pooled_step capacity far_total v b done j t =
    let x = home_read capacity v (reading b) j in
    let r = x.0 in
    let p = home_judge_none v r r.kind refl x.2 in
    let l = home_only v r x.2 in
    record {
      records = rw (records_snoc Home done b, ← t.records, x.1, l);
      pool = rw (records_snoc Home done b, x.1, l) (pool_step v r r.kind far_total (records_on Home done) refl p t.pool);
    }

-- so it is after records that pass in turn from the opening
pooled_all : (capacity : ℕ) (tariff : Tariff) (homes : List ℕ) (far_accounts far_total : ℕ) (bs : List (List ℕ))
    → InTurn (home_validator capacity) (home_opened tariff homes far_accounts far_total) bs
    → Pooled far_total (state_after (home_validator capacity) (home_opened tariff homes far_accounts far_total) bs) bs
unfolding records_on sent received sum
pooled_all capacity tariff homes far_accounts far_total bs it =
    keep_in_turn (home_validator capacity) (Pooled far_total) (pooled_step capacity far_total) bs
    (home_opened tariff homes far_accounts far_total) [] it
    (record { records = refl; pool = refl })

-- the far pool is then the one worked out
pooled_figure : (far_total : ℕ) (v : HomeView) (done : List (List ℕ)) → Pooled far_total v done
    → v.far_pool ≡ far_pool_of far_total (records_on Home done)
unfolding far_pool_of
pooled_figure far_total v done t = omega (arith, t.pool)

-- records that pass in turn are home records
pub all_home : (capacity : ℕ) (v : HomeView) (bs : List (List ℕ)) → InTurn (home_validator capacity) v bs → All HomeRecord bs
unfolding InTurn All
all_home capacity v [] h = tt
all_home capacity v (b ∷ bs) h =
    let x = home_read capacity v (reading b) h.0 in
    (rw (x.1, home_only v x.0 x.2), all_home capacity (home_after v (reading b)) bs h.1)

-- ## The theorem

-- demand 3, the bound of its second half
pub within_pool : WithinPool
unfolding WithinPool InTurn HomePassable
within_pool capacity tariff homes far_accounts far_total ok ds =
    let c = home_validator capacity in
    let v₀ = home_opened tariff homes far_accounts far_total in
    let reached = reached_run c v₀ ds in
    let t = pooled_all capacity tariff homes far_accounts far_total (passed_records c v₀ ds) reached.in_turn in
    record {
      bounded = λ xs ys q.
          let it : InTurn c v₀ (xs ++ ys) = rw q at reached.in_turn in
          omega (arith, (pooled_all capacity tariff homes far_accounts far_total xs (in_turn_split c v₀ xs ys it).0).pool);
      each = λ xs ys b r q g k.
          let it : InTurn c v₀ (xs ++ b ∷ ys) = rw q at reached.in_turn in
          let s = in_turn_split c v₀ xs (b ∷ ys) it in
          let v : HomeView = state_after c v₀ xs in
          let j : home_judge capacity v (Read r) ≡ 0 = rw g at s.1.0 in
          rw (← pooled_figure far_total v xs (pooled_all capacity tariff homes far_accounts far_total xs s.0))
          (home_judge_none v r (Receiving Home) k (or_else_zero (home_judge_record v r) _ j).0).1;
      figure = ap (λ (v : HomeView). v.far_pool) reached.state ∙ pooled_figure far_total _ _ t;
      home_records = all_home capacity v₀ _ reached.in_turn;
      table = ap (λ (v : HomeView). v.home.passed) reached.state ∙ t.records;
      accepted = home_run_accepted capacity tariff homes far_accounts far_total ok ds;
    }
