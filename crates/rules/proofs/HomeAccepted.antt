-- A pass keeps a state of the home validator accepted, whatever accepted state it starts from. Assumes nothing.
use Rattle.wire.proofs.Prelude.{List, [], ◌+◌, ◌<◌, ◌∙◌, ◌∷◌, ◌≡◌, ◌≤◌, arith, eq-eqb, eqb-true, fun_ext, le-leb, leb-true, length}
use Rattle.wire.proofs.Prelude.{length-append, lit<, refl, true, ℕ}
use Rattle.answers.proofs.Answers.{refuse_zero}
use Rattle.ledgers.specs.Ledgers.{ledger_of}
use Rattle.ledgers.specs.Limits.{max_amount}
use Rattle.records.specs.Records.{reading}
use Rattle.rules.proofs.Clashes.{Distinct, distinct_snoc, distinct_unshared, unshared_distinct}
use Rattle.rules.proofs.Ledgers.{read_amount}
use Rattle.rules.proofs.Lists.{all_every, all_snoc, every_all, length_lowered, length_moved, total_lowered, total_raised}
use Rattle.rules.proofs.PairAccepted.{allowed_held, stands_own}
use Rattle.rules.proofs.PairConserved.{opening_none}
use Rattle.rules.proofs.Refusals.{HomePassable, first_none, home_judge_none, home_read, is_home}
use Rattle.rules.proofs.Runs.{keeps_accepted, run_accepted}
use Rattle.rules.specs.Calls.{Call, run}
use Rattle.rules.specs.HomeValidator.{HomeKeepsAccepted, HomeView, home_accounts, home_judge, home_judge_record, is_far, pool_after}
use Rattle.rules.specs.HomeValidator.{home_accepts, home_after, home_opened, home_opening_refusal, home_validator}
use Rattle.rules.specs.Lists.{all, lowered, total}
use Rattle.rules.specs.PairValidator.{count_allowed, held_allowed, stands_under, supply_allowed}
use Rattle.rules.specs.Rules.{Far, Home, Kind, Local, Read, Receiving, Record, Sending, Tariff, credit, debit, moved}
use Rattle.tariffs.proofs.Allowing.{allowed_open}
use Rattle.tariffs.specs.Tariffs.{charge, tariff_allowed}
use Rattle.wire.specs.BigEndian.{All}

-- ## The facts of an accepted state

-- what refusal 3 asks
pub record HomeFacts (capacity : ℕ) (v : HomeView) : Type 0 where
  pub home_count : count_allowed (length v.home.balances) ≡ true
  pub far_count : count_allowed v.far_accounts ≡ true
  pub room : length v.home.passed ≤ capacity
  pub supply_fits : supply_allowed v.supply ≡ true
  pub tariff_allowed : tariff_allowed v.home.tariff (length v.home.balances) ≡ true
  pub allowed : all (held_allowed (home_accounts v)) v.home.passed ≡ true
  pub distinct : Distinct v.home.passed
  pub stand : all (stands_under Home) v.home.passed ≡ true
  pub sums : total v.home.balances + v.far_pool ≡ v.supply

-- the test of refusal 3
pub home_accepts_facts : (capacity : ℕ) (v : HomeView) → home_accepts capacity v ≡ true → HomeFacts capacity v
unfolding home_accepts All
home_accepts_facts capacity v h = let a = every_all _ h in search (leb-true, unshared_distinct, eqb-true)

-- and back
pub home_facts_accepts : (capacity : ℕ) (v : HomeView) → HomeFacts capacity v → home_accepts capacity v ≡ true
unfolding home_accepts All
home_facts_accepts capacity v f = all_every _ (search (le-leb, distinct_unshared, eq-eqb) depth 13)

-- ## A record that passes

-- it is a home record
pub home_only : (v : HomeView) (r : Record) → home_judge_record v r ≡ 0 → ledger_of r.kind ≡ Home
unfolding home_judge_record
home_only v r j = is_home _ (refuse_zero (is_far (ledger_of r.kind)) 33 _ (lit< tt) j).0

-- home balances and far pool together stay
home_sums : (v : HomeView) (r : Record) (k : Kind) → v.home.tariff.account < length v.home.balances → HomePassable v r k
    → total (moved v.home.tariff v.home.balances r k) + pool_after v.far_pool r k ≡ total v.home.balances + v.far_pool
unfolding HomePassable
home_sums v r (Local Home) o h =
    let u = total_lowered v.home.balances r.sender r.amount h.0.sender_open h.1 in
    let left = lowered v.home.balances r.sender r.amount in
    omega (arith, total_raised left r.receiver (credit r) (rw length_lowered h.0.receiver_open))
home_sums v r (Sending Home) o h =
    let t = v.home.tariff in
    let whole = debit t r (Sending Home) in
    let u = total_lowered v.home.balances r.sender whole h.0.sender_open h.1 in
    let left = lowered v.home.balances r.sender whole in
    omega (arith, total_raised left t.account (charge t.rate r.amount) (rw length_lowered o))
home_sums v r (Receiving Home) o h = omega (arith, h.1, total_raised v.home.balances r.receiver (credit r) h.0.receiver_open)
home_sums v r (Local Far) o h = absurd h
home_sums v r (Sending Far) o h = absurd h
home_sums v r (Receiving Far) o h = absurd h

-- the facts after it
home_facts_after : (capacity : ℕ) (v : HomeView) (r : Record) → (0 < r.amount) × (r.amount ≤ max_amount) → home_judge_record v r ≡ 0
    → length v.home.passed < capacity → HomeFacts capacity v → HomeFacts capacity (home_after v (Read r))
unfolding home_judge_record
home_facts_after capacity v r m j room f =
    let h = home_judge_none v r r.kind refl j in
    let a = (first_none (home_accounts v) v.home.passed r _ (refuse_zero (is_far (ledger_of r.kind)) 33 _ (lit< tt) j).1).0 in
    let count = length_moved v.home.tariff v.home.balances r r.kind in
    let accounts : home_accounts (home_after v (Read r)) ≡ home_accounts v = fun_ext (elim [ Home ↦ count | Far ↦ refl ]) in
    record {
      home_count = rw count f.home_count;
      far_count = f.far_count;
      room = omega (arith, length-append v.home.passed (r ∷ []));
      supply_fits = f.supply_fits;
      tariff_allowed = rw count f.tariff_allowed;
      allowed = rw accounts (all_snoc _ v.home.passed r f.allowed (allowed_held (home_accounts v) v.home.passed r a m));
      distinct = distinct_snoc v.home.passed r f.distinct a.fresh;
      stand = all_snoc _ v.home.passed r f.stand (rw (home_only v r j) at (stands_own r));
      sums = home_sums v r r.kind (allowed_open _ _ f.tariff_allowed) h ∙ f.sums;
    }

-- a record of bytes that passes
pub home_step : (capacity : ℕ) (v : HomeView) (b : List ℕ) → home_accepts capacity v ≡ true → home_judge capacity v (reading b) ≡ 0
    → home_accepts capacity (home_after v (reading b)) ≡ true
home_step capacity v b ok j =
    let x = home_read capacity v (reading b) j in
    rw x.1
    (home_facts_accepts capacity (home_after v (Read x.0))
    (home_facts_after capacity v x.0 (read_amount b x.0 x.1) x.2 x.3 (home_accepts_facts capacity v ok)))

-- every call of the home validator in an accepted state hands back an accepted one
pub home_keeps_accepted : HomeKeepsAccepted
unfolding HomeKeepsAccepted
home_keeps_accepted capacity = keeps_accepted (home_validator capacity) (λ v b a j. home_step capacity v b a j)

-- the state of an accepted opening is accepted
pub home_opened_accepted : (capacity : ℕ) (tariff : Tariff) (homes : List ℕ) (far_accounts far_total : ℕ)
    → home_opening_refusal tariff homes far_accounts far_total ≡ 0
    → home_accepts capacity (home_opened tariff homes far_accounts far_total) ≡ true
unfolding all Distinct
home_opened_accepted capacity tariff homes far_accounts far_total h =
    let o = opening_none _ _ _ _ h in
    home_facts_accepts capacity (home_opened tariff homes far_accounts far_total) (search arith)

-- every state of a run from an accepted opening is accepted
pub home_run_accepted : (capacity : ℕ) (tariff : Tariff) (homes : List ℕ) (far_accounts far_total : ℕ)
    → home_opening_refusal tariff homes far_accounts far_total ≡ 0
    → (ds : List Call) → home_accepts capacity (run (home_validator capacity) (home_opened tariff homes far_accounts far_total) ds) ≡ true
home_run_accepted capacity tariff homes far_accounts far_total h ds =
    run_accepted (home_validator capacity) (λ v b a j. home_step capacity v b a j) (home_opened tariff homes far_accounts far_total)
    (home_opened_accepted capacity tariff homes far_accounts far_total h) ds
