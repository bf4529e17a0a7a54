-- Demand 3, second half, from a far list to a pass: where an interleaving passes the rules, the home validator passes its home
-- records. Assumes nothing.
use Rattle.rules.specs.Calls.{InTurn}
use Rattle.wire.proofs.Prelude.{List, [], ◌+◌, ◌<◌, ◌∙◌, ◌∷◌, ◌≡◌, ◌≤◌, arith, false, fun_ext, length, length-append, refl, sym, true, ℕ}
use Rattle.ledgers.specs.Ledgers.{ledger_of}
use Rattle.records.specs.Records.{reading}
use Rattle.rules.proofs.Clashes.{Distinct}
use Rattle.rules.proofs.HomePool.{pool_step}
use Rattle.rules.proofs.InFlight.{received_snoc, sent_snoc}
use Rattle.rules.proofs.Ledgers.{Clean, clean_other, clean_own, crossing, own_sums}
use Rattle.rules.proofs.Lists.{length_moved}
use Rattle.rules.proofs.Refusals.{HomePassable, Passable, is_home, judge_none, none_home_judge, none_room, rules_read}
use Rattle.rules.specs.HomeValidator.{HomeView, home_accounts, home_judge_record, home_last_refusal, is_far, pool_after, received, sent}
use Rattle.rules.specs.HomeValidator.{FarRecord, HomeFollowsRules, HomeRecord, home_validator}
use Rattle.rules.specs.Lists.{Interleaving, all, left, none, right, sum, total}
use Rattle.rules.specs.Rules.{Far, Home, Kind, Ledger, LedgerState, Local, PairState, Receiving, Record, Sending, accounts_of}
use Rattle.rules.specs.Rules.{Passes, Tariff, after, after_bytes, held, is_receiving, judge, judge_bytes, last_refusal, new_ledger}
use Rattle.tariffs.specs.Tariffs.{free}
use Rattle.wire.specs.BigEndian.{All}

-- ## Both ledgers by name

-- both ledgers
abbrev pub pair_of : LedgerState → LedgerState → PairState
pair_of H F = record { home = H; far = F }

-- the home validator's state
abbrev pub view_of : LedgerState → ℕ → ℕ → ℕ → HomeView
view_of H far_accounts pool supply = record { home = H; far_accounts = far_accounts; far_pool = pool; supply = supply }

module _ (H F : LedgerState) (r : Record) where
  -- a home record that passes
  pub after_home : ledger_of r.kind ≡ Home → after (pair_of H F) r ≡ pair_of (held H r) F
  unfolding after
  after_home q = rw q

  -- a far record that passes
  pub after_far : ledger_of r.kind ≡ Far → after (pair_of H F) r ≡ pair_of H (held F r)
  unfolding after
  after_far q = rw q

-- ## Locals and sendings follow the rules

-- whatever the far ledger is
pub home_follows_rules : HomeFollowsRules
unfolding HomeFollowsRules home_judge_record judge
home_follows_rules v far count r l =
    let p = pair_of v.home far in
    let accounts : home_accounts v ≡ accounts_of p = fun_ext (elim [ Home ↦ refl | Far ↦ sym count ]) in
    let last : (k : Kind) → ledger_of k ≡ Home → is_receiving k ≡ false → home_last_refusal v r k ≡ last_refusal p r k =
    elim [ Local m ↦ λ q s. rw q | Sending m ↦ λ q s. rw q | Receiving m ↦ λ q s. cc ] in
    (λ s. rw (l, accounts, last r.kind l s), rw (after_home v.home far r l))

-- ## What the rules keep from an opening

-- both ledgers' records are clean, far's charge account is open, and far balances are what its records leave of the far total
pub record Sound (H F : LedgerState) (far_total : ℕ) : Type 0 where
  pub home_clean : Clean H F
  pub far_clean : Clean F H
  pub far_open : F.tariff.account < length F.balances
  pub far_sum : total F.balances + sent F.passed ≡ far_total + received F.passed

-- after a home record
sound_home : (H F : LedgerState) (r : Record) (far_total : ℕ) → Passable H F r r.kind → Sound H F far_total
    → Sound (held H r) F far_total
sound_home H F r far_total h s =
    record {
      home_clean = clean_own H F r h s.home_clean;
      far_clean = clean_other F H r s.far_clean;
      far_open = s.far_open;
      far_sum = s.far_sum;
    }

-- after a far record
sound_far : (H F : LedgerState) (r : Record) (far_total : ℕ) → Passable F H r r.kind → Sound H F far_total → Sound H (held F r) far_total
sound_far H F r far_total h s =
    record {
      home_clean = clean_other H F r s.home_clean;
      far_clean = clean_own F H r h s.far_clean;
      far_open = rw (length_moved F.tariff F.balances r r.kind) s.far_open;
      far_sum = omega (arith, s.far_sum, own_sums F H r r.kind s.far_open refl h);
    }

-- what home received is within the far total and what it sent
sound_within : (H F : LedgerState) (far_total : ℕ) → Sound H F far_total → received H.passed ≤ far_total + sent H.passed
sound_within H F far_total s =
    omega (arith, s.far_sum, crossing H F s.home_clean s.far_clean, crossing F H s.far_clean s.home_clean)

-- at the opening
pub sound_opened : (tariff : Tariff) (homes fars : List ℕ) → 0 < length fars → Sound (new_ledger tariff homes) (new_ledger free fars) (total fars)
unfolding all Distinct sent received sum
sound_opened tariff homes fars h = search

-- ## One record

module _ (H F : LedgerState) (r : Record) (far_accounts pool supply far_total : ℕ) (count : length F.balances ≡ far_accounts)
    (sound : Sound H F far_total) (worked-out : pool + received H.passed ≡ far_total + sent H.passed) where
  -- a home record that the rules pass, the home validator passes
  home_passable : Passable H F r r.kind → (k : Kind) → r.kind ≡ k → ledger_of k ≡ Home → Passable H F r k
      → HomePassable (view_of H far_accounts pool supply) r k
  unfolding Passable HomePassable
  home_passable h (Local l) e q p = rw q p
  home_passable h (Sending l) e q p = rw q (rw count at p)
  home_passable h (Receiving l) e q p =
      let s = sent_snoc H.passed r e in
      let t = received_snoc H.passed r e in
      rw q (rw count at p.0, omega (arith, sound_within (held H r) F far_total (sound_home H F r far_total h sound)))

-- ## Interleavings

-- the ledger of a far record
is_far_lem : (l : Ledger) → is_far l ≡ true → l ≡ Far
is_far_lem Home e = cc
is_far_lem Far e = refl

-- where an interleaving passes the rules, its home records pass the home validator in turn
pub interleaving_sound : {homes fars merged : List (List ℕ)} → Interleaving homes fars merged
    → (capacity far_accounts pool supply far_total : ℕ) (H F : LedgerState)
    → length F.balances ≡ far_accounts → Sound H F far_total → pool + received H.passed ≡ far_total + sent H.passed
    → length H.passed + length homes ≤ capacity → All HomeRecord homes → All FarRecord fars → Passes (pair_of H F) merged
    → InTurn (home_validator capacity) (view_of H far_accounts pool supply) homes
unfolding InTurn Passes All judge_bytes after_bytes
interleaving_sound none capacity far_accounts pool supply far_total H F count sound out fit hr fr ps = tt
interleaving_sound (left {x = b} {xs = homes} {zs = merged} w) capacity far_accounts pool supply far_total H F count sound out fit hr fr ps =
    let x = rules_read (pair_of H F) (reading b) ps.0 in
    let r = x.0 in
    let q : ledger_of r.kind ≡ Home = is_home _ (rw x.1 at hr.0) in
    let h : Passable H F r r.kind = rw q at (judge_none (pair_of H F) r r.kind refl x.2) in
    let hp = home_passable H F r far_accounts pool supply far_total count sound out h r.kind refl q h in
    let v = view_of H far_accounts pool supply in
    rw x.1 (
      simp (none_home_judge v r r.kind refl hp, none_room capacity H.passed (omega arith)),
      interleaving_sound w capacity far_accounts (pool_after pool r r.kind) supply far_total (held H r) F count
          (sound_home H F r far_total h sound) (pool_step v r r.kind far_total H.passed refl hp out)
          (omega (arith, length-append H.passed (r ∷ []))) hr.1 fr (rw (x.1, after_home H F r q) at ps.1),
    )
interleaving_sound (right {y = b} {ys = fars} {zs = merged} w) capacity far_accounts pool supply far_total H F count sound out fit hr fr ps =
    let x = rules_read (pair_of H F) (reading b) ps.0 in
    let r = x.0 in
    let q : ledger_of r.kind ≡ Far = is_far_lem _ (rw x.1 at fr.0.1) in
    let h : Passable F H r r.kind = rw q at (judge_none (pair_of H F) r r.kind refl x.2) in
    interleaving_sound w capacity far_accounts pool supply far_total H (held F r) (length_moved F.tariff F.balances r r.kind ∙ count)
    (sound_far H F r far_total h sound) out fit hr fr.1 (rw (x.1, after_far H F r q) at ps.1)
