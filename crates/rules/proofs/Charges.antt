-- What the charge does to accounts (document 02, U3): what a sending costs, and every balance worked out from the passed records of its
-- ledger. Of the charge itself nothing is used but that it is a function of rate and amount. Assumes nothing.
use Rattle.wire.proofs.Prelude.{Bool, List, [], ◌&&◌, ◌+◌, ◌-◌, ◌<◌, ◌≡◌, ◌≤◌, ap, arith, cond, dichotomy, eq-eqb, eqb, eqb-false, eqb-true}
use Rattle.wire.proofs.Prelude.{false, get_or, get_or-set_other, inl, inr, length, ne_eqb, not, refl, sym, true, ℕ}
use Rattle.ledgers.specs.Ledgers.{counterpart, ledger_of}
use Rattle.records.specs.Records.{reading}
use Rattle.rules.proofs.HomeAccepted.{home_accepts_facts}
use Rattle.rules.proofs.HomePool.{within_pool}
use Rattle.rules.proofs.Lists.{length_lowered, length_moved, lowered_same, raised_same, sum_snoc}
use Rattle.rules.proofs.PairAccepted.{accepts_facts}
use Rattle.rules.proofs.PairConserved.{conserved, opening_none, pair_opened_accepted}
use Rattle.rules.proofs.Refusals.{HomePassable, Passable, home_judge_none, home_read, judge_none, pair_read}
use Rattle.rules.proofs.Runs.{keep_run}
use Rattle.rules.specs.Charges.{AccountsAddUp, HomeAccountsAddUp, HomeSendingsCost, PairAccountsAddUp, PairSendingsCost, SendingCosts}
use Rattle.rules.specs.Charges.{balance_of, charges, gained, spent}
use Rattle.rules.specs.HomeValidator.{HomeView, WithinPool, home_after, home_judge, home_opened, home_validator}
use Rattle.rules.specs.Lists.{lowered, raised, sum}
use Rattle.rules.specs.PairValidator.{Conserved, PairView, pair_judge, pair_opened, pair_validator}
use Rattle.rules.specs.Rules.{Far, Home, Kind, Ledger, LedgerState, Local, PairState, Receiving, Record, Sending, after, after_bytes}
use Rattle.rules.specs.Rules.{debit, held, is_sending, moved, new_ledger, opened, state_of, with_state}
use Rattle.tariffs.proofs.Allowing.{allowed_open}
use Rattle.tariffs.specs.Tariffs.{charge, cost}

-- ## One account

-- a part, by a test, of nothing
no_part : (t : Bool) → ◌≡◌ {A = ℕ} (cond t 0 0) 0
no_part true = refl
no_part false = refl

-- and of a sum of two numbers
two_parts : (t : Bool) (a b : ℕ) → cond t (a + b) 0 ≡ cond t a 0 + cond t b 0
two_parts true a b = refl
two_parts false a b = refl

-- the part of an account where it is the one that has the amount
its_part : (i j a : ℕ) → i ≡ j → cond (eqb i j) a 0 ≡ a
its_part i j a e = rw (eq-eqb i j e)

-- and where it is not
other_part : (i j a : ℕ) → (i ≡ j → ⊥) → cond (eqb i j) a 0 ≡ 0
other_part i j a e = rw (ne_eqb i j e)

-- each balance once an amount is taken from an account
lowered_each : (b : List ℕ) (s a i : ℕ) → s < length b → a ≤ get_or b s 0 → get_or (lowered b s a) i 0 + cond (eqb i s) a 0 ≡ get_or b i 0
unfolding lowered
lowered_each b s a i o h =
    elim (dichotomy (eqb i s)) [
      | inl q ↦ let n = eqb-false i s q in omega (arith, other_part i s a n, get_or-set_other b s i (get_or b s 0 - a) 0 n)
      | inr q ↦ let e = eqb-true i s q in rw e (omega (arith, its_part s s a refl, lowered_same b s a o))
    ]

-- each balance once an amount is given to an account
raised_each : (b : List ℕ) (j a i : ℕ) → j < length b → get_or (raised b j a) i 0 ≡ get_or b i 0 + cond (eqb i j) a 0
unfolding raised
raised_each b j a i o =
    elim (dichotomy (eqb i j)) [
      | inl q ↦ let n = eqb-false i j q in omega (arith, other_part i j a n, get_or-set_other b j i (get_or b j 0 + a) 0 n)
      | inr q ↦ let e = eqb-true i j q in rw e (omega (arith, its_part j j a refl, raised_same b j a o))
    ]

-- ## One record

-- what either validator knows of a record of a kind that it passes: the accounts that it takes from and gives to are open, and the first
-- has what is taken
unfoldable Covered : LedgerState → Record → Kind → Type 0
Covered s r (Local l) =
    (r.sender < length s.balances) × (debit s.tariff r (Local l) ≤ balance_of s r.sender) × (r.receiver < length s.balances)
Covered s r (Sending l) = (r.sender < length s.balances) × (debit s.tariff r (Sending l) ≤ balance_of s r.sender)
Covered s r (Receiving l) = r.receiver < length s.balances

-- so it is by the rules
pair_covered : (own other : LedgerState) (r : Record) (k : Kind) → Passable own other r k → Covered own r k
unfolding Passable Covered
pair_covered own other r (Local l) h = (h.0.sender_open, h.1, h.0.receiver_open)
pair_covered own other r (Sending l) h = (h.0.sender_open, h.1)
pair_covered own other r (Receiving l) h = h.0.receiver_open

-- and by the home validator
home_covered : (v : HomeView) (r : Record) (k : Kind) → HomePassable v r k → Covered v.home r k
unfolding HomePassable Covered
home_covered v r (Local Home) h = (h.0.sender_open, h.1, h.0.receiver_open)
home_covered v r (Sending Home) h = (h.0.sender_open, h.1)
home_covered v r (Receiving Home) h = h.0.receiver_open
home_covered v r (Local Far) h = absurd h
home_covered v r (Sending Far) h = absurd h
home_covered v r (Receiving Far) h = absurd h

-- what an account gains by a record of a kind
abbrev gains : ℕ → Record → Kind → ℕ
gains i r k = cond (not (is_sending k) && eqb i r.receiver) r.amount 0

-- the charge of a record of a kind
abbrev charge_of : ℕ → Record → Kind → ℕ
charge_of rate r k = cond (is_sending k) (charge rate r.amount) 0

-- each balance once a record has passed, where the charge account is open
moved_each : (s : LedgerState) (r : Record) (k : Kind) → s.tariff.account < length s.balances → Covered s r k → (i : ℕ)
    → get_or (moved s.tariff s.balances r k) i 0 + cond (eqb i r.sender) (debit s.tariff r k) 0
    ≡ balance_of s i + gains i r k + cond (eqb i s.tariff.account) (charge_of s.tariff.rate r k) 0
unfolding Covered
moved_each s r (Local l) o h i =
    let left = lowered s.balances r.sender r.amount in
    omega (
      arith,
      no_part (eqb i s.tariff.account),
      lowered_each s.balances r.sender r.amount i h.0 h.1,
      raised_each left r.receiver r.amount i (rw length_lowered h.2),
    )
moved_each s r (Sending l) o h i =
    let whole = debit s.tariff r (Sending l) in
    let left = lowered s.balances r.sender whole in
    omega (
      arith,
      lowered_each s.balances r.sender whole i h.0 h.1,
      raised_each left s.tariff.account (charge s.tariff.rate r.amount) i (rw length_lowered o),
    )
moved_each s r (Receiving l) o h i =
    omega (
      arith,
      no_part (eqb i r.sender),
      no_part (eqb i s.tariff.account),
      raised_each s.balances r.receiver r.amount i h,
    )

-- ## One sending

-- what a covered sending costs
sending_costs : (s : LedgerState) (r : Record) (l : Ledger) → r.kind ≡ Sending l → s.tariff.account < length s.balances
    → Covered s r (Sending l) → SendingCosts s (held s r) r
unfolding Covered
sending_costs s r l q o h =
    let from = r.sender in
    let to = s.tariff.account in
    let whole = cost s.tariff.rate r.amount in
    let part = charge s.tariff.rate r.amount in
    let each : (i : ℕ) → balance_of (held s r) i + cond (eqb i from) whole 0 ≡ balance_of s i + 0 + cond (eqb i to) part 0 =
    rw q (moved_each s r (Sending l) o h) in
    record {
      had = h.1;
      pays = λ n. omega (arith, each from, its_part from from whole refl, other_part from to part n);
      paid = λ n. omega (arith, each to, its_part to to part refl, other_part to from whole (λ e. n (sym e)));
      pays_itself = λ e. omega (arith, each from, its_part from from whole refl, its_part from to part e);
      others = λ i m n. omega (arith, each i, other_part i from whole m, other_part i to part n);
    }

-- a ledger in its new state
state_with : (l : Ledger) (s : LedgerState) (p : PairState) → state_of l (with_state l s p) ≡ s
state_with Home s p = refl
state_with Far s p = refl

-- the sendings of the pair validator
pub pair_sendings_cost : PairSendingsCost
unfolding PairSendingsCost after
pair_sendings_cost capacity v ok l r q j =
    let s = state_of l v.pair in
    let o = allowed_open _ _ ((accepts_facts capacity v ok).ledgers l).tariff_allowed in
    let h = pair_covered s (state_of (counterpart l) v.pair) r (Sending l) (judge_none v.pair r (Sending l) q j) in
    let e : ledger_of r.kind ≡ l = ap ledger_of q in
    rw (e, state_with l) (sending_costs s r l q o h)

-- the sendings of the home validator
pub home_sendings_cost : HomeSendingsCost
unfolding HomeSendingsCost
home_sendings_cost capacity v ok r q j =
    let o = allowed_open _ _ (home_accepts_facts capacity v ok).tariff_allowed in
    sending_costs v.home r Home q o (home_covered v r (Sending Home) (home_judge_none v r (Sending Home) q j))

-- ## Every account, over a run

-- a ledger with the opening's tariff, whose charge account is open, and each of whose balances is the opening's with what the passed
-- records moved
record Balanced (opening s : LedgerState) : Type 0 where
  same_tariff : s.tariff ≡ opening.tariff
  account_open : s.tariff.account < length s.balances
  each : (i : ℕ) → balance_of s i + spent s.tariff i s.passed
      ≡ balance_of opening i + gained i s.passed + cond (eqb i s.tariff.account) (charges s.tariff.rate s.passed) 0

-- a ledger at its opening is so
balanced_opened : (s : LedgerState) → s.passed ≡ [] → s.tariff.account < length s.balances → Balanced s s
unfolding spent gained charges sum
balanced_opened s e o =
    record { same_tariff = refl; account_open = o; each = λ i. rw e (omega (arith, no_part (eqb i s.tariff.account))) }

-- and stays so with a record more
balanced_held : (opening s : LedgerState) (r : Record) → Covered s r r.kind → Balanced opening s → Balanced opening (held s r)
unfolding spent gained charges
balanced_held opening s r h b =
    record {
      same_tariff = b.same_tariff;
      account_open = rw (length_moved s.tariff s.balances r r.kind) b.account_open;
      each = λ i.
          let moved_by = moved_each s r r.kind b.account_open h i in
          rw (sum_snoc, sum_snoc, sum_snoc, two_parts) (omega (arith, b.each i));
    }

-- the claim of a ledger that is so, with the records that it holds
adds_up : (opening s : LedgerState) (records : List Record) → s.passed ≡ records → Balanced opening s → AccountsAddUp opening s records
adds_up opening s records e b =
    let t = opening.tariff in
    let each : (i : ℕ) → balance_of s i + spent t i records
    ≡ balance_of opening i + gained i records + cond (eqb i t.account) (charges t.rate records) 0 =
    rw (← e, ← b.same_tariff) b.each in
    record {
      charge_account = omega (arith, each t.account, its_part t.account t.account (charges t.rate records) refl);
      others = λ i n. omega (arith, each i, other_part i t.account (charges t.rate records) n);
    }

-- a record that passes on one ledger keeps either so
pair_held : (opening : LedgerState) (p : PairState) (r : Record) (l m : Ledger) → Covered (state_of m p) r r.kind
    → Balanced opening (state_of l p) → Balanced opening (state_of l (with_state m (held (state_of m p) r) p))
pair_held opening p r Home Home h b = balanced_held opening p.home r h b
pair_held opening p r Home Far h b = b
pair_held opening p r Far Home h b = b
pair_held opening p r Far Far h b = balanced_held opening p.far r h b

-- a ledger of the pair validator stays so
pair_balanced : (capacity : ℕ) (opening : LedgerState) (l : Ledger) (v : PairView) (b : List ℕ) (done : List (List ℕ))
    → pair_judge capacity v.pair (reading b) ≡ 0 → Balanced opening (state_of l v.pair)
    → Balanced opening (state_of l (after_bytes v.pair b))
unfolding after_bytes after
pair_balanced capacity opening l v b done j t =
    let x = pair_read capacity v.pair (reading b) j in
    let r = x.0 in
    let m = ledger_of r.kind in
    let h = judge_none v.pair r r.kind refl x.2 in
    rw x.1
    (pair_held opening v.pair r l m (pair_covered (state_of m v.pair) (state_of (counterpart m) v.pair) r r.kind h) t)

-- the accounts of the pair validator
pub pair_accounts_add_up : PairAccountsAddUp
unfolding PairAccountsAddUp Conserved
pair_accounts_add_up capacity tariff homes fars h ds l =
    let c = pair_validator capacity in
    let v₀ = pair_opened tariff homes fars in
    let start = state_of l (opened tariff homes fars) in
    let o = allowed_open _ _ ((accepts_facts capacity v₀ (pair_opened_accepted capacity tariff homes fars h)).ledgers l).tariff_allowed in
    let none : start.passed ≡ [] = elim l as (λ k. (state_of k (opened tariff homes fars)).passed ≡ []) [ Home ↦ refl | Far ↦ refl ] in
    let first = balanced_opened start none o in
    adds_up start _ _ ((conserved capacity tariff homes fars h ds).tables l)
    (keep_run c (λ v done. Balanced start (state_of l v.pair)) (pair_balanced capacity start l) ds v₀ [] first)

-- the ledger of the home validator stays so
home_balanced : (capacity : ℕ) (opening : LedgerState) (v : HomeView) (b : List ℕ) (done : List (List ℕ))
    → home_judge capacity v (reading b) ≡ 0 → Balanced opening v.home → Balanced opening (home_after v (reading b)).home
home_balanced capacity opening v b done j t =
    let x = home_read capacity v (reading b) j in
    let r = x.0 in
    rw x.1 (balanced_held opening v.home r (home_covered v r r.kind (home_judge_none v r r.kind refl x.2)) t)

-- the accounts of the home validator
pub home_accounts_add_up : HomeAccountsAddUp
unfolding HomeAccountsAddUp WithinPool
home_accounts_add_up capacity tariff homes far_accounts far_total h ds =
    let c = home_validator capacity in
    let v₀ = home_opened tariff homes far_accounts far_total in
    let start = new_ledger tariff homes in
    let first = balanced_opened start refl (allowed_open _ _ (opening_none _ _ _ _ h).tariff_allowed) in
    adds_up start _ _ (within_pool capacity tariff homes far_accounts far_total h ds).table
    (keep_run c (λ v done. Balanced start v.home) (home_balanced capacity start) ds v₀ [] first)
