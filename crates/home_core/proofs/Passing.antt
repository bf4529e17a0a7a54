-- A record that passes: what its stores need; the words then are, seen as the rules' state, the rules' next state, and are accepted
-- again. Assumes nothing.
use Rattle.wire.proofs.Prelude.{List, ◌*◌, ◌+◌, ◌-◌, ◌<◌, ◌^◌, ◌∙◌, ◌≡◌, ◌≤◌, ap, arith, get_or, get_or-set_other, get_or-set_same, inr, length}
use Rattle.wire.proofs.Prelude.{length-set, refl, set, sym, true, ℕ}
use Rattle.answers.proofs.Answers.{or_else_zero}
use Rattle.home_core.proofs.Accept.{HomeBounds, HomeSound, length_balances, length_held, sound_accepts, sound_of}
use Rattle.home_core.specs.Layout.{HomeReady, accepts_home, home_balances_word, far_accounts_of, far_accounts_word, home_count_of, home_count_word}
use Rattle.home_core.specs.Layout.{home_tariff_of, home_tariff_word, home_view_of, home_with}
use Rattle.home_core.specs.Layout.{home_supply_of, home_supply_word, home_accounts_of, home_accounts_word, pool_of, pool_word}
use Rattle.ledgers.specs.Limits.{account_limit, capacity, max_amount}
use Rattle.places.proofs.PassedRecord.{Changes, zeros_kept}
use Rattle.places.specs.Amounts.{credit_by, debit_by, given_by, payee_by, taken_by}
use Rattle.places.specs.LedgerBalances.{zeros_at}
use Rattle.places.specs.OverPlaces.{all_at}
use Rattle.records.proofs.Formed.{read_formed}
use Rattle.records.specs.Records.{formed, reading, record_in, words_of}
use Rattle.records.specs.declared.Words.{Words}
use Rattle.rules.proofs.HomeAccepted.{home_accepts_facts, home_step}
use Rattle.rules.proofs.Lists.{balance_total}
use Rattle.rules.proofs.Refusals.{HomePassable, home_judge_none, room_none}
use Rattle.rules.specs.HomeValidator.{home_accepts, home_after, home_judge, home_judge_record, pool_after}
use Rattle.rules.specs.Lists.{lowered, total}
use Rattle.rules.specs.Rules.{Far, Home, Kind, LedgerState, Local, Read, Receiving, Record, Sending}
use Rattle.table.proofs.Balances.{balance_fits, balance_in, given_fits}
use Rattle.table.proofs.Growing.{index_grown}
use Rattle.table.proofs.Storing.{LedgerStored, Stored, ledger_stored_of, stored_of}
use Rattle.table.specs.Table.{ledger_in, stored, with_number, words_at}
use Rattle.tariffs.proofs.Allowing.{allowed_open, allowed_rate}

-- ## Balances stay in 64 bits

module _ (s : List ℕ) (o : HomeSound s) where
  -- the balances and the pool are at most the greatest amount
  sums_fit : total (home_view_of s).home.balances + pool_of s ≤ max_amount
  sums_fit = omega (arith, (home_accepts_facts capacity (home_view_of s) o.accepted).sums, o.bounds.supply_fits)

  -- any balance is at most the greatest amount
  balance_most : (i : ℕ) → i < account_limit → get_or s (home_balances_word + i) 0 ≤ max_amount
  balance_most i h =
      balance_fits (home_tariff_of s) s home_balances_word (home_accounts_of s) 0 (home_count_of s) account_limit o.zeros max_amount
      (omega (arith, sums_fit)) i h

-- ## A pass

-- what a pass says of a record of a kind
pub record HomePasses (s : List ℕ) (r : Record) (k : Kind) : Type 0 where
  pub room : home_count_of s < capacity
  pub changes : Changes (home_accounts_of s) (home_tariff_of s).account r k
  pub sender : r.sender < account_limit
  pub payee : payee_by (home_tariff_of s).account k r.receiver < account_limit
  pub pays : debit_by (home_tariff_of s).rate k r.amount ≤ get_or s (home_balances_word + r.sender) 0
  pub pool_has : given_by k r.amount ≤ pool_of s + taken_by k r.amount
  pub pool_fits : pool_of s + taken_by k r.amount ≤ max_amount

module _ (s : List ℕ) (o : HomeSound s) (r : Record) (space : home_count_of s < capacity) where
  -- the rules count as many accounts
  own : length (home_view_of s).home.balances ≡ home_accounts_of s
  own = length_balances s o.long o.bounds.home_fits

  -- the sender's balance, as the rules have it, is within the total
  pays_by : r.sender < home_accounts_of s → (get_or s (home_balances_word + r.sender) 0 ≡ get_or (home_view_of s).home.balances r.sender 0)
      × (get_or (home_view_of s).home.balances r.sender 0 ≤ total (home_view_of s).home.balances)
  pays_by x = (
    balance_in (home_tariff_of s) s home_balances_word (home_accounts_of s) 0 (home_count_of s) r.sender x,
    balance_total (home_view_of s).home.balances r.sender,
  )

  -- from what the rules ask
  passes_by : (k : Kind) → HomePassable (home_view_of s) r k → HomePasses s r k
  unfolding HomePassable Changes ledger_in
  passes_by (Local Home) h =
      let x : r.sender < home_accounts_of s = rw own at h.0.sender_open in
      omega (arith, h.0.receiver_open, own, o.bounds.home_fits, h.1, pays_by x, sums_fit s o)
  passes_by (Sending Home) h =
      let x : r.sender < home_accounts_of s = rw own at h.0.sender_open in
      let y = allowed_open (home_tariff_of s) (home_accounts_of s) o.bounds.tariff_allowed in
      omega (arith, y, o.bounds.home_fits, h.1, pays_by x, sums_fit s o)
  passes_by (Receiving Home) h =
      omega (arith, h.0.sender_open, h.0.receiver_open, own, o.bounds.home_fits, o.bounds.far_fits, h.1, sums_fit s o)
  passes_by (Local Far) h = absurd h
  passes_by (Sending Far) h = absurd h
  passes_by (Receiving Far) h = absurd h

-- a record without a refusal passes
pub passes_of : (s : List ℕ) → HomeSound s → (r : Record) → home_judge capacity (home_view_of s) (Read r) ≡ 0
    → HomePasses s r r.kind
passes_of s o r j =
    let a = or_else_zero (home_judge_record (home_view_of s) r) _ j in
    let m = room_none capacity _ a.1 in
    passes_by s o r (rw (length_held s) at m) r.kind (home_judge_none (home_view_of s) r r.kind refl a.0)

-- what is given to an account stays in 64 bits
pub paid_fits : (s : List ℕ) → HomeSound s → (r : Record) → HomePasses s r r.kind → r.amount ≤ max_amount
    → get_or (lowered s (home_balances_word + r.sender) (debit_by (home_tariff_of s).rate r.kind r.amount))
    (home_balances_word + payee_by (home_tariff_of s).account r.kind r.receiver) 0
    + credit_by (home_tariff_of s).rate r.kind r.amount < 2 ^ 64
paid_fits s o r p m =
    given_fits (home_tariff_of s) s home_balances_word r (allowed_rate (home_tariff_of s) (home_accounts_of s) o.bounds.tariff_allowed)
    (omega (arith, o.long, p.sender)) (balance_most s o r.sender p.sender) (balance_most s o _ p.payee) m

-- what a record takes from the ledger enters the pool, and what it gives to it leaves the pool
pub pool_moved : (pool : ℕ) (r : Record) (k : Kind) → pool_after pool r k ≡ pool + taken_by k r.amount - given_by k r.amount
pool_moved pool r (Local l) = omega arith
pool_moved pool r (Sending l) = omega arith
pool_moved pool r (Receiving l) = omega arith

-- ## The words after it

-- words t are those after a pass: the ledger's by its store, the others by name
pub record HomeWritten (s t : List ℕ) (w : Words) (r : Record) : Type 0 where
  pub long : length t ≡ length s
  pub below : (i : ℕ) → i < home_supply_word → get_or t i 0 ≡ get_or (stored (home_tariff_of s) s home_balances_word (0 + 4 * home_count_of s) w r) i 0
  pub supply : home_supply_of t ≡ home_supply_of s
  pub pool : pool_of t ≡ pool_after (pool_of s) r r.kind
  pub homes : home_accounts_of t ≡ home_accounts_of s
  pub fars : far_accounts_of t ≡ far_accounts_of s
  pub count : home_count_of t ≡ home_count_of s + 1
  pub rate : (home_tariff_of t).rate ≡ (home_tariff_of s).rate
  pub account : (home_tariff_of t).account ≡ (home_tariff_of s).account

-- two words stored, seen elsewhere
set_two : (x : List ℕ) (j k a b i : ℕ) → (i ≡ j → ⊥) → (i ≡ k → ⊥) → get_or (set (set x j a) k b) i 0 ≡ get_or x i 0
set_two x j k a b i p q = get_or-set_other (set x j a) k i b 0 q ∙ get_or-set_other x j i a 0 p

module _ (s : List ℕ) (w : Words) (r : Record) (o : HomeSound s) (p : HomePasses s r r.kind) where
  -- the words after the store
  abbrev stored_words : List ℕ
  stored_words = stored (home_tariff_of s) s home_balances_word (4 * home_count_of s) w r

  -- the store
  is_stored : Stored (home_tariff_of s) s home_balances_word (home_accounts_of s) (4 * home_count_of s) w r
  is_stored =
      stored_of (home_tariff_of s) s home_balances_word (home_accounts_of s) (4 * home_count_of s) w r p.changes (omega (arith, p.room))
      (omega (arith, o.long, o.bounds.home_fits))

  -- a word above the balances that is neither the pool nor the count
  above : (i : ℕ) → home_supply_word ≤ i → (i ≡ pool_word → ⊥) → (i ≡ home_count_word → ⊥) → get_or (home_with s w r) i 0 ≡ get_or s i 0
  unfolding home_with
  above i h a b =
      set_two stored_words pool_word home_count_word (pool_after (pool_of s) r r.kind) (home_count_of s + 1) i a b
      ∙ is_stored.others i (inr (omega (arith, h, o.bounds.home_fits))) (inr (omega (arith, h, p.room)))

  -- what was written
  written : HomeWritten s (home_with s w r) w r
  unfolding home_with
  written =
      let x = pool_after (pool_of s) r r.kind in
      let z : 0 + 4 * home_count_of s ≡ 4 * home_count_of s = omega arith in
      record {
        long = length-set (set stored_words pool_word x) home_count_word (home_count_of s + 1) ∙ length-set stored_words pool_word x ∙ is_stored.long;
        below =
            λ i h.
            set_two stored_words pool_word home_count_word x (home_count_of s + 1) i (λ q. omega arith) (λ q. omega arith)
            ∙ ap (λ (a : ℕ). get_or (stored (home_tariff_of s) s home_balances_word a w r) i 0) (sym z);
        supply = above home_supply_word (omega arith) (λ q. omega arith) (λ q. omega arith);
        pool =
            get_or-set_other (set stored_words pool_word x) home_count_word pool_word (home_count_of s + 1) 0 (λ q. omega arith)
            ∙ get_or-set_same stored_words pool_word x 0 (omega (arith, is_stored.long, o.long));
        homes = above home_accounts_word (omega arith) (λ q. omega arith) (λ q. omega arith);
        fars = above far_accounts_word (omega arith) (λ q. omega arith) (λ q. omega arith);
        count = get_or-set_same (set stored_words pool_word x) home_count_word (home_count_of s + 1) 0
            (omega (arith, length-set stored_words pool_word x, is_stored.long, o.long));
        rate = above home_tariff_word (omega arith) (λ q. omega arith) (λ q. omega arith);
        account = above (home_tariff_word + 1) (omega arith) (λ q. omega arith) (λ q. omega arith);
      }

module _ (s t : List ℕ) (w : Words) (r : Record) (o : HomeSound s) (p : HomePasses s r r.kind) (c : HomeWritten s t w r)
    (e : record_in w ≡ r) where
  -- the ledger
  ledger_after : LedgerStored (home_tariff_of s) s t home_balances_word (home_accounts_of s) 0 (home_count_of s) home_supply_word w r
  ledger_after =
      ledger_stored_of (home_tariff_of s) s t home_balances_word (home_accounts_of s) 0 (home_count_of s) home_supply_word w r p.changes
      (omega (arith, p.room)) (omega (arith, o.bounds.home_fits)) (omega (arith, o.long)) c.long c.below

  -- the state, as the rules have it
  view_after : home_view_of t ≡ home_after (home_view_of s) (Read r)
  view_after =
      rw (c.supply, c.pool, c.homes, c.fars, c.count, c.rate, c.account)
      (ap
      (λ (l : LedgerState).
      record { home = l; far_accounts = far_accounts_of s; far_pool = pool_after (pool_of s) r r.kind; supply = home_supply_of s })
      (ledger_after.ledger e))

  -- the bounds
  bounds_after : HomeBounds t
  bounds_after =
      record {
        home_some = omega (arith, c.homes, o.bounds.home_some);
        home_fits = omega (arith, c.homes, o.bounds.home_fits);
        far_some = omega (arith, c.fars, o.bounds.far_some);
        far_fits = omega (arith, c.fars, o.bounds.far_fits);
        room = omega (arith, c.count, p.room);
        supply_fits = omega (arith, c.supply, o.bounds.supply_fits);
        tariff_allowed = rw (c.rate, c.account, c.homes) o.bounds.tariff_allowed;
      }

  -- balances beyond the accounts stay zero
  zeros_after : zeros_at t (home_balances_word + home_accounts_of t) (account_limit - home_accounts_of t) ≡ true
  zeros_after =
      rw c.homes
      (zeros_kept s t (home_balances_word + home_accounts_of s) (account_limit - home_accounts_of s)
      (λ i a b. ledger_after.others i (omega (arith, b, o.bounds.home_fits)) (inr a) (inr (omega (arith, a, p.room))))
      ∙ o.zeros)

  -- all held records read
  reads_after : formed w ≡ true → all_at (λ (i : ℕ). formed (words_at t 0 i)) 0 (home_count_of t) ≡ true
  reads_after f = rw c.count (ledger_after.reads f o.reads)

  -- accepted again
  accepted_after : formed w ≡ true → home_accepts capacity (home_after (home_view_of s) (Read r)) ≡ true → accepts_home t ≡ true
  accepted_after f h =
      sound_accepts t
      (record {
        long = c.long ∙ o.long;
        bounds = bounds_after;
        zeros = zeros_after;
        reads = reads_after f;
        accepted = rw view_after h;
      })

  -- with the index of one number more
  ready_after : (index : List ℕ) → HomeReady s index → formed w ≡ true
      → home_accepts capacity (home_after (home_view_of s) (Read r)) ≡ true → HomeReady t (with_number index 0 (home_count_of s) r.number)
  unfolding record_in
  ready_after index d f h =
      let q : r.number ≡ w.number = ap (λ (x : Record). x.number) (sym e) in
      record {
        accepted = accepted_after f h;
        index_long = simp length-set d.index_long;
        indexed =
            rw c.count
            (index_grown s t 0 index 0 (home_count_of s) r.number d.indexed (omega (arith, d.index_long, p.room))
            ledger_after.numbers (q ∙ ledger_after.number));
      }

-- the words after a pass: accepted, seen as the rules' next state, and with the index kept
pub record HomeNext (s : List ℕ) (w : Words) (r : Record) : Type 0 where
  pub accepted : accepts_home (home_with s w r) ≡ true
  pub view : home_view_of (home_with s w r) ≡ home_after (home_view_of s) (Read r)
  pub ready : (index : List ℕ) → HomeReady s index → HomeReady (home_with s w r) (with_number index 0 (home_count_of s) r.number)

-- bytes that pass
pub next_of : (s : List ℕ) → accepts_home s ≡ true → (b : List ℕ) (r : Record) → reading b ≡ Read r
    → home_judge capacity (home_view_of s) (Read r) ≡ 0 → HomeNext s (words_of b) r
next_of s h b r q j =
    let w = words_of b in
    let f = read_formed b r q in
    let o = sound_of s h in
    let p = passes_of s o r j in
    let c = written s w r o p in
    let k : home_judge capacity (home_view_of s) (reading b) ≡ 0 = rw q j in
    let a : home_accepts capacity (home_after (home_view_of s) (Read r)) ≡ true =
    rw q at (home_step capacity (home_view_of s) b o.accepted k) in
    record {
      accepted = accepted_after s (home_with s w r) w r o p c f.2 f.1 a;
      view = view_after s (home_with s w r) w r o p c f.2;
      ready = λ index d. ready_after s (home_with s w r) w r o p c f.2 index d f.1 a;
    }
