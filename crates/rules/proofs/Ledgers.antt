-- A passed record on one ledger, seen from it and from the other one. Assumes nothing.
use Rattle.wire.proofs.Prelude.{List, [], ◌++◌, ◌+◌, ◌<◌, ◌∷◌, ◌≡◌, ◌≤◌, ap, arith, false, fun_ext, length, or_assoc, or-true, refl}
use Rattle.wire.proofs.Prelude.{true, ℕ}
use Rattle.ledgers.specs.Ledgers.{counterpart}
use Rattle.ledgers.specs.Limits.{max_amount}
use Rattle.records.proofs.Formed.{formed_facts, read_formed}
use Rattle.records.specs.Records.{reading, record_in, words_of}
use Rattle.rules.proofs.Clashes.{Distinct, distinct_snoc}
use Rattle.rules.proofs.InFlight.{flight_sums, received_snoc, sent_snoc}
use Rattle.rules.proofs.Lists.{all_snoc, all_weaken, any_snoc, length_lowered, length_moved, total_lowered, total_raised}
use Rattle.rules.proofs.Refusals.{Passable}
use Rattle.rules.specs.HomeValidator.{received, sent}
use Rattle.rules.specs.Lists.{all, any, lowered, total}
use Rattle.rules.specs.PairValidator.{matched}
use Rattle.rules.specs.Rules.{Far, Home, Kind, Ledger, LedgerState, Local, PairState, Read, Receiving, Record, Sending, state_of}
use Rattle.rules.specs.Rules.{accounts_of, clashes, credit, debit, flight, held, matches, moved, with_state}
use Rattle.tariffs.specs.Tariffs.{charge}
use Rattle.wire.specs.BigEndian.{field}

-- ## One of two ledgers

-- the other of the other
pub counterpart_twice : (l : Ledger) → counterpart (counterpart l) ≡ l
counterpart_twice Home = refl
counterpart_twice Far = refl

-- ## The record's ledger

-- a passed record leaves the numbers of accounts, whichever ledger it stands on
pub accounts_with : (m : Ledger) (r : Record) (p : PairState) → accounts_of (with_state m (held (state_of m p) r) p) ≡ accounts_of p
accounts_with Home r p = fun_ext (elim [ Home ↦ length_moved p.home.tariff p.home.balances r r.kind | Far ↦ refl ])
accounts_with Far r p = fun_ext (elim [ Home ↦ refl | Far ↦ length_moved p.far.tariff p.far.balances r r.kind ])

module _ (own other : LedgerState) (r : Record) where
  -- a passable record clashes with none, and where it is an arrival it has its sending
  passable_clean : (k : Kind) → r.kind ≡ k → Passable own other r k
      → (any (clashes r) own.passed ≡ false) × (matched other.passed r ≡ true)
  unfolding Passable matched
  passable_clean (Local l) q h = (h.0.fresh, simp q)
  passable_clean (Sending l) q h = (h.0.fresh, simp q)
  passable_clean (Receiving l) q h = (h.0.fresh, rw (h.1, or-true))

  -- what it does to balances, sent and received on its ledger
  pub own_sums : (k : Kind) → own.tariff.account < length own.balances → r.kind ≡ k → Passable own other r k
      → total (moved own.tariff own.balances r k) + sent (own.passed ++ r ∷ []) + received own.passed
      ≡ total own.balances + sent own.passed + received (own.passed ++ r ∷ [])
  unfolding Passable
  own_sums (Local l) o q h =
      let s = sent_snoc own.passed r q in
      let t = received_snoc own.passed r q in
      let u = total_lowered own.balances r.sender r.amount h.0.sender_open h.1 in
      let left = lowered own.balances r.sender r.amount in
      omega (arith, total_raised left r.receiver (credit r) (rw length_lowered h.0.receiver_open))
  own_sums (Sending l) o q h =
      let s = sent_snoc own.passed r q in
      let t = received_snoc own.passed r q in
      let whole = debit own.tariff r (Sending l) in
      let u = total_lowered own.balances r.sender whole h.0.sender_open h.1 in
      let left = lowered own.balances r.sender whole in
      omega (arith, total_raised left own.tariff.account (charge own.tariff.rate r.amount) (rw length_lowered o))
  own_sums (Receiving l) o q h =
      let s = sent_snoc own.passed r q in
      let t = received_snoc own.passed r q in
      omega (arith, total_raised own.balances r.receiver (credit r) h.0.receiver_open)

-- ## What the passed records of both ledgers keep

-- the numbers of a ledger are distinct, and its arrivals have their sendings on the other one
pub record Clean (own other : LedgerState) : Type 0 where
  pub distinct : Distinct own.passed
  pub receivings : all (matched other.passed) own.passed ≡ true

-- a record more on the ledger
pub clean_own : (own other : LedgerState) (r : Record) → Passable own other r r.kind → Clean own other → Clean (held own r) other
clean_own own other r h c =
    let u = passable_clean own other r r.kind refl h in
    record {
      distinct = distinct_snoc own.passed r c.distinct u.0;
      receivings = all_snoc _ own.passed r c.receivings u.1;
    }

-- a record more on the other ledger
pub clean_other : (own other : LedgerState) (r : Record) → Clean own other → Clean own (held other r)
unfolding matched
clean_other own other r c =
    record {
      distinct = c.distinct;
      receivings = all_weaken (matched other.passed) (matched (other.passed ++ r ∷ []))
          (λ x h. rw (any_snoc (matches x) other.passed r, ← or_assoc, h)) own.passed c.receivings;
    }

-- what is in flight from a ledger, and what the other one received, are what it sent
pub crossing : (own other : LedgerState) → Clean own other → Clean other own
    → flight own.passed other.passed + received other.passed ≡ sent own.passed
crossing own other c d = flight_sums own.passed other.passed c.distinct d.distinct d.receivings

-- ## Reading

-- the amount of a record that was read
pub read_amount : (b : List ℕ) (r : Record) → reading b ≡ Read r → (0 < r.amount) × (r.amount ≤ max_amount)
unfolding record_in
read_amount b r h =
    let f = read_formed b r h in
    let g = formed_facts (words_of b) f.1 in
    let e : field 16 8 b ≡ r.amount = ap (λ (x : Record). x.amount) f.2 in
    (omega (arith, e, g.amount_some), omega (arith, e, g.amount_most))
