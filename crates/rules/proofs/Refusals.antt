-- What it takes to have no refusal: the facts behind `judge .. ≡ 0`, both ways. Assumes nothing.
use Rattle.wire.proofs.Prelude.{Iff·rfl, List, ◌<◌, ◌↔◌, ◌≡◌, ◌≤◌, arith, false, get_or, le-leb, le-ltb, leb-false, length, lit<, lt-leb}
use Rattle.wire.proofs.Prelude.{ltb-false, not-false, refl, subst, sym, true, ℕ}
use Rattle.rules.proofs.Lists.{never_both_tests}
use Rattle.answers.proofs.Answers.{or_else_zero, refuse_later, refuse_zero}
use Rattle.answers.specs.Answers.{or_else}
use Rattle.ledgers.specs.Ledgers.{counterpart, ledger_of, receiver_ledger, sender_ledger}
use Rattle.rules.specs.HomeValidator.{HomeView, home_accounts, home_judge, home_judge_record, home_last_refusal, is_far, pool_refusal}
use Rattle.rules.specs.Lists.{any}
use Rattle.rules.specs.PairValidator.{pair_judge, room_refusal}
use Rattle.rules.specs.Rules.{Far, Home, Kind, Ledger, Local, Read, Reading, Receiving, Record, Sending, Unreadable, judge_reading}
use Rattle.rules.specs.Rules.{LedgerState, PairState, accounts_of, clashes, debit, first_refusal, funds_refusal, matches, state_of}
use Rattle.rules.specs.Rules.{judge, last_refusal, match_refusal}

-- ## 22, 51, 23 and 24

-- what they leave of a record, with the accounts of the sender's and the receiver's ledger and the records passed on its own
pub record Allowed (senders receivers : ℕ) (passed : List Record) (r : Record) : Type 0 where
  pub sender_open : r.sender < senders
  pub receiver_open : r.receiver < receivers
  pub signed : r.verified ≡ true
  pub fresh : any (clashes r) passed ≡ false

-- without a refusal the record is allowed, and the later refusals are none
pub first_none : (accounts : Ledger → ℕ) (passed : List Record) (r : Record) (later : ℕ) → first_refusal accounts passed r later ≡ 0
    → Allowed (accounts (sender_ledger r.kind)) (accounts (receiver_ledger r.kind)) passed r × (later ≡ 0)
unfolding first_refusal
first_none accounts passed r later h =
    let s = refuse_zero _ _ _ (lit< tt) h in
    let t = refuse_zero _ _ _ (lit< tt) s.1 in
    let u = refuse_zero _ _ _ (lit< tt) t.1 in
    let v = refuse_zero _ _ later (lit< tt) u.1 in (
      record { sender_open = leb-false _ _ s.0; receiver_open = leb-false _ _ t.0; signed = not-false _ u.0; fresh = v.0 },
      v.1,
    )

-- and back
pub none_first : (accounts : Ledger → ℕ) (passed : List Record) (r : Record) (later : ℕ)
    → Allowed (accounts (sender_ledger r.kind)) (accounts (receiver_ledger r.kind)) passed r → later ≡ 0
    → first_refusal accounts passed r later ≡ 0
unfolding first_refusal
none_first accounts passed r later a h = simp (lt-leb _ _ a.sender_open, lt-leb _ _ a.receiver_open, a.signed, a.fresh, h)

-- a refusal after 22, 51, 23, 24 and the later ones
pub first_else : (accounts : Ledger → ℕ) (passed : List Record) (r : Record) (later x : ℕ)
    → or_else (first_refusal accounts passed r later) x ≡ first_refusal accounts passed r (or_else later x)
unfolding first_refusal
first_else accounts passed r later x = rw (refuse_later, refuse_later, refuse_later, refuse_later)

-- ## 25, 31, 32 and 41

-- the sender has what is taken
funds : (s : LedgerState) (r : Record) (k : Kind)
    → (funds_refusal s r k ≡ 0) ↔ (debit s.tariff r k ≤ get_or s.balances r.sender 0)
unfolding funds_refusal
funds s r k = (λ h. ltb-false _ _ (refuse_zero _ 25 0 (lit< tt) h).0, λ h. simp (le-ltb _ _ h))

-- there is room
pub room_none : (capacity : ℕ) (passed : List Record) → room_refusal capacity passed ≡ 0 → length passed < capacity
unfolding room_refusal
room_none capacity passed h = leb-false _ _ (refuse_zero _ 41 0 (lit< tt) h).0

-- and back
pub none_room : (capacity : ℕ) (passed : List Record) → length passed < capacity → room_refusal capacity passed ≡ 0
unfolding room_refusal
none_room capacity passed h = simp (lt-leb _ _ h)

-- there is none
pub full_room : (capacity : ℕ) (passed : List Record) → capacity ≤ length passed → room_refusal capacity passed ≡ 41
unfolding room_refusal
full_room capacity passed h = simp (le-leb _ _ h)

-- ## A record on its own ledger, beside the other one

-- what the rules ask of a record of a kind
unfoldable pub Passable : LedgerState → LedgerState → Record → Kind → Type 0
Passable own other r (Local l) =
    Allowed (length own.balances) (length own.balances) own.passed r
    × (debit own.tariff r (Local l) ≤ get_or own.balances r.sender 0)
Passable own other r (Sending l) =
    Allowed (length own.balances) (length other.balances) own.passed r
    × (debit own.tariff r (Sending l) ≤ get_or own.balances r.sender 0)
Passable own other r (Receiving l) =
    Allowed (length other.balances) (length own.balances) own.passed r × (any (matches r) other.passed ≡ true)

module _ (p : PairState) (r : Record) where
  -- what the refusals say of a kind
  Judged : Kind → Type 0
  Judged k =
      Allowed (accounts_of p (sender_ledger k)) (accounts_of p (receiver_ledger k)) (state_of (ledger_of k) p).passed r
      × (last_refusal p r k ≡ 0)

  -- it is what the rules ask
  judged : (k : Kind) → Judged k ↔ Passable (state_of (ledger_of k) p) (state_of (counterpart (ledger_of k)) p) r k
  unfolding Passable Judged match_refusal
  judged (Local l) = simp funds Iff·rfl
  judged (Sending l) = simp funds Iff·rfl
  judged (Receiving l) = (λ a. (a.0, not-false _ (refuse_zero _ 31 0 (lit< tt) a.1).0), λ a. (a.0, simp a.1))

  -- what the rules pass is passable
  pub judge_none : (k : Kind) → r.kind ≡ k → judge p r ≡ 0
      → Passable (state_of (ledger_of k) p) (state_of (counterpart (ledger_of k)) p) r k
  unfolding judge Judged
  judge_none k q h = (judged k).0 (subst Judged q (first_none _ _ r _ h))

  -- and back
  pub none_judge : (k : Kind) → r.kind ≡ k → Passable (state_of (ledger_of k) p) (state_of (counterpart (ledger_of k)) p) r k
      → judge p r ≡ 0
  unfolding judge Judged
  none_judge k q h = let a = subst Judged (sym q) ((judged k).1 h) in none_first _ _ r _ a.0 a.1

-- ## The home validator

-- what it asks of a record of a kind
unfoldable pub HomePassable : HomeView → Record → Kind → Type 0
HomePassable v r (Local Home) =
    Allowed (length v.home.balances) (length v.home.balances) v.home.passed r
    × (debit v.home.tariff r (Local Home) ≤ get_or v.home.balances r.sender 0)
HomePassable v r (Sending Home) =
    Allowed (length v.home.balances) v.far_accounts v.home.passed r
    × (debit v.home.tariff r (Sending Home) ≤ get_or v.home.balances r.sender 0)
HomePassable v r (Receiving Home) = Allowed v.far_accounts (length v.home.balances) v.home.passed r × (r.amount ≤ v.far_pool)
HomePassable v r (Local Far) = ⊥
HomePassable v r (Sending Far) = ⊥
HomePassable v r (Receiving Far) = ⊥

module _ (v : HomeView) (r : Record) where
  -- what the refusals say of a kind
  HomeJudged : Kind → Type 0
  HomeJudged k =
      (is_far (ledger_of k) ≡ false)
      × Allowed (home_accounts v (sender_ledger k)) (home_accounts v (receiver_ledger k)) v.home.passed r × (home_last_refusal v r k ≡ 0)

  -- it is what it asks
  home_judged : (k : Kind) → HomeJudged k ↔ HomePassable v r k
  unfolding HomePassable HomeJudged pool_refusal
  home_judged (Local Home) = (λ a. (a.1, (funds _ r _).0 a.2), λ a. (refl, a.0, (funds _ r _).1 a.1))
  home_judged (Sending Home) = (λ a. (a.1, (funds _ r _).0 a.2), λ a. (refl, a.0, (funds _ r _).1 a.1))
  home_judged (Receiving Home) =
      (λ a. (a.1, ltb-false _ _ (refuse_zero _ 32 0 (lit< tt) a.2).0), λ a. (refl, a.0, simp (le-ltb _ _ a.1)))
  home_judged (Local Far) = (λ a. never_both_tests a.0, absurd)
  home_judged (Sending Far) = (λ a. never_both_tests a.0, absurd)
  home_judged (Receiving Far) = (λ a. never_both_tests a.0, absurd)

  -- what the home validator passes is passable
  pub home_judge_none : (k : Kind) → r.kind ≡ k → home_judge_record v r ≡ 0 → HomePassable v r k
  unfolding home_judge_record HomeJudged
  home_judge_none k q h =
      let a = refuse_zero _ 33 _ (lit< tt) h in
      let b = first_none _ _ r _ a.1 in
      (home_judged k).0 (subst HomeJudged q (a.0, b.0, b.1))

  -- and back
  pub none_home_judge : (k : Kind) → r.kind ≡ k → HomePassable v r k → home_judge_record v r ≡ 0
  unfolding home_judge_record HomeJudged
  none_home_judge k q h =
      let a = subst HomeJudged (sym q) ((home_judged k).1 h) in
      simp a.0 (none_first _ _ r _ a.1 a.2)

-- the ledger of a home record
pub is_home : (l : Ledger) → is_far l ≡ false → l ≡ Home
is_home Home e = refl
is_home Far e = cc

-- ## Bytes

-- what the pair validator passes reads as a record that the rules pass, and there is room for it
pub pair_read : (capacity : ℕ) (p : PairState) (x : Reading) → pair_judge capacity p x ≡ 0
    → (r : Record) × (x ≡ Read r) × (judge p r ≡ 0) × (length (state_of (ledger_of r.kind) p).passed < capacity)
pair_read capacity p Unreadable h = absurd (omega arith)
pair_read capacity p (Read r) h = let o = or_else_zero (judge p r) _ h in (r, refl, o.0, room_none capacity _ o.1)

-- what the home validator passes likewise
pub home_read : (capacity : ℕ) (v : HomeView) (x : Reading) → home_judge capacity v x ≡ 0
    → (r : Record) × (x ≡ Read r) × (home_judge_record v r ≡ 0) × (length v.home.passed < capacity)
home_read capacity v Unreadable h = absurd (omega arith)
home_read capacity v (Read r) h = let o = or_else_zero (home_judge_record v r) _ h in (r, refl, o.0, room_none capacity _ o.1)

-- what the rules pass reads as a record that they pass
pub rules_read : (p : PairState) (x : Reading) → judge_reading p x ≡ 0 → (r : Record) × (x ≡ Read r) × (judge p r ≡ 0)
rules_read p Unreadable h = absurd (omega arith)
rules_read p (Read r) h = (r, refl, h)
