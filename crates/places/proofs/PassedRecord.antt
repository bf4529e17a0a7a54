-- A passed record in the balances: what changes, and what stays. Assumes nothing.
use Rattle.wire.proofs.Prelude.{Bool, List, List·getD-eq-default, ◌+◌, ◌-◌, ◌<◌, ◌∙◌, ◌∷◌, ◌≡◌, ◌≤◌, ◌⊎◌, add-zero, ap, arith, cond, drop}
use Rattle.wire.proofs.Prelude.{drop-cons}
use Rattle.wire.proofs.Prelude.{drop-set-add, eqb, eqb-false, eqb-true, false, get_or, get_or-drop, get_or-set_other, get_or-set_same, get_or-take}
use Rattle.wire.proofs.Prelude.{length, length-set, length-take, ltb, ltb-false, ltb-true, refl, set, set-get_or, suc, sym, take, take-set-lt}
use Rattle.wire.proofs.Prelude.{true, zero, zero-add, ℕ, ⊎_elim}
use Rattle.ledgers.specs.Ledgers.{counterpart, ledger_byte}
use Rattle.places.proofs.OverPlaces.{all_ext, list_ext}
use Rattle.places.specs.Amounts.{credit_by, debit_by, payee_by}
use Rattle.places.specs.LedgerBalances.{balance_at, moved_at, placed, placed_tariff, zeros_at}
use Rattle.places.specs.OverPlaces.{list_at}
use Rattle.rules.specs.Lists.{lowered, raised}
use Rattle.rules.specs.Rules.{Far, Home, Kind, Ledger, Local, Receiving, Record, Sending, Tariff, moved}
use Rattle.tariffs.proofs.Charges.{charge_most}
use Rattle.tariffs.specs.Tariffs.{charge, cost, parts}

-- the bytes of a ledger and of the other one
pub ledger_other : (l : Ledger) → ledger_byte l + ledger_byte (counterpart l) ≡ 1
ledger_other Home = refl
ledger_other Far = refl

-- part of a list, place by place
part_list : (xs : List ℕ) (from n : ℕ) → from + n ≤ length xs → take n (drop from xs) ≡ list_at (λ (i : ℕ). get_or xs i 0) from n
unfolding list_at
part_list xs from zero h = refl
part_list xs from (suc n) h =
    let z : from < length xs = omega arith in
    rw (drop-cons xs from 0 z) (ap (λ (t : List ℕ). get_or xs from 0 ∷ t) (part_list xs (suc from) n (omega arith)))

-- new balances beside old ones: the part of n accounts from a place on is given, and nothing else changed
pub record Part (old new : List ℕ) (from n : ℕ) (part : List ℕ) : Type 0 where
  pub own : take n (drop from new) ≡ part
  pub others : (i : ℕ) → (i < from) ⊎ (from + n ≤ i) → get_or new i 0 ≡ get_or old i 0
  pub long : length new ≡ length old

-- one balance stored
part_set : (b : List ℕ) (from n i v : ℕ) → i < n → Part b (set b (from + i) v) from n (set (take n (drop from b)) i v)
part_set b from n i v h =
    record {
      own = rw (drop-set-add from b i v) (take-set-lt n (drop from b) i v h);
      others = λ j q. get_or-set_other b (from + i) j v 0 (λ e. ⊎_elim (λ (a : j < from). omega arith) (λ (a : from + n ≤ j). omega arith) q);
      long = length-set b (from + i) v;
    }

-- one change after another
part_then : (old mid new : List ℕ) (from n : ℕ) (p q : List ℕ) → Part old mid from n p → Part mid new from n q → Part old new from n q
part_then old mid new from n p q a b =
    record { own = b.own; others = λ i h. b.others i h ∙ a.others i h; long = b.long ∙ a.long }

-- a balance, seen from its part
part_at : (b : List ℕ) (from n i : ℕ) → i < n → get_or b (from + i) 0 ≡ get_or (take n (drop from b)) i 0
part_at b from n i h = sym (get_or-take n (drop from b) i 0 h ∙ get_or-drop from b i 0)

-- an amount taken
part_lowered : (b : List ℕ) (from n i x : ℕ) → i < n → Part b (lowered b (from + i) x) from n (lowered (take n (drop from b)) i x)
unfolding lowered
part_lowered b from n i x h = rw (← part_at b from n i h) (part_set b from n i (get_or b (from + i) 0 - x) h)

-- an amount given
part_raised : (b : List ℕ) (from n i x : ℕ) → i < n → Part b (raised b (from + i) x) from n (raised (take n (drop from b)) i x)
unfolding raised
part_raised b from n i x h = rw (← part_at b from n i h) (part_set b from n i (get_or b (from + i) 0 + x) h)

-- the accounts that a record of a kind changes, with the charge account, are among n
unfoldable pub Changes : ℕ → ℕ → Record → Kind → Type 0
Changes n account r (Local l) = (r.sender < n) × (r.receiver < n)
Changes n account r (Sending l) = (r.sender < n) × (account < n)
Changes n account r (Receiving l) = r.receiver < n

-- a passed record, seen from its ledger's part
pub part_moved : (t : Tariff) (b : List ℕ) (from n : ℕ) (r : Record) → Changes n t.account r r.kind
    → Part b (moved_at t b from r) from n (moved t (take n (drop from b)) r r.kind)
unfolding Changes moved_at
part_moved t b from n r h = go r.kind h
  where
    both : (i x j y : ℕ) → i < n → j < n
        → Part b (raised (lowered b (from + i) x) (from + j) y) from n (raised (lowered (take n (drop from b)) i x) j y)
    both i x j y p q =
        let a = part_lowered b from n i x p in
        part_then b (lowered b (from + i) x) _ from n _ _ a (rw (← a.own) (part_raised (lowered b (from + i) x) from n j y q))

    go : (k : Kind) → Changes n t.account r k
        → Part b (moved (placed_tariff from t) b (placed from r) k) from n (moved t (take n (drop from b)) r k)
    go (Local l) c = both r.sender r.amount r.receiver r.amount c.0 c.1
    go (Sending l) c =
        both r.sender (cost t.rate r.amount) t.account (charge t.rate r.amount) c.0 c.1
    go (Receiving l) c = part_raised b from n r.receiver r.amount c

-- nothing taken
lowered_none : (b : List ℕ) (i : ℕ) → lowered b i 0 ≡ b
unfolding lowered
lowered_none b i = ap (λ (v : ℕ). set b i v) (let q : get_or b i 0 - 0 ≡ get_or b i 0 = omega arith in q) ∙ set-get_or b i 0

-- what is taken and then given, of any kind, is what the record moves
pub taken_given : (t : Tariff) (b : List ℕ) (from : ℕ) (r : Record)
    → raised (lowered b (from + r.sender) (debit_by t.rate r.kind r.amount)) (from + payee_by t.account r.kind r.receiver)
    (credit_by t.rate r.kind r.amount)
    ≡ moved_at t b from r
unfolding moved_at
taken_given t b from r = go r.kind
  where
    go : (k : Kind)
        → raised (lowered b (from + r.sender) (debit_by t.rate k r.amount)) (from + payee_by t.account k r.receiver)
        (credit_by t.rate k r.amount)
        ≡ moved (placed_tariff from t) b (placed from r) k
    go (Local l) = rw add-zero
    go (Sending l) = rw zero-add
    go (Receiving l) =
        ap (λ (y : ℕ). raised (lowered b (from + r.sender) 0) (from + r.receiver) y) (add-zero r.amount)
        ∙ ap (λ (x : List ℕ). raised x (from + r.receiver) r.amount) (lowered_none b (from + r.sender))

-- balances of places that did not change
pub zeros_kept : (old new : List ℕ) (from n : ℕ) → ((i : ℕ) → from ≤ i → i < from + n → get_or new i 0 ≡ get_or old i 0)
    → zeros_at new from n ≡ zeros_at old from n
unfolding zeros_at
zeros_kept old new from n h =
    all_ext (λ (i : ℕ). eqb (get_or new i 0) 0) (λ (i : ℕ). eqb (get_or old i 0) 0) from n (λ i a b. ap (λ (x : ℕ). eqb x 0) (h i a b))

-- a part that did not change
pub part_kept : (old new : List ℕ) (from n : ℕ) → length new ≡ length old → from + n ≤ length old
    → ((i : ℕ) → from ≤ i → i < from + n → get_or new i 0 ≡ get_or old i 0) → take n (drop from new) ≡ take n (drop from old)
part_kept old new from n l h e =
    part_list new from n (rw l h)
    ∙ list_ext (λ (i : ℕ). get_or new i 0) (λ (i : ℕ). get_or old i 0) from n e
    ∙ sym (part_list old from n h)

-- a balance of an account, seen from its part
pub balance_part : (b : List ℕ) (from n i : ℕ) → balance_at b from n i ≡ get_or (take n (drop from b)) i 0
unfolding balance_at
balance_part b from n i = go (ltb i n) refl
  where
    go : (t : Bool) → ltb i n ≡ t → cond (ltb i n) (get_or b (from + i) 0) 0 ≡ get_or (take n (drop from b)) i 0
    go true q = rw q (part_at b from n i (ltb-true i n q))
    go false q =
        rw q (sym (List·getD-eq-default (take n (drop from b)) 0 (omega (arith, length-take n (drop from b), ltb-false i n q))))

-- what is given is at most the amount, where the rate is one
pub credit_most : (rate : ℕ) → rate ≤ parts → (k : Kind) (a : ℕ) → credit_by rate k a ≤ a
credit_most rate h (Local l) a = omega arith
credit_most rate h (Sending l) a = omega (arith, charge_most rate a h)
credit_most rate h (Receiving l) a = omega arith

-- what is taken is at most twice the amount
pub debit_most : (rate : ℕ) → rate ≤ parts → (k : Kind) (a : ℕ) → debit_by rate k a ≤ a + a
debit_most rate h (Local l) a = omega arith
debit_most rate h (Sending l) a = omega (arith, charge_most rate a h)
debit_most rate h (Receiving l) a = omega arith

-- a small balance stored among small ones
pub stored_fits : (b : List ℕ) (i j v most : ℕ) → i < length b → v ≤ most → get_or b j 0 ≤ most → get_or (set b i v) j 0 ≤ most
stored_fits b i j v most h p q = go (eqb j i) refl
  where
    go : (t : Bool) → eqb j i ≡ t → get_or (set b i v) j 0 ≤ most
    go true e = rw (eqb-true j i e, get_or-set_same b i v 0 h) p
    go false e = rw (get_or-set_other b i j v 0 (eqb-false j i e)) q
