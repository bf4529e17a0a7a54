-- A record that passes: what its stores need; the words then are, seen as the rules' state, the rules' next state, and are accepted
-- again. Assumes nothing.
use Rattle.wire.proofs.Prelude.{List, ◌*◌, ◌+◌, ◌-◌, ◌<◌, ◌^◌, ◌∙◌, ◌≡◌, ◌≤◌, ◌⊎◌, ap, arith, get_or, get_or-set_other, get_or-set_same, inl, inr}
use Rattle.wire.proofs.Prelude.{leb-true, length, length-set, refl, sym, true, ℕ, ⊎_elim}
use Rattle.answers.proofs.Answers.{or_else_zero}
use Rattle.ledgers.specs.Ledgers.{counterpart, ledger_byte, ledger_of}
use Rattle.ledgers.specs.Limits.{account_limit, capacity, max_amount}
use Rattle.pair_core.proofs.Accept.{PairSound, sound_accepts, sound_of}
use Rattle.pair_core.proofs.Ledgers.{PairBounds, accounts_fit, balances_within, by_byte, byte_below, length_balances, length_held}
use Rattle.pair_core.proofs.Ledgers.{state_on, tariff_fits_lem}
use Rattle.pair_core.specs.Layout.{PairReady, accepts_pair, accounts_on, accounts_word, balances_start, count_on, formed_on, pair_count_word}
use Rattle.pair_core.specs.Layout.{pair_tariff_of, pair_tariff_word, tariff_on}
use Rattle.pair_core.specs.Layout.{index_on, ledger_on, pair_supply_of, pair_supply_word, pair_view_of, pair_with, records_start, zero_beyond}
use Rattle.places.proofs.PassedRecord.{Changes, ledger_other, zeros_kept}
use Rattle.places.specs.Amounts.{credit_by, debit_by, payee_by}
use Rattle.places.specs.NumberIndex.{chain_count}
use Rattle.records.proofs.Formed.{read_formed}
use Rattle.records.specs.Records.{formed, reading, record_in, words_of}
use Rattle.records.specs.declared.Words.{Words}
use Rattle.rules.proofs.PairAccepted.{accepts_facts, pair_step}
use Rattle.rules.proofs.Refusals.{Passable, judge_none, room_none}
use Rattle.rules.specs.Lists.{lowered, total}
use Rattle.rules.specs.PairValidator.{pair_accepts, pair_judge, supply_allowed}
use Rattle.rules.specs.Rules.{Far, Home, Kind, Ledger, Local, Read, Receiving, Record, Sending, after, after_bytes, held, judge}
use Rattle.table.proofs.Balances.{balance_fits, balance_in, given_fits}
use Rattle.table.proofs.Growing.{grown_kept, index_beside, index_grown}
use Rattle.table.proofs.Storing.{SameWords, LedgerStored, Stored, formed_same, ledger_same, ledger_stored_of, number_same, stored_of}
use Rattle.table.specs.Table.{IndexOf, ledger_in, stored, with_number}
use Rattle.tariffs.proofs.Allowing.{allowed_open, allowed_rate}

-- ## A ledger and the other one

-- what holds of a ledger's byte and of the other's holds of each
either : (P : ℕ → Type 0) (L : Ledger) → P (ledger_byte L) → P (ledger_byte (counterpart L)) → (l : ℕ) → l < 2 → P l
either P Home a b = by_byte P a b
either P Far a b = by_byte P b a

-- of two parts of one size, a place in the other one's is outside the ledger's own
beside : (L : Ledger) (from size n i : ℕ) → n ≤ size → from + ledger_byte (counterpart L) * size ≤ i
    → i < from + ledger_byte (counterpart L) * size + size
    → (i < from + ledger_byte L * size) ⊎ (from + ledger_byte L * size + n ≤ i)
beside Home from size n i h a b = inr (omega arith)
beside Far from size n i h a b = inl (omega arith)

-- so are their indexes
index_apart : (L : Ledger) (n : ℕ) → n ≤ capacity
    → (index_on (ledger_byte (counterpart L)) + chain_count + n ≤ index_on (ledger_byte L))
    ⊎ (index_on (ledger_byte L) + chain_count + capacity ≤ index_on (ledger_byte (counterpart L)))
index_apart Home n h = inr (omega arith)
index_apart Far n h = inl (omega arith)

-- ## A pass

-- what a pass says of a record of a kind on the ledger with byte l
pub record PairPasses (s : List ℕ) (r : Record) (k : Kind) (l : ℕ) : Type 0 where
  pub room : count_on s l < capacity
  pub changes : Changes (accounts_on s l) (tariff_on s l).account r k
  pub sender : r.sender < account_limit
  pub payee : payee_by (tariff_on s l).account k r.receiver < account_limit
  pub pays : debit_by (tariff_on s l).rate k r.amount ≤ get_or s (balances_start l + r.sender) 0

module _ (s : List ℕ) (d : PairSound s) where
  -- the balances of both ledgers are at most the greatest amount
  totals_fit : total (ledger_on s 0).balances + total (ledger_on s 1).balances ≤ max_amount
  unfolding supply_allowed
  totals_fit =
      omega (
        arith,
        (accepts_facts capacity (pair_view_of s) d.accepted).sums,
        leb-true (pair_supply_of s) max_amount d.bounds.supply_fits,
      )

  -- any balance is
  balance_most : (l : ℕ) → l < 2 → (i : ℕ) → i < account_limit → get_or s (balances_start l + i) 0 ≤ max_amount
  unfolding zero_beyond
  balance_most l h i p =
      balance_fits (tariff_on s l) s (balances_start l) (accounts_on s l) (records_start l) (count_on s l) account_limit (d.zeros l h) max_amount
      (by_byte (λ (m : ℕ). total (ledger_on s m).balances ≤ max_amount) (omega (arith, totals_fit)) (omega (arith, totals_fit)) l h) i p

  -- what is given to an account stays in 64 bits
  pub paid_fits : (r : Record) (l : ℕ) → l < 2 → PairPasses s r r.kind l → r.amount ≤ max_amount
      → get_or (lowered s (balances_start l + r.sender) (debit_by (tariff_on s l).rate r.kind r.amount))
      (balances_start l + payee_by (tariff_on s l).account r.kind r.receiver) 0
      + credit_by (tariff_on s l).rate r.kind r.amount < 2 ^ 64
  paid_fits r l h p m =
      given_fits (tariff_on s l) s (balances_start l) r (allowed_rate _ _ (tariff_fits_lem s d.bounds l h)) (omega (arith, d.long, p.sender))
      (balance_most l h r.sender p.sender) (balance_most l h _ p.payee) m

module _ (s : List ℕ) (d : PairSound s) (r : Record) (l o : ℕ) (hl : l < 2) (ho : o < 2) (space : count_on s l < capacity) where
  -- the rules count as many accounts
  own : length (ledger_on s l).balances ≡ accounts_on s l
  own = length_balances s d.long d.bounds l hl

  -- of the other ledger too
  other : length (ledger_on s o).balances ≡ accounts_on s o
  other = length_balances s d.long d.bounds o ho

  -- no more than a ledger can have
  fits : (m : ℕ) → m < 2 → accounts_on s m ≤ account_limit
  fits m h = (accounts_fit s d.bounds m h).1

  -- the sender's balance, as the rules have it
  pays_by : r.sender < accounts_on s l → get_or s (balances_start l + r.sender) 0 ≡ get_or (ledger_on s l).balances r.sender 0
  pays_by x = balance_in (tariff_on s l) s (balances_start l) (accounts_on s l) (records_start l) (count_on s l) r.sender x

  -- the charge account is open
  account_open : (tariff_on s l).account < accounts_on s l
  account_open = allowed_open _ _ (tariff_fits_lem s d.bounds l hl)

  -- from what the rules ask
  passes_by : (k : Kind) → Passable (ledger_on s l) (ledger_on s o) r k → PairPasses s r k l
  unfolding Passable Changes ledger_in
  passes_by (Local m) h =
      let x : r.sender < accounts_on s l = rw own at h.0.sender_open in
      omega (arith, h.0.receiver_open, own, fits l hl, h.1, pays_by x)
  passes_by (Sending m) h =
      let x : r.sender < accounts_on s l = rw own at h.0.sender_open in
      omega (arith, h.0.receiver_open, other, fits l hl, fits o ho, h.1, pays_by x, account_open)
  passes_by (Receiving m) h = omega (arith, h.0.sender_open, h.0.receiver_open, own, other, fits l hl, fits o ho)

-- a record without a refusal passes
pub passes_of : (s : List ℕ) → PairSound s → (r : Record) → pair_judge capacity (pair_view_of s).pair (Read r) ≡ 0
    → PairPasses s r r.kind (ledger_byte (ledger_of r.kind))
passes_of s d r j =
    let L = ledger_of r.kind in
    let a = or_else_zero (judge (pair_view_of s).pair r) _ j in
    let m = room_none capacity _ a.1 in
    let h = judge_none (pair_view_of s).pair r r.kind refl a.0 in
    passes_by s d r (ledger_byte L) (ledger_byte (counterpart L)) (byte_below L) (byte_below (counterpart L))
    (rw (state_on s L, length_held s (ledger_byte L)) at m) r.kind
    (rw (state_on s L, state_on s (counterpart L)) at h)

-- ## The words after it

-- words t are those after a pass: both ledgers' by the store, the others by name
pub record PairWritten (s t : List ℕ) (w : Words) (r : Record) (L : Ledger) : Type 0 where
  pub long : length t ≡ length s
  pub below : (i : ℕ) → i < pair_supply_word
      → get_or t i 0 ≡ get_or (stored (tariff_on s (ledger_byte L)) s (balances_start (ledger_byte L)) (records_start (ledger_byte L) + 4 * count_on s (ledger_byte L)) w r) i 0
  pub supply : pair_supply_of t ≡ pair_supply_of s
  pub tariff : pair_tariff_of t ≡ pair_tariff_of s
  pub accounts : (m : ℕ) → m < 2 → accounts_on t m ≡ accounts_on s m
  pub count : count_on t (ledger_byte L) ≡ count_on s (ledger_byte L) + 1
  pub others : count_on t (ledger_byte (counterpart L)) ≡ count_on s (ledger_byte (counterpart L))

module _ (s : List ℕ) (w : Words) (r : Record) (d : PairSound s) (L : Ledger) (p : PairPasses s r r.kind (ledger_byte L)) where
  -- the record's ledger
  abbrev l : ℕ
  l = ledger_byte L

  -- the other one
  abbrev o : ℕ
  o = ledger_byte (counterpart L)

  -- the words after the store
  abbrev stores : List ℕ
  stores = stored (tariff_on s l) s (balances_start l) (records_start l + 4 * count_on s l) w r

  -- the ledger's accounts
  own_fits : accounts_on s l ≤ account_limit
  own_fits = (accounts_fit s d.bounds l (byte_below L)).1

  -- the store
  is_stored : Stored (tariff_on s l) s (balances_start l) (accounts_on s l) (records_start l + 4 * count_on s l) w r
  is_stored =
      stored_of (tariff_on s l) s (balances_start l) (accounts_on s l) (records_start l + 4 * count_on s l) w r p.changes
      (omega (arith, p.room, byte_below L)) (balances_within s d.long d.bounds l (byte_below L))

  -- a word above the balances that is not the ledger's count
  above : (i : ℕ) → pair_supply_word ≤ i → (i ≡ pair_count_word l → ⊥) → get_or (pair_with s w r l) i 0 ≡ get_or s i 0
  unfolding pair_with
  above i h a =
      get_or-set_other stores (pair_count_word l) i (count_on s l + 1) 0 a
      ∙ is_stored.others i (inr (omega (arith, h, own_fits, byte_below L))) (inr (omega (arith, h, p.room, byte_below L)))

  -- what was written
  written : PairWritten s (pair_with s w r l) w r L
  unfolding pair_with
  written =
      record {
        long = length-set stores (pair_count_word l) (count_on s l + 1) ∙ is_stored.long;
        below = λ i h. get_or-set_other stores (pair_count_word l) i (count_on s l + 1) 0 (λ q. omega arith);
        supply = above pair_supply_word (omega arith) (λ q. omega arith);
        tariff = rw (
          above pair_tariff_word (omega arith) (λ q. omega (arith, byte_below L)),
          above (pair_tariff_word + 1) (omega arith) (λ q. omega (arith, byte_below L)),
        );
        accounts = λ m h. above (accounts_word m) (omega arith) (λ q. omega arith);
        count = get_or-set_same stores (pair_count_word l) (count_on s l + 1) 0 (omega (arith, is_stored.long, d.long, byte_below L));
        others = above (pair_count_word o) (omega arith) (λ q. omega (arith, q, ledger_other L));
      }

  module _ (t : List ℕ) (c : PairWritten s t w r L) where
    -- the ledger
    ledger_after : LedgerStored (tariff_on s l) s t (balances_start l) (accounts_on s l) (records_start l) (count_on s l) pair_supply_word w r
    ledger_after =
        ledger_stored_of (tariff_on s l) s t (balances_start l) (accounts_on s l) (records_start l) (count_on s l) pair_supply_word w r p.changes
        (omega (arith, p.room, byte_below L)) (omega (arith, own_fits, byte_below L)) (omega (arith, d.long)) c.long c.below

    -- the other one's records
    records_beside : SameWords s t (records_start o) (4 * count_on s o)
    records_beside i a b =
        let m = d.bounds.room o (byte_below (counterpart L)) in
        let h = byte_below (counterpart L) in
        ledger_after.others i (omega arith) (inl (omega arith))
        (⊎_elim (λ (q : i < 0 + l * (4 * capacity)). inl (omega arith))
        (λ (q : 0 + l * (4 * capacity) + (4 * count_on s l + 4) ≤ i). inr (omega arith))
        (beside L 0 (4 * capacity) (4 * count_on s l + 4) i (omega (arith, p.room)) (omega arith) (omega arith)))

    -- its balances, open or not
    balances_beside : SameWords s t (balances_start o) account_limit
    balances_beside i a b =
        ledger_after.others i (omega (arith, byte_below (counterpart L)))
        (beside L (8 * capacity) account_limit (accounts_on s l) i own_fits a b)
        (inr (omega (arith, p.room, byte_below L)))

    -- both tariffs stay
    tariffs_same : (m : ℕ) → m < 2 → tariff_on t m ≡ tariff_on s m
    tariffs_same = by_byte (λ (m : ℕ). tariff_on t m ≡ tariff_on s m) c.tariff refl

    -- the ledger is the rules' ledger on which the record has passed
    own_after : record_in w ≡ r → ledger_on t l ≡ held (ledger_on s l) r
    own_after e = rw (tariffs_same l (byte_below L), c.accounts l (byte_below L), c.count) (ledger_after.ledger e)

    -- the other one stays
    other_after : ledger_on t o ≡ ledger_on s o
    other_after =
        let h = byte_below (counterpart L) in
        rw (tariffs_same o h, c.accounts o h, c.others)
        (ledger_same s t (records_start o) (count_on s o) records_beside (tariff_on s o) (balances_start o) (accounts_on s o) c.long
        (balances_within s d.long d.bounds o h)
        (λ i a b. balances_beside i a (omega (arith, b, (accounts_fit s d.bounds o h).1))))

    -- the bounds
    bounds_after : PairBounds t
    bounds_after =
        let b = d.bounds in
        record {
          count = λ m h. rw (c.accounts m h) (b.count m h);
          room = either (λ (m : ℕ). count_on t m ≤ capacity) L (omega (arith, c.count, p.room))
              (omega (arith, c.others, b.room o (byte_below (counterpart L))));
          supply_fits = rw c.supply b.supply_fits;
          tariff_allowed = rw (c.tariff, c.accounts 0 (omega arith)) b.tariff_allowed;
        }

    -- balances beyond the accounts stay zero
    zeros_after : (m : ℕ) → m < 2 → zero_beyond t m ≡ true
    unfolding zero_beyond
    zeros_after =
        let h = byte_below (counterpart L) in
        either (λ (m : ℕ). zero_beyond t m ≡ true) L
        (rw (c.accounts l (byte_below L))
        (zeros_kept s t (balances_start l + accounts_on s l) (account_limit - accounts_on s l)
        (λ i a b. ledger_after.others i (omega (arith, b, own_fits, byte_below L)) (inr a)
        (inr (omega (arith, a, p.room, byte_below L))))
        ∙ d.zeros l (byte_below L)))
        (rw (c.accounts o h)
        (zeros_kept s t (balances_start o + accounts_on s o) (account_limit - accounts_on s o)
        (λ i a b. balances_beside i (omega arith) (omega (arith, a, b, (accounts_fit s d.bounds o h).1)))
        ∙ d.zeros o h))

    -- all held records read
    reads_after : formed w ≡ true → (m : ℕ) → m < 2 → formed_on t m ≡ true
    unfolding formed_on
    reads_after f =
        either (λ (m : ℕ). formed_on t m ≡ true) L (rw c.count (ledger_after.reads f (d.reads l (byte_below L))))
        (rw c.others
        (formed_same s t (records_start o) (count_on s o) records_beside ∙ d.reads o (byte_below (counterpart L))))

    -- the index of one number more, and the other ledger's
    indexed_after : record_in w ≡ r → (index : List ℕ) → PairReady s index
        → (m : ℕ) → m < 2 → IndexOf t (records_start m) (with_number index (index_on l) (count_on s l) r.number) (index_on m) (count_on t m)
    unfolding record_in
    indexed_after e index a =
        let h = byte_below (counterpart L) in
        let q : r.number ≡ w.number = ap (λ (x : Record). x.number) (sym e) in
        either
        (λ (m : ℕ). IndexOf t (records_start m) (with_number index (index_on l) (count_on s l) r.number) (index_on m) (count_on t m)) L
        (rw c.count
        (index_grown s t (records_start l) index (index_on l) (count_on s l) r.number (a.indexed l (byte_below L))
        (omega (arith, a.index_long, p.room, byte_below L)) ledger_after.numbers (q ∙ ledger_after.number)))
        (rw c.others
        (index_beside s t (records_start o) (index_on o) (count_on s o)
        (grown_kept index (index_on l) (count_on s l) capacity r.number p.room)
        (index_apart L (count_on s o) (d.bounds.room o h)) (number_same s t (records_start o) (count_on s o) records_beside)
        (a.indexed o h)))

-- both ledgers, as the rules have them
view_after : (s t : List ℕ) (w : Words) (r : Record) → PairSound s → (L : Ledger) → ledger_of r.kind ≡ L
    → PairPasses s r r.kind (ledger_byte L) → PairWritten s t w r L → record_in w ≡ r
    → pair_view_of t ≡ record { pair = after (pair_view_of s).pair r; supply = pair_supply_of s }
unfolding after
view_after s t w r d Home q p c e = rw (own_after s w r d Home p t c e, other_after s w r d Home p t c, c.supply, q)
view_after s t w r d Far q p c e = rw (own_after s w r d Far p t c e, other_after s w r d Far p t c, c.supply, q)

-- the words after a pass on the ledger with byte l: accepted, seen as the rules' next state, and with the indexes kept
pub record PairNext (s : List ℕ) (w : Words) (r : Record) (l : ℕ) : Type 0 where
  pub accepted : accepts_pair (pair_with s w r l) ≡ true
  pub view : pair_view_of (pair_with s w r l) ≡ record { pair = after (pair_view_of s).pair r; supply = pair_supply_of s }
  pub ready : (index : List ℕ) → PairReady s index → PairReady (pair_with s w r l) (with_number index (index_on l) (count_on s l) r.number)

-- bytes that pass
pub next_of : (s : List ℕ) → accepts_pair s ≡ true → (b : List ℕ) (r : Record) → reading b ≡ Read r
    → pair_judge capacity (pair_view_of s).pair (Read r) ≡ 0 → PairNext s (words_of b) r (ledger_byte (ledger_of r.kind))
unfolding after_bytes
next_of s h b r q j =
    let w = words_of b in
    let f = read_formed b r q in
    let d = sound_of s h in
    let L = ledger_of r.kind in
    let t = pair_with s w r (ledger_byte L) in
    let p = passes_of s d r j in
    let c = written s w r d L p in
    let v = view_after s t w r d L refl p c f.2 in
    let k : pair_judge capacity (pair_view_of s).pair (reading b) ≡ 0 = rw q j in
    let g : pair_accepts capacity (record { pair = after (pair_view_of s).pair r; supply = pair_supply_of s }) ≡ true =
    rw q at (pair_step capacity (pair_view_of s) b d.accepted k) in
    let n : accepts_pair t ≡ true =
    sound_accepts t
    (record {
      long = c.long ∙ d.long;
      bounds = bounds_after s w r d L p t c;
      zeros = zeros_after s w r d L p t c;
      reads = reads_after s w r d L p t c f.1;
      accepted = rw v g;
    }) in
    record {
      accepted = n;
      view = v;
      ready = λ index a. record {
        accepted = n;
        index_long = simp length-set a.index_long;
        indexed = indexed_after s w r d L p t c f.2 index a;
      };
    }
