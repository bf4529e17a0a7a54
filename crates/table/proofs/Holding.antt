-- Words that pass the tests by limits are those that a ledger may hold. Assumes nothing.
use Rattle.wire.proofs.Prelude.{Bool, List, [], ◌%◌, ◌&&◌, ◌*◌, ◌+◌, ◌/◌, ◌<◌, ◌^◌, ◌∙◌, ◌∷◌, ◌≡◌, ◌≤◌, ap, arith, cond, div-add-mod}
use Rattle.wire.proofs.Prelude.{eq-eqb, eqb, eqb-true, false, get_or, le-leb, leb, leb-true, lt-ltb, ltb, ltb-true, refl, sym, true}
use Rattle.wire.proofs.Prelude.{ℕ}
use Rattle.ledgers.specs.Ledgers.{counterpart, kind_at, ledger_at, ledger_byte, receiver_ledger, sender_ledger}
use Rattle.ledgers.specs.Limits.{account_limit, max_amount}
use Rattle.records.proofs.Exactly.{kind_ledger, ledger_bound}
use Rattle.records.proofs.Formed.{facts_formed, formed_facts}
use Rattle.records.specs.Records.{formed, reading_words, record_in, within}
use Rattle.records.specs.declared.Words.{Words}
use Rattle.rules.proofs.Bytes.{at_byte, byte_only, receiver_byte, same_own, sender_byte}
use Rattle.rules.proofs.Lists.{never_both_tests}
use Rattle.rules.proofs.PairAccepted.{allowed_held, held_allowed_lem}
use Rattle.rules.specs.Lists.{any}
use Rattle.rules.specs.PairValidator.{held_allowed, same_ledger, stands_under}
use Rattle.rules.specs.Rules.{Far, Home, Ledger, Read}
use Rattle.table.proofs.Limits.{Parts, below_head, below_receiver, head_below, parts_of_lem, receiver_below}
use Rattle.table.specs.Table.{accounts_by, head_bases, may_hold, receiver_limits, sender_limits}
use Rattle.wire.proofs.Lists.{and_both, every_both, every_first, every_none, same_tests}
use Rattle.wire.specs.BigEndian.{every}

-- ## Accounts

-- a ledger's accounts, and its counterpart's
own_accounts : (L : Ledger) (own other : ℕ) → (accounts_by L own other L ≡ own) × (accounts_by L own other (counterpart L) ≡ other)
own_accounts Home own other = (refl, refl)
own_accounts Far own other = (refl, refl)

-- how many accounts the sender's ledger has, by kind
sender_accounts : (L : Ledger) (own other k : ℕ) → 0 < k → k ≤ 3
    → accounts_by L own other (sender_ledger (kind_at k L)) ≡ cond (eqb k 3) other own
sender_accounts L own other k a b =
    let o = own_accounts L own other in
    sender_byte (accounts_by L own other) k L a b ∙ rw (o.0, o.1)

-- and the receiver's
receiver_accounts : (L : Ledger) (own other k : ℕ) → 0 < k → k ≤ 3
    → accounts_by L own other (receiver_ledger (kind_at k L)) ≡ cond (eqb k 2) other own
receiver_accounts L own other k a b =
    let o = own_accounts L own other in
    receiver_byte (accounts_by L own other) k L a b ∙ rw (o.0, o.1)

-- ## The tests

-- by limits, with how far the head is above the base of its kind: head, receiver with its zero bytes, amount, verdict
unfoldable pub below : ℕ → List ℕ → List ℕ → Words → Bool
below d senders receivers w =
    every
    (ltb d (get_or senders (w.head / 2 ^ 56 % 4) 0)
    ∷ ltb (w.head % 2 ^ 16 * 2 ^ 16 + w.head / 2 ^ 16 % 2 ^ 16) (get_or receivers (w.head / 2 ^ 56 % 4) 0)
    ∷ ltb 0 w.amount
    ∷ leb w.amount max_amount
    ∷ eqb w.tail (2 ^ 56)
    ∷ []
    )

-- words that are formed read as the record in them
formed_read : (w : Words) → formed w ≡ true → reading_words w ≡ Read (record_in w)
unfolding reading_words
formed_read w h = rw h

-- what a ledger may hold is formed, and its own, and allowed
pub record Holds (L : Ledger) (accounts : Ledger → ℕ) (w : Words) : Type 0 where
  pub reads : formed w ≡ true
  pub stands : stands_under L (record_in w) ≡ true
  pub allowed : held_allowed accounts (record_in w) ≡ true

-- from the test
pub holds_of : (L : Ledger) (accounts : Ledger → ℕ) (w : Words) → may_hold L accounts (reading_words w) ≡ true → Holds L accounts w
unfolding reading_words
holds_of L accounts w h = go (formed w) refl
  where
    go : (t : Bool) → formed w ≡ t → Holds L accounts w
    go true q =
        let k : (stands_under L (record_in w) && held_allowed accounts (record_in w)) ≡ true = rw q at h in
        let b = and_both _ _ k in
        record { reads = q; stands = b.0; allowed = b.1 }
    go false q = let k : false ≡ true = rw q at h in absurd (never_both_tests (sym k))

-- and back
pub of_holds : (L : Ledger) (accounts : Ledger → ℕ) (w : Words) → Holds L accounts w → may_hold L accounts (reading_words w) ≡ true
of_holds L accounts w h = rw (formed_read w h.reads, h.stands) h.allowed

module _ (L : Ledger) (own other : ℕ) (ho : own ≤ account_limit) (ht : other ≤ account_limit) (w : Words) (hh : w.head < 2 ^ 64)
    (hv : w.tail < 2 ^ 64) (d : ℕ) (hd : d < 2 ^ 64)
    (far : (d + get_or (head_bases (ledger_byte L)) (w.head / 2 ^ 56 % 4) 0) % 2 ^ 64 ≡ w.head) where
  abbrev kind : ℕ
  kind = w.head / 2 ^ 56

  abbrev ledger : ℕ
  ledger = w.head / 2 ^ 48 % 256

  abbrev sender : ℕ
  sender = w.head / 2 ^ 32 % 2 ^ 16

  abbrev receiver : ℕ
  receiver = w.head / 2 ^ 16 % 2 ^ 16

  abbrev zero_part : ℕ
  zero_part = w.head % 2 ^ 16

  -- the parts of a head of the ledger
  parts_at : ledger ≡ ledger_byte L → Parts w.head kind (ledger_byte L) sender receiver zero_part
  parts_at q = rw q at (parts_of_lem w.head)

  -- the kind's byte is the whole first byte
  kind_whole : within 0 1 w.head ≡ kind
  kind_whole = omega arith

  -- a verdict of 1 and zeros after it are one word
  tail_one : within 0 1 w.tail ≡ 1 → within 1 7 w.tail ≡ 0 → w.tail ≡ 2 ^ 56
  tail_one a b = let u = div-add-mod w.tail (2 ^ 56) in omega (arith, a, b, u)

  -- words below the limits may be held
  below_holds : below d (sender_limits own other) (receiver_limits own other) w ≡ true → Holds L (accounts_by L own other) w
  unfolding below record_in stands_under any
  below_holds h =
      let b = every_first _ _ h in
      let c = every_first _ _ b.1 in
      let m = every_first _ _ c.1 in
      let e = every_first _ _ m.1 in
      let f = every_first _ _ e.1 in
      let x = below_head (ledger_byte L) own other (ledger_bound L) ho ht kind w.head ledger sender receiver zero_part d (parts_of_lem w.head) far
      (ltb-true _ _ b.0) in
      let byte : ledger ≡ ledger_byte L = x.2 in
      let on : ledger_at ledger ≡ L = ap ledger_at byte ∙ at_byte L in
      let y = below_receiver (ledger_byte L) own other (ledger_bound L) ho ht kind receiver zero_part x.0 x.1 (ltb-true _ _ c.0) in
      let tail : w.tail ≡ 2 ^ 56 = eqb-true _ _ f.0 in
      let some : 0 < w.amount = ltb-true _ _ m.0 in
      let most : w.amount ≤ max_amount = leb-true _ _ e.0 in
      let k = kind_whole in
      let sends : sender < accounts_by L own other (sender_ledger (record_in w).kind) =
      rw (k, on, sender_accounts L own other kind x.0 x.1) x.3 in
      let receives : receiver < accounts_by L own other (receiver_ledger (record_in w).kind) =
      rw (k, on, receiver_accounts L own other kind x.0 x.1) y.1 in
      record {
        reads =
            facts_formed w
            (record {
              kind_some = rw k x.0;
              kind_most = rw k x.1;
              ledger_most = omega (arith, byte, ledger_bound L);
              zeros_first = omega (arith, y.0);
              amount_some = some;
              amount_most = most;
              verdict_most = omega (arith, tail);
              zeros_last = omega (arith, tail);
            });
        stands = rw (kind_ledger (within 0 1 w.head) (ledger_at ledger), on) (same_own L);
        allowed =
            allowed_held (accounts_by L own other) [] (record_in w)
            (record {
              sender_open = sends;
              receiver_open = receives;
              signed = eq-eqb (within 0 1 w.tail) 1 (omega (arith, tail));
              fresh = refl;
            })
            (some, most);
      }

  -- and back
  holds_below : Holds L (accounts_by L own other) w → below d (sender_limits own other) (receiver_limits own other) w ≡ true
  unfolding below record_in stands_under
  holds_below h =
      let f = formed_facts w h.reads in
      let x = held_allowed_lem (accounts_by L own other) (record_in w) h.allowed in
      let k = kind_whole in
      let some : 0 < kind = omega (arith, f.kind_some, k) in
      let most : kind ≤ 3 = omega (arith, f.kind_most, k) in
      let same : same_ledger L (ledger_at ledger) ≡ true =
      rw (kind_ledger (within 0 1 w.head) (ledger_at ledger)) at h.stands in
      let byte : ledger ≡ ledger_byte L = byte_only L ledger f.ledger_most same in
      let on : ledger_at ledger ≡ L = ap ledger_at byte ∙ at_byte L in
      let sends : sender < cond (eqb kind 3) other own =
      rw (k, on, sender_accounts L own other kind some most) at x.0.sender_open in
      let receives : receiver < cond (eqb kind 2) other own =
      rw (k, on, receiver_accounts L own other kind some most) at x.0.receiver_open in
      let none : zero_part ≡ 0 = omega (arith, f.zeros_first) in
      let tail : w.tail ≡ 2 ^ 56 = tail_one (eqb-true _ _ x.0.signed) f.zeros_last in
      every_both _ _
      (lt-ltb _ _
      (head_below (ledger_byte L) own other (ledger_bound L) ho ht kind w.head sender receiver zero_part d (parts_at byte) far hd hh some most
      sends))
      (every_both _ _
      (lt-ltb _ _ (receiver_below (ledger_byte L) own other (ledger_bound L) ho ht kind receiver zero_part some most none receives))
      (every_both _ _ (lt-ltb _ _ f.amount_some)
      (every_both _ _ (le-leb _ _ f.amount_most)
      (every_both _ _ (eq-eqb _ _ tail)
      every_none))))

  -- the tests by limits are the ledger's own
  pub below_is : below d (sender_limits own other) (receiver_limits own other) w ≡ may_hold L (accounts_by L own other) (reading_words w)
  below_is =
      same_tests _ _ (λ h. of_holds L (accounts_by L own other) w (below_holds h))
      (λ h. holds_below (holds_of L (accounts_by L own other) w h))

-- so they are with the limits in hand
pub below_at : (L : Ledger) (own other : ℕ) (bases senders receivers : List ℕ) (w : Words) (d : ℕ) → own ≤ account_limit
    → other ≤ account_limit → bases ≡ head_bases (ledger_byte L) → senders ≡ sender_limits own other → receivers ≡ receiver_limits own other
    → w.head < 2 ^ 64 → w.tail < 2 ^ 64 → d < 2 ^ 64 → (d + get_or bases (w.head / 2 ^ 56 % 4) 0) % 2 ^ 64 ≡ w.head
    → below d senders receivers w ≡ may_hold L (accounts_by L own other) (reading_words w)
below_at L own other bases senders receivers w d ho ht eb es er hh hv hd e =
    rw (es, er)
    (below_is L own other ho ht w hh hv d hd (ap (λ (b : List ℕ). (d + get_or b (w.head / 2 ^ 56 % 4) 0) % 2 ^ 64) (sym eb) ∙ e))
