-- Arrivals and their sendings in words, and the sums of both: what is asked of the words is what the rules ask of the records.
-- Assumes nothing.
use Rattle.wire.proofs.Prelude.{Bool, List, [], ◌%◌, ◌*◌, ◌+◌, ◌/◌, ◌<◌, ◌^◌, ◌||◌, ◌∙◌, ◌∷◌, ◌≡◌, ◌≤◌, ap, ap₂, arith, cond, eq-eqb, eqb}
use Rattle.wire.proofs.Prelude.{eqb-true, get_or, not, refl, suc, sym, true, zero, ℕ}
use Rattle.ledgers.specs.Ledgers.{ledger_at, ledger_byte}
use Rattle.places.proofs.KindBytes.{receiving_byte, sending_byte}
use Rattle.places.proofs.OverPlaces.{all_ext, all_list, any_list, sum_ext, sum_list}
use Rattle.places.specs.OverPlaces.{all_at, any_at, sum_at}
use Rattle.records.proofs.Exactly.{kind_ledger, ledger_bound}
use Rattle.records.proofs.Formed.{formed_facts}
use Rattle.records.specs.Records.{formed, record_in, within}
use Rattle.records.specs.declared.Words.{Words}
use Rattle.rules.proofs.Bytes.{byte_only}
use Rattle.rules.specs.HomeValidator.{received, sent}
use Rattle.rules.specs.Lists.{all, any}
use Rattle.rules.specs.PairValidator.{matched, same_ledger, stands_under}
use Rattle.rules.specs.Rules.{Ledger, Record, is_receiving, is_sending, matches}
use Rattle.table.proofs.Limits.{Parts, parts_of_lem}
use Rattle.table.specs.Table.{amount_at, backed_at, backed_by, flow_at, head_at, record_at, records_from, sending_head, sent_at, words_at}
use Rattle.wire.proofs.Lists.{every_both, every_first, every_none, same_tests}
use Rattle.wire.specs.BigEndian.{every}

-- what is asked where a test holds
pub asked : (p q : Bool) → p ≡ true → (not p || q) ≡ q
asked p q a = rw a

-- tests of some place that agree at the places
any_within : (p q : ℕ → Bool) (i n : ℕ) → ((j : ℕ) → i ≤ j → j < i + n → p j ≡ q j) → any_at p i n ≡ any_at q i n
unfolding any_at
any_within p q i zero e = refl
any_within p q i (suc n) e = rw (e i (omega arith) (omega arith), any_within p q (suc i) n (λ j a b. e j (omega arith) (omega arith)))

-- ## One head

-- a head without its kind and ledger
rest_of : (head k l s r z : ℕ) → Parts head k l s r z → head % 2 ^ 48 ≡ s * 2 ^ 32 + r * 2 ^ 16 + z
rest_of head k l s r z p = omega (arith, p.whole, p.sender_fits, p.receiver_fits, p.zeros_fit)

module _ (head v o k l s r k' l' s' r' : ℕ) (p : Parts head k l s r 0) (q : Parts v k' l' s' r' 0) where
  -- the head of the sending, from its fields
  same_head : k' ≡ 2 → l' ≡ o → s ≡ s' → r ≡ r' → sending_head o head ≡ v
  same_head a b c d = omega (arith, rest_of head k l s r 0 p, q.whole, a, b, c, d)

  -- and back
  head_same : o ≤ 1 → sending_head o head ≡ v → (k' ≡ 2) × (s ≡ s') × (r ≡ r')
  head_same h e =
      let x = rest_of head k l s r 0 p in
      let y = q.whole in
      let f : k' ≡ 2 =
      omega (arith, x, y, e, p.sender_fits, p.receiver_fits, q.ledger_fits, q.sender_fits, q.receiver_fits) in
      let g : l' ≡ o = omega (arith, x, y, e, f, p.sender_fits, p.receiver_fits, q.sender_fits, q.receiver_fits) in
      let i : s ≡ s' = omega (arith, x, y, e, f, g, p.receiver_fits, q.receiver_fits) in
      (f, i, omega (arith, x, y, e, f, g, i))

-- ## Matching records

module _ (L : Ledger) (w v : Words) (fw : formed w ≡ true) (fv : formed v ≡ true) (stands : stands_under L (record_in v) ≡ true)
    (small : v.head < 2 ^ 64) where
  -- the head of an arrival, and of what may be its sending
  own_parts : Parts w.head (w.head / 2 ^ 56) (w.head / 2 ^ 48 % 256) (w.head / 2 ^ 32 % 2 ^ 16) (w.head / 2 ^ 16 % 2 ^ 16) 0
  own_parts =
      let z : w.head % 2 ^ 16 ≡ 0 = omega (arith, (formed_facts w fw).zeros_first) in
      rw z at (parts_of_lem w.head)

  other_parts : Parts v.head (v.head / 2 ^ 56) (v.head / 2 ^ 48 % 256) (v.head / 2 ^ 32 % 2 ^ 16) (v.head / 2 ^ 16 % 2 ^ 16) 0
  other_parts =
      let z : v.head % 2 ^ 16 ≡ 0 = omega (arith, (formed_facts v fv).zeros_first) in
      rw z at (parts_of_lem v.head)

  -- it stands under its ledger
  other_byte : v.head / 2 ^ 48 % 256 ≡ ledger_byte L
  unfolding record_in stands_under
  other_byte =
      let same : same_ledger L (ledger_at (within 1 1 v.head)) ≡ true =
      rw (kind_ledger (within 0 1 v.head) (ledger_at (within 1 1 v.head))) at stands in
      byte_only L (within 1 1 v.head) (formed_facts v fv).ledger_most same

  -- three words alike
  abbrev alike : Bool
  alike =
      every
      (eqb w.number v.number ∷ eqb (sending_head (ledger_byte L) w.head) v.head ∷ eqb w.amount v.amount ∷ [])

  match_alike : matches (record_in w) (record_in v) ≡ true → alike ≡ true
  unfolding record_in matches
  match_alike h =
      let a = every_first _ _ h in
      let b = every_first _ _ a.1 in
      let c = every_first _ _ b.1 in
      let d = every_first _ _ c.1 in
      let e = every_first _ _ d.1 in
      let k : within 0 1 v.head ≡ 2 = eqb-true _ _ (sym (sending_byte (within 0 1 v.head) _) ∙ a.0) in
      let same = same_head w.head v.head (ledger_byte L) _ _ _ _ _ _ _ _ own_parts other_parts (omega (arith, k, small)) other_byte
      (eqb-true _ _ c.0) (eqb-true _ _ d.0) in
      every_both _ _ b.0 (every_both _ _ (eq-eqb _ _ same) (every_both _ _ e.0 every_none))

  alike_match : alike ≡ true → matches (record_in w) (record_in v) ≡ true
  unfolding record_in matches
  alike_match h =
      let a = every_first _ _ h in
      let b = every_first _ _ a.1 in
      let c = every_first _ _ b.1 in
      let s = head_same w.head v.head (ledger_byte L) _ _ _ _ _ _ _ _ own_parts other_parts (ledger_bound L) (eqb-true _ _ b.0) in
      let k : within 0 1 v.head ≡ 2 = omega (arith, s.0) in
      every_both _ _ (sending_byte (within 0 1 v.head) _ ∙ eq-eqb _ _ k)
      (every_both _ _ a.0
      (every_both _ _ (eq-eqb _ _ s.1)
      (every_both _ _ (eq-eqb _ _ s.2)
      (every_both _ _ c.0
      every_none))))

  -- an arrival matches a held record exactly where three words are alike
  pub match_is : matches (record_in w) (record_in v) ≡ alike
  match_is = same_tests _ _ match_alike alike_match

-- ## A ledger's records

-- each of n records is formed and stands under the ledger, in words of 64 bits
pub record FormedUnder (s : List ℕ) (from n : ℕ) (L : Ledger) : Type 0 where
  pub read : (i : ℕ) → i < n → formed (words_at s from i) ≡ true
  pub stands : (i : ℕ) → i < n → stands_under L (record_at s from i) ≡ true
  pub small : (i : ℕ) → get_or s i 0 < 2 ^ 64

-- an arrival has its sending among a ledger's records exactly where one of them has its number, head and amount
pub sent_is : (s : List ℕ) (from n : ℕ) (L : Ledger) → FormedUnder s from n L → (w : Words) → formed w ≡ true
    → any (matches (record_in w)) (records_from s from n)
    ≡ any_at (sent_at w.number (sending_head (ledger_byte L) w.head) w.amount s from) 0 n
unfolding records_from sent_at
sent_is s from n L h w f =
    any_list (record_at s from) (matches (record_in w)) 0 n
    ∙ any_within _ _ 0 n
    (λ i a b. match_is L w (words_at s from i) f (h.read i (omega (arith, b))) (h.stands i (omega (arith, b))) (h.small (from + 4 * i)))

-- words that are formed are of an arrival where their kind is 3
arrival_is : (w : Words) → formed w ≡ true → is_receiving (record_in w).kind ≡ eqb (within 0 1 w.head) 3
unfolding record_in
arrival_is w f =
    let g = formed_facts w f in
    receiving_byte (within 0 1 w.head) (ledger_at (within 1 1 w.head)) (omega (arith, g.kind_some)) g.kind_most

-- so a record is matched where its words are backed
pub backed_is : (s : List ℕ) (from n : ℕ) (L : Ledger) → FormedUnder s from n L → (w : Words) → formed w ≡ true
    → matched (records_from s from n) (record_in w) ≡ backed_by s (ledger_byte L) from n w
unfolding matched backed_by
backed_is s from n L h w f = ap₂ (λ (t u : Bool). not t || u) (arrival_is w f) (sent_is s from n L h w f)

-- all of them likewise
pub all_backed_is : (s : List ℕ) (from n : ℕ) (L : Ledger) → FormedUnder s from n L → (own m : ℕ)
    → ((i : ℕ) → i < m → formed (words_at s own i) ≡ true)
    → all (matched (records_from s from n)) (records_from s own m) ≡ all_at (backed_at s own (ledger_byte L) from n) 0 m
unfolding records_from
all_backed_is s from n L h own m f =
    all_list (record_at s own) (matched (records_from s from n)) 0 m
    ∙ all_ext _ _ 0 m (λ i a b. backed_is s from n L h (words_at s own i) (f i (omega (arith, b))))

-- ## Sums

-- what a ledger's records sent
pub sent_sum : (s : List ℕ) (from n : ℕ) → sent (records_from s from n) ≡ sum_at (flow_at 2 s from) 0 n
unfolding sent records_from record_in
sent_sum s from n =
    sum_list (record_at s from) (λ (r : Record). cond (is_sending r.kind) r.amount 0) 0 n
    ∙ sum_ext _ _ 0 n
    (λ i a b. ap (λ (t : Bool). cond t (amount_at s from i) 0) (sending_byte (within 0 1 (head_at s from i)) _))

-- what they received
pub received_sum : (s : List ℕ) (from n : ℕ) → ((i : ℕ) → i < n → formed (words_at s from i) ≡ true)
    → received (records_from s from n) ≡ sum_at (flow_at 3 s from) 0 n
unfolding received records_from record_in
received_sum s from n f =
    sum_list (record_at s from) (λ (r : Record). cond (is_receiving r.kind) r.amount 0) 0 n
    ∙ sum_ext _ _ 0 n
    (λ i a b. ap (λ (t : Bool). cond t (amount_at s from i) 0) (arrival_is (words_at s from i) (f i (omega (arith, b)))))
