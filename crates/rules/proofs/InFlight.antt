-- In flight, in lists of distinct numbers whose arrivals have their sendings, is what was sent less what was received.
-- Assumes nothing.
use Rattle.wire.proofs.Prelude.{Bool, List, [], ◌&&◌, ◌++◌, ◌+◌, ◌∙◌, ◌∷◌, ◌≡◌, and-false, and-true, ap, arith, cond, dichotomy, eq-eqb}
use Rattle.wire.proofs.Prelude.{eqb, eqb-true, false, inl, inr, or-false, refl, sym, true, ℕ}
use Rattle.rules.proofs.Clashes.{Distinct, clash_arrived, clash_used, used}
use Rattle.rules.proofs.Lists.{all_every, any_none, eqb_turned, every_all, or_neither, or_second, sum_ext, sum_snoc}
use Rattle.rules.specs.HomeValidator.{received, sent}
use Rattle.rules.specs.Lists.{all, any, same_truth, sum}
use Rattle.rules.specs.PairValidator.{matched}
use Rattle.rules.specs.Rules.{Kind, Local, Receiving, Record, Sending, arrived, clashes, flight, flight_by, is_receiving, is_sending}
use Rattle.rules.specs.Rules.{matches}
use Rattle.wire.proofs.Lists.{and_both}
use Rattle.wire.specs.BigEndian.{All, every}

-- ## Arrivals and their sendings

-- what a matching sending is
pub record Matched (r x : Record) : Type 0 where
  pub sending : is_sending x.kind ≡ true
  pub number : r.number ≡ x.number
  pub sender : r.sender ≡ x.sender
  pub receiver : r.receiver ≡ x.receiver
  pub amount : r.amount ≡ x.amount

-- the test of a match
pub matches_matched : (r x : Record) → matches r x ≡ true → Matched r x
unfolding matches All
matches_matched r x h = let a = every_all _ h in search eqb-true

-- and back
pub matched_matches : (r x : Record) → Matched r x → matches r x ≡ true
unfolding matches All
matched_matches r x m = all_every _ (search eq-eqb depth 8)

-- a sending is no arrival
pub sent_not : (k : Kind) → is_sending k ≡ true → is_receiving k ≡ false
sent_not (Local l) h = refl
sent_not (Sending l) h = refl
sent_not (Receiving l) h = sym h

-- ## One arrival more

-- a record is a sending with the number
abbrev sends : ℕ → Record → Bool
sends n x = is_sending x.kind && eqb n x.number

-- where no local or sending has the number, no sending does
sends_unused : (n : ℕ) (xs : List Record) → used false n xs ≡ false → any (sends n) xs ≡ false
unfolding used
sends_unused n xs h = any_none _ (sends n) (λ x. by x.kind (eqb n x.number)) xs h
  where
    by : (k : Kind) (t : Bool) → (same_truth false (is_receiving k) && t) ≡ false → (is_sending k && t) ≡ false
    by (Local l) t q = refl
    by (Sending l) t q = q
    by (Receiving l) t q = refl

-- what is no sending with the number does not match
matches_sends : (r x : Record) → sends r.number x ≡ false → matches r x ≡ false
unfolding matches every
matches_sends r x h =
    elim (dichotomy (is_sending x.kind)) [
      | inl q ↦ simp q
      | inr q ↦ let e : eqb r.number x.number ≡ false = rw q at h in simp (e, and-false)
    ]

-- what is no sending with the number flies as before
flight_head : (ys : List Record) (r x : Record) → sends r.number x ≡ false → flight_by (r ∷ ys) x ≡ flight_by ys x
unfolding arrived any
flight_head ys r x h =
    elim (dichotomy (is_sending x.kind)) [
      | inl q ↦ simp q
      | inr q ↦ let e : eqb r.number x.number ≡ false = rw q at h in simp (sym (eqb_turned r.number x.number) ∙ e, and-false)
    ]

-- where no sending has the number, all fly as before
flight_unused : (xs ys : List Record) (r : Record) → any (sends r.number) xs ≡ false → flight xs (r ∷ ys) ≡ flight xs ys
unfolding any flight sum
flight_unused [] ys r h = refl
flight_unused (x ∷ xs) ys r h =
    let u = or_neither (sends r.number x) (any (sends r.number) xs) h in
    omega (arith, flight_head ys r x u.0, flight_unused xs ys r u.1)

-- a sending that clashes with none of a list is the only one with its number
sends_alone : (x : Record) (xs : List Record) → is_sending x.kind ≡ true → any (clashes x) xs ≡ false
    → any (sends x.number) xs ≡ false
sends_alone x xs q h =
    sends_unused x.number xs
    (ap (λ (t : Bool). used t x.number xs) (sym (sent_not x.kind q)) ∙ sym (clash_used x xs) ∙ h)

-- an arrival takes its sending out of the flight
flight_receiving : (xs ys : List Record) (r : Record) → is_receiving r.kind ≡ true → Distinct xs → any (matches r) xs ≡ true
    → arrived r.number ys ≡ false → flight xs (r ∷ ys) + r.amount ≡ flight xs ys
unfolding any flight sum Distinct arrived
flight_receiving [] ys r k d m f = let z : ◌≡◌ {A = ℕ} 0 1 = cc in omega arith
flight_receiving (x ∷ xs) ys r k d m f =
    elim (dichotomy (sends r.number x)) [
      | inl q ↦ omega (
        arith,
        flight_head ys r x q,
        flight_receiving xs ys r k d.1 (or_second (matches r x) (any (matches r) xs) m (matches_sends r x q)) f,
      )
      | inr q ↦
          let p = and_both (is_sending x.kind) (eqb r.number x.number) q in
          let e : r.number ≡ x.number = eqb-true _ _ p.1 in
          let u : any (sends r.number) xs ≡ false = rw e (sends_alone x xs p.0 d.0) in
          let none = any_none (sends r.number) (matches r) (matches_sends r) xs u in
          let s = matches_matched r x (rw (none, or-false) at m) in
          let old : flight_by ys x ≡ x.amount = simp (s.sending, ← e, f) in
          let new : flight_by (r ∷ ys) x ≡ 0 = simp (s.sending, k, eq-eqb x.number r.number (sym e)) in
          omega (arith, s.amount, old, new, flight_unused xs ys r u)
    ]

-- ## All arrivals

-- what one record of a kind adds to what was sent
pub sent_snoc : (xs : List Record) (r : Record) {k : Kind} → r.kind ≡ k → sent (xs ++ r ∷ []) ≡ sent xs + cond (is_sending k) r.amount 0
unfolding sent
sent_snoc xs r q = rw (← q) (sum_snoc _ xs r)

-- and to what was received
pub received_snoc : (xs : List Record) (r : Record) {k : Kind} → r.kind ≡ k
    → received (xs ++ r ∷ []) ≡ received xs + cond (is_receiving k) r.amount 0
unfolding received
received_snoc xs r q = rw (← q) (sum_snoc _ xs r)

-- in flight and received are what was sent
pub flight_sums : (xs ys : List Record) → Distinct xs → Distinct ys → all (matched xs) ys ≡ true → flight xs ys + received ys ≡ sent xs
unfolding flight received sent sum arrived any all matched Distinct used
flight_sums xs [] d a m =
    omega (arith, sum_ext (flight_by []) (λ (x : Record). cond (is_sending x.kind) x.amount 0) (λ x. simp and-true) xs)
flight_sums xs (y ∷ ys) d a m =
    let u = and_both (matched xs y) (all (matched xs) ys) m in
    let ih = flight_sums xs ys d a.1 u.1 in
    elim (dichotomy (is_receiving y.kind)) [
      | inl q ↦
          let g : cond (is_receiving y.kind) y.amount 0 ≡ 0 = simp q in
          omega (arith, ih, g, sum_ext (flight_by (y ∷ ys)) (flight_by ys) (λ x. simp q) xs)
      | inr q ↦
          let g : cond (is_receiving y.kind) y.amount 0 ≡ y.amount = simp q in
          let f : arrived y.number ys ≡ false = sym (clash_arrived y ys q) ∙ a.0 in
          omega (arith, ih, g, flight_receiving xs ys y q d (rw q at u.0) f)
    ]
