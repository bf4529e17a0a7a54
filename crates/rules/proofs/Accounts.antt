-- 22 and 51 tell which account is not open, and a held record has both open. Assumes nothing.
use Rattle.wire.proofs.Prelude.{Bool, List, [], ◌∷◌, ◌≡◌, arith, false, leb, leb-false, leb-true, refl, true, ℕ}
use Rattle.answers.proofs.Answers.{same_number}
use Rattle.answers.specs.Answers.{answer, or_else, refuse}
use Rattle.ledgers.specs.Ledgers.{ledger_of, receiver_ledger, sender_ledger}
use Rattle.rules.proofs.Numbers.{Other, others}
use Rattle.rules.proofs.PairAccepted.{held_allowed_lem}
use Rattle.rules.proofs.Refusals.{first_else}
use Rattle.rules.specs.Accounts.{AccountsOpen, TellsAccount}
use Rattle.rules.specs.HomeValidator.{HomeView, home_accounts, home_judge, home_judge_record, home_last_refusal, pool_refusal}
use Rattle.rules.specs.Lists.{all}
use Rattle.rules.specs.PairValidator.{held_allowed, pair_judge, room_refusal}
use Rattle.rules.specs.Rules.{Home, Kind, Ledger, Local, PairState, Read, Receiving, Record, Sending, accounts_of, first_refusal}
use Rattle.rules.specs.Rules.{funds_refusal, judge, last_refusal, match_refusal}
use Rattle.wire.proofs.Lists.{and_both}
use Rattle.wire.specs.BigEndian.{All}

-- 22 by one test, 51 by the next, and then numbers that are neither
told_by : (accounts : Ledger → ℕ) (r : Record) (s t : Bool) (rest : ℕ) → leb (accounts (sender_ledger r.kind)) r.sender ≡ s
    → leb (accounts (receiver_ledger r.kind)) r.receiver ≡ t → Other 22 rest → Other 51 rest
    → TellsAccount accounts r (answer (refuse s 22 (refuse t 51 rest)) 0)
unfolding Other
told_by accounts r true t rest es et a b =
    let sender_absent = leb-true (accounts (sender_ledger r.kind)) r.sender es in
    record {
      sender = (λ h. sender_absent, λ h. refl);
      receiver = (λ h. absurd (omega (arith, same_number 22 51 0 h)), λ h. absurd (omega (arith, h.0, sender_absent)));
    }
told_by accounts r false true rest es et a b =
    let sender_open = leb-false (accounts (sender_ledger r.kind)) r.sender es in
    record {
      sender = (λ h. absurd (omega (arith, same_number 51 22 0 h)), λ h. absurd (omega (arith, h, sender_open)));
      receiver = (λ h. (sender_open, leb-true (accounts (receiver_ledger r.kind)) r.receiver et), λ h. refl);
    }
told_by accounts r false false rest es et a b =
    let sender_open = leb-false (accounts (sender_ledger r.kind)) r.sender es in
    let receiver_open = leb-false (accounts (receiver_ledger r.kind)) r.receiver et in
    record {
      sender = (λ h. absurd (a (same_number rest 22 0 h)), λ h. absurd (omega (arith, h, sender_open)));
      receiver = (λ h. absurd (b (same_number rest 51 0 h)), λ h. absurd (omega (arith, h.1, receiver_open)));
    }

-- the refusals up to 24, those by kind and then 41, in one order
in_order : (accounts : Ledger → ℕ) (passed : List Record) (r : Record) (last room : ℕ) → Other 22 last → Other 51 last → Other 22 room
    → Other 51 room → TellsAccount accounts r (answer (or_else (first_refusal accounts passed r last) room) 0)
unfolding first_refusal
in_order accounts passed r last room a b c d =
    rw (first_else accounts passed r last room)
    (told_by accounts r _ _ _ refl refl (search (others, a, c)) (search (others, b, d)))

-- the pair validator's answer
pub pair_tells : (capacity : ℕ) (p : PairState) (r : Record) → TellsAccount (accounts_of p) r (answer (pair_judge capacity p (Read r)) 0)
unfolding judge funds_refusal match_refusal room_refusal
pair_tells capacity p r =
    let last : (m : ℕ) → Other m 0 → Other m 25 → Other m 31 → (k : Kind) → Other m (last_refusal p r k) =
    λ m a b c. elim [ Local l ↦ search others | Sending l ↦ search others | Receiving l ↦ search others ] in
    in_order (accounts_of p) _ r _ _ (search (others, last)) (search (others, last)) (search others) (search others)

-- the home validator's, of a home record
pub home_tells : (capacity : ℕ) (v : HomeView) (r : Record) → ledger_of r.kind ≡ Home
    → TellsAccount (home_accounts v) r (answer (home_judge capacity v (Read r)) 0)
unfolding home_judge_record funds_refusal pool_refusal room_refusal
home_tells capacity v r h =
    let last : (m : ℕ) → Other m 0 → Other m 25 → Other m 32 → (k : Kind) → Other m (home_last_refusal v r k) =
    λ m a b c. elim [ Local l ↦ search others | Sending l ↦ search others | Receiving l ↦ search others ] in
    rw h (in_order (home_accounts v) _ r _ _ (search (others, last)) (search (others, last)) (search others) (search others))

-- held records that refusal 3 has nothing against
pub held_open : (accounts : Ledger → ℕ) (rs : List Record) → all (held_allowed accounts) rs ≡ true → All (AccountsOpen accounts) rs
unfolding all All
held_open accounts [] h = tt
held_open accounts (r ∷ rs) h =
    let u = and_both (held_allowed accounts r) (all (held_allowed accounts) rs) h in
    let a = (held_allowed_lem accounts r u.0).0 in
    (record { sender = a.sender_open; receiver = a.receiver_open }, held_open accounts rs u.1)
