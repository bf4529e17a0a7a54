-- What D3.2 asks of a validity language, proved of the rules. Assumes nothing.
use Rattle.wire.proofs.Prelude.{Bool, List, [], ◌++◌, ◌∙◌, ◌∷◌, ◌≡◌, ap, false, refl, sym, true, ℕ}
use Rattle.ledgers.specs.Ledgers.{counterpart, ledger_of}
use Rattle.records.specs.Records.{reading}
use Rattle.rules.proofs.Clashes.{clash_arrived, clash_self}
use Rattle.rules.proofs.InFlight.{matched_matches, matches_matched}
use Rattle.rules.proofs.Ledgers.{accounts_with, counterpart_twice}
use Rattle.rules.proofs.Lists.{any_append, any_last, any_split, never_both_tests}
use Rattle.rules.proofs.PairConserved.{passed_after}
use Rattle.rules.proofs.Refusals.{Passable, first_none, judge_none, none_judge, rules_read}
use Rattle.rules.specs.Arrivals.{receiving_of}
use Rattle.rules.specs.Beyond.{ClosedUnderBeginnings, NoClashPasses, NonePassesTwice, ReceivingsWereSent, SendingsArrive}
use Rattle.rules.specs.Cases.{after_all}
use Rattle.rules.specs.Lists.{any}
use Rattle.rules.specs.Rules.{Far, Home, Ledger, PairState, Read, Reading, Receiving, Record, Sending, Unreadable, state_of}
use Rattle.rules.specs.Rules.{Passes, accounts_of, after, after_bytes, after_reading, clashes, is_sending, judge, judge_bytes, matches}

-- ## Beginnings

-- a beginning of a list that passes, and what follows it from the state after it
passes_split : (p : PairState) (xs ys : List (List ℕ)) → Passes p (xs ++ ys) → Passes p xs × Passes (after_all p xs) ys
unfolding Passes after_all
passes_split p [] ys h = (tt, h)
passes_split p (x ∷ xs) ys h = let t = passes_split (after_bytes p x) xs ys h.1 in ((h.0, t.0), t.1)

-- and back
rest_passes : (p : PairState) (xs ys : List (List ℕ)) → Passes p xs → Passes (after_all p xs) ys → Passes p (xs ++ ys)
unfolding Passes after_all
rest_passes p [] ys h k = k
rest_passes p (x ∷ xs) ys h k = (h.0, rest_passes (after_bytes p x) xs ys h.1 k)

-- each beginning of a list that passes
pub closed_under_beginnings : ClosedUnderBeginnings
unfolding ClosedUnderBeginnings
closed_under_beginnings p xs ys h = (passes_split p xs ys h).0

-- the state after a list and more
after_all_append : (p : PairState) (xs ys : List (List ℕ)) → after_all p (xs ++ ys) ≡ after_all (after_all p xs) ys
unfolding after_all
after_all_append p [] ys = refl
after_all_append p (x ∷ xs) ys = after_all_append (after_bytes p x) xs ys

-- ## What stays

-- a test that some record passed on a ledger meets is met by one after any list
any_stays : (f : Record → Bool) (l : Ledger) (p : PairState) (bs : List (List ℕ)) → any f (state_of l p).passed ≡ true
    → any f (state_of l (after_all p bs)).passed ≡ true
unfolding after_all after_bytes after
any_stays f l p [] h = h
any_stays f l p (b ∷ bs) h =
    let one : (x : Reading) → any f (state_of l (after_reading p x)).passed ≡ true =
    elim [ Unreadable ↦ h | Read r ↦ rw (passed_after p r l (ledger_of r.kind), any_append, h) ] in
    any_stays f l (after_bytes p b) bs (one (reading b))

-- the numbers of accounts stay
accounts_stay : (p : PairState) (bs : List (List ℕ)) → accounts_of (after_all p bs) ≡ accounts_of p
unfolding after_all after_bytes after
accounts_stay p [] = refl
accounts_stay p (b ∷ bs) =
    let one : (x : Reading) → accounts_of (after_reading p x) ≡ accounts_of p =
    elim [ Unreadable ↦ refl | Read r ↦ accounts_with (ledger_of r.kind) r p ] in
    accounts_stay (after_bytes p b) bs ∙ one (reading b)

-- a record that has passed stands last on its ledger
last_passed : (f : Record → Bool) (p : PairState) (r : Record) (l : Ledger) → ledger_of r.kind ≡ l → f r ≡ true
    → any f (state_of l (after p r)).passed ≡ true
unfolding after
last_passed f p r Home q h = rw q (any_last f p.home.passed r h)
last_passed f p r Far q h = rw q (any_last f p.far.passed r h)

-- ## No clash

-- of two records that clash on one ledger, only the first passes
pub no_clash_passes : NoClashPasses
unfolding NoClashPasses Passes judge_bytes after_bytes judge
no_clash_passes p xs ys zs b c r q rb rc l k h =
    let start = after_all p xs in
    let between = after_bytes start b in
    let first = (passes_split p xs (b ∷ (ys ++ c ∷ zs)) h).1 in
    let second : judge (after_all between ys) q ≡ 0 = rw rc at (passes_split between ys (c ∷ zs) first.1).1.0 in
    never_both_tests
    (sym (any_stays (clashes q) (ledger_of q.kind) between ys (rw rb (last_passed (clashes q) start r (ledger_of q.kind) l k)))
    ∙ (first_none _ _ q _ second).0.fresh)

-- no record passes twice
pub none_passes_twice : NonePassesTwice
unfolding NonePassesTwice NoClashPasses Passes judge_bytes
none_passes_twice p xs ys zs b h =
    let x = rules_read (after_all p xs) (reading b) (passes_split p xs (b ∷ (ys ++ b ∷ zs)) h).1.0 in
    no_clash_passes p xs ys zs b b x.0 x.0 x.1 x.1 refl (clash_self x.0) h

-- ## Arrivals were sent

-- an arrival that passes was sent
pub receivings_were_sent : ReceivingsWereSent
unfolding ReceivingsWereSent Passable
receivings_were_sent p r l q h =
    let w = any_split (matches r) (state_of (counterpart l) p).passed (judge_none p r (Receiving l) q h).1 in
    let m = matches_matched r w.1 w.4 in
    record {
      before = w.0;
      sending = w.1;
      later = w.2;
      stands = w.3;
      is_sending = m.sending;
      same_number = m.number;
      same_sender = m.sender;
      same_receiver = m.receiver;
      same_amount = m.amount;
    }

-- ## Sendings arrive

-- the arrival of a sending that has passed passes after any list exactly when none with its number has passed
pub sendings_arrive : SendingsArrive
unfolding SendingsArrive Passes judge_bytes after_bytes after_all Passable receiving_of
sendings_arrive p xs ys b c r l rb k rc h =
    let start = after_all p xs in
    let now = after_all p (xs ++ b ∷ ys) in
    let e = receiving_of l r in
    let clashing = clash_arrived e (state_of (counterpart l) now).passed refl in
    let sent-passes : judge start r ≡ 0 = rw rb at (passes_split p xs (b ∷ ys) h).1.0 in
    let allowed = (judge_none start r (Sending l) k sent-passes).0 in
    let accounts : accounts_of now ≡ accounts_of start = rw (after_all_append p xs (b ∷ ys)) (accounts_stay start (b ∷ ys)) in
    let there : any (matches e) (state_of l now).passed ≡ true =
    rw (after_all_append p xs (b ∷ ys))
    (any_stays (matches e) l (after_bytes start b) ys
    (rw rb
    (last_passed (matches e) start r l (ap ledger_of k)
    (matched_matches e r (record { sending = ap is_sending k; number = refl; sender = refl; receiver = refl; amount = refl }))))) in
    let twice = counterpart_twice l in
    let passes : any (clashes e) (state_of (counterpart l) now).passed ≡ false → judge now e ≡ 0 =
    λ free.
    none_judge now e (Receiving (counterpart l)) refl (
      record {
        sender_open = rw (twice, ap (λ (f : Ledger → ℕ). f l) accounts) allowed.sender_open;
        receiver_open = rw (ap (λ (f : Ledger → ℕ). f (counterpart l)) accounts) allowed.receiver_open;
        signed = refl;
        fresh = free;
      },
      rw twice there,
    ) in (
      (λ g.
          let j : judge now e ≡ 0 = rw rc at (passes_split p (xs ++ b ∷ ys) (c ∷ []) g).1.0 in
          sym clashing ∙ (judge_none now e (Receiving (counterpart l)) refl j).0.fresh),
      (λ free. rest_passes p (xs ++ b ∷ ys) (c ∷ []) h (rw rc (passes (clashing ∙ free)), tt)),
    )
