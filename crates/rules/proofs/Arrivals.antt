-- Nothing is stranded (document 02, U2). Assumes nothing.
use Rattle.wire.proofs.Prelude.{Bool, List, [], ◌++◌, ◌<◌, ◌^◌, ◌∙◌, ◌∷◌, ◌≡◌, ◌≤◌, ap, arith, inl, inr, leb-true, length, refl, sym}
use Rattle.wire.proofs.Prelude.{true, ℕ, ⊎_elim}
use Rattle.ledgers.specs.Ledgers.{counterpart, ledger_of, receiver_ledger, sender_ledger}
use Rattle.ledgers.specs.Limits.{account_limit}
use Rattle.records.specs.Records.{Readable}
use Rattle.rules.proofs.Clashes.{Distinct, clash_arrived, clash_turned, class_clash}
use Rattle.rules.proofs.InFlight.{matched_matches, matches_matched, sent_not}
use Rattle.rules.proofs.Ledgers.{counterpart_twice}
use Rattle.rules.proofs.Lists.{any_split, every_all, never_both_tests, or_right}
use Rattle.rules.proofs.PairAccepted.{accepts_facts, held_allowed_lem}
use Rattle.rules.proofs.Refusals.{Passable, none_judge}
use Rattle.rules.specs.Arrivals.{Among, ArrivedIsOwn, Flying, NothingStranded, receiving_of}
use Rattle.rules.specs.Lists.{all, any}
use Rattle.rules.specs.PairValidator.{PairView, count_allowed, matched, pair_accepts, same_ledger, stands_under}
use Rattle.rules.specs.Rules.{Far, Home, Kind, Ledger, Local, Receiving, Record, Sending, clashes, is_receiving, is_sending, matches}
use Rattle.rules.specs.Rules.{state_of}
use Rattle.wire.proofs.Lists.{and_both}
use Rattle.wire.specs.BigEndian.{All}

-- ## One of the records

-- it meets a test that all meet
among_all : (f : Record → Bool) (x : Record) (xs : List Record) → Among x xs → all f xs ≡ true → f x ≡ true
unfolding Among all
among_all f x [] m h = absurd m
among_all f x (y ∷ ys) m h =
    let u = and_both (f y) (all f ys) h in
    ⊎_elim (λ (e : x ≡ y). ap f e ∙ u.0) (λ r. among_all f x ys r u.1) m

-- a test that it meets is met by some
among_any : (f : Record → Bool) (x : Record) (xs : List Record) → Among x xs → f x ≡ true → any f xs ≡ true
unfolding Among any
among_any f x [] m h = absurd m
among_any f x (y ∷ ys) m h =
    ⊎_elim (λ (e : x ≡ y). rw (sym (ap f e) ∙ h)) (λ r. or_right (f y) (any f ys) (among_any f x ys r h)) m

-- one that stands between others
among_split : (x : Record) (xs ys zs : List Record) → zs ≡ xs ++ x ∷ ys → Among x zs
unfolding Among
among_split x [] ys zs q = rw q (inl refl)
among_split x (y ∷ xs) ys zs q = rw q (inr (among_split x xs ys (xs ++ x ∷ ys) refl))

-- of distinct records two that clash are one
distinct_one : (x y : Record) (zs : List Record) → Distinct zs → Among x zs → Among y zs → clashes x y ≡ true → x ≡ y
unfolding Among Distinct
distinct_one x y [] d m n c = absurd m
distinct_one x y (z ∷ zs) d m n c =
    ⊎_elim
    (λ (e : x ≡ z).
    ⊎_elim
    (λ (f : y ≡ z). e ∙ sym f)
    (λ k. absurd (never_both_tests (sym (among_any (clashes z) y zs k (sym (ap (λ (w : Record). clashes w y) e) ∙ c)) ∙ d.0)))
    n)
    (λ k.
    ⊎_elim
    (λ (f : y ≡ z).
    absurd (never_both_tests (sym (among_any (clashes z) x zs k (sym (ap (λ (w : Record). clashes w x) f) ∙ clash_turned y x ∙ c)) ∙ d.0)))
    (λ j. distinct_one x y zs d.1 k j c)
    n)
    m

-- ## What has arrived

-- an arrival that stands under a ledger is of its kind
arrival_kind : (l : Ledger) (x : Record) → is_receiving x.kind ≡ true → stands_under l x ≡ true → x.kind ≡ Receiving l
unfolding stands_under
arrival_kind l x q s = by l x.kind q s
  where
    by : (l : Ledger) (k : Kind) → is_receiving k ≡ true → same_ledger l (ledger_of k) ≡ true → k ≡ Receiving l
    by l (Local m) q s = absurd (never_both_tests (sym q))
    by l (Sending m) q s = absurd (never_both_tests (sym q))
    by Home (Receiving Home) q s = refl
    by Home (Receiving Far) q s = absurd (never_both_tests (sym s))
    by Far (Receiving Home) q s = absurd (never_both_tests (sym s))
    by Far (Receiving Far) q s = refl

-- an arrival with the number of a sending is its own
pub arrived_is_own : ArrivedIsOwn
unfolding ArrivedIsOwn receiving_of matched
arrived_is_own capacity v ok l r x k there here q n =
    let f = accepts_facts capacity v ok in
    let own = (state_of l v.pair).passed in
    let facts = f.ledgers (counterpart l) in
    let twice = counterpart_twice l in
    let m : any (matches x) own ≡ true =
    rw (q, twice) at (among_all (matched _) x _ here facts.clean.receivings) in
    let w = any_split (matches x) own m in
    let y = w.1 in
    let s = matches_matched x y w.4 in
    let same : y ≡ r =
    distinct_one y r own (f.ledgers l).clean.distinct (among_split y w.0 w.2 own w.3) there
    (class_clash y r (sent_not y.kind s.sending ∙ sym (sent_not r.kind (ap is_sending k))) (sym s.number ∙ n)) in
    let kind = arrival_kind (counterpart l) x q (among_all _ x _ here facts.stand) in
    let signed = (held_allowed_lem _ x (among_all _ x _ here facts.allowed)).0.signed in
    let sender = s.sender ∙ ap (λ (z : Record). z.sender) same in
    let receiver = s.receiver ∙ ap (λ (z : Record). z.receiver) same in
    let amount = s.amount ∙ ap (λ (z : Record). z.amount) same in
    λ i. record { kind = kind i; sender = sender i; receiver = receiver i; number = n i; amount = amount i; verified = signed i }

-- ## What is in flight

-- its arrival passes the rules
pub nothing_stranded : NothingStranded
unfolding NothingStranded receiving_of Passable
nothing_stranded capacity v ok l r fly =
    let f = accepts_facts capacity v ok in
    let e = receiving_of l r in
    let own = (state_of l v.pair).passed in
    let twice = counterpart_twice l in
    let held = (held_allowed_lem _ r (among_all _ r own fly.passed (f.ledgers l).allowed)).0 in
    none_judge v.pair e (Receiving (counterpart l)) refl (
      record {
        sender_open = rw twice (rw fly.sends at held.sender_open);
        receiver_open = rw fly.sends at held.receiver_open;
        signed = refl;
        fresh = clash_arrived e (state_of (counterpart l) v.pair).passed refl ∙ fly.not_arrived;
      },
      rw twice
          (among_any (matches e) r own fly.passed
          (matched_matches e r
          (record { sending = ap is_sending fly.sends; number = refl; sender = refl; receiver = refl; amount = refl }))),
    )

-- a sending in flight can be read, where its number has 64 bits
pub flying_readable : (capacity : ℕ) (v : PairView) → pair_accepts capacity v ≡ true → (l : Ledger) (r : Record) → r.number < 2 ^ 64
    → Flying l (state_of l v.pair).passed (state_of (counterpart l) v.pair).passed r → Readable r
unfolding count_allowed All
flying_readable capacity v ok l r fits fly =
    let f = accepts_facts capacity v ok in
    let held = held_allowed_lem _ r (among_all _ r _ fly.passed (f.ledgers l).allowed) in
    let few : (m : Ledger) → length (state_of m v.pair).balances ≤ account_limit =
    λ m. leb-true _ _ (every_all _ (f.ledgers m).count).1.0 in
    record {
      fits =
          record {
            sender_fits = omega (arith, held.0.sender_open, few (sender_ledger r.kind));
            receiver_fits = omega (arith, held.0.receiver_open, few (receiver_ledger r.kind));
            number_fits = fits;
            amount_fits = omega (arith, held.1.1);
          };
      amount_some = held.1.0;
      amount_most = held.1.1;
    }
