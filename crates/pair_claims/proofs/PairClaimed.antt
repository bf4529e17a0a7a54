-- The claims about the pair validator's calls: runs over the program's states are runs over the rules' states. Assumes nothing.
use Rattle.wire.proofs.Prelude.{List, ◌+◌, ◌-◌, ◌∙◌, ◌≡◌, ◌≤◌, ap, arith, dichotomy, inl, inr, leb, leb-false, leb-true, length, refl, subst}
use Rattle.wire.proofs.Prelude.{sym, true, ℕ}
use native.Mathlib.Decide.{ℕ_discrete}
use Rattle.ledgers.specs.Ledgers.{counterpart, ledger_byte, ledger_of}
use Rattle.ledgers.specs.Limits.{capacity}
use Rattle.pair_claims.specs.Claims.{PairCallsAsRules, PairFullWhenNoneLeft, PairHeldAccountsOpen, PairInPlaceAsByValue}
use Rattle.pair_claims.specs.Claims.{PairListsAndRefusals, PairNothingStranded, PairOpenedAsRules, PairPlacesLeft}
use Rattle.pair_claims.specs.Claims.{PairChargesPaid, PairFarSendingsFree, PairRunsInPlaceAsByValue, PairRunsStrandNothing, PairSendingsCostExactly}
use Rattle.pair_claims.specs.Claims.{PairStatesConserved, PairStatesFollowRules, PairStatesStayAccepted, PairTellsAccount}
use Rattle.pair_claims.specs.Claims.{PairThreeExactly, PairZeroRefused, left_on, pair_passed_of_run, pair_places_left, pair_state_of_run}
use Rattle.pair_core.proofs.Accept.{sound_accepts, sound_of}
use Rattle.pair_core.proofs.Ledgers.{byte_below, length_held, state_on}
use Rattle.pair_core.proofs.Opened.{opened_sound, opened_view, zero_refused}
use Rattle.pair_core.proofs.Passing.{next_of}
use Rattle.pair_core.specs.Layout.{accepts_pair, pair_words_checker}
use Rattle.pair_validator.specs.State.{pair_checker, pair_opened_state, pair_view_of_state, pair_zero_state}
use Rattle.pair_validator.specs.declared.PairValidator.{PairValidator}
use Rattle.records.specs.Records.{encoding, reading}
use Rattle.rules.proofs.Accounts.{held_open, pair_tells}
use Rattle.rules.proofs.Arrivals.{flying_readable, nothing_stranded}
use Rattle.rules.proofs.ListCalls.{lists_in_turn}
use Rattle.rules.proofs.NeverThree.{never_3, pair_never_3}
use Rattle.rules.proofs.PairAccepted.{accepts_facts}
use Rattle.rules.proofs.PairConserved.{conserved}
use Rattle.rules.proofs.PairRules.{as_the_rules}
use Rattle.rules.proofs.Parts.{call_unaccepted}
use Rattle.rules.proofs.Refusals.{full_room, pair_read}
use Rattle.rules.proofs.RunBytes.{among_readable, arrival_reads, passed_bytes}
use Rattle.rules.proofs.Runs.{call_in_turn, never_both, one_passed, one_refused, refused_unaltered}
use Rattle.rules.proofs.Simulation.{Agree, RunsAs, agree_call, simulation}
use Rattle.rules.proofs.Charges.{pair_accounts_add_up, pair_sendings_cost}
use Rattle.rules.specs.Arrivals.{Flying, NothingStranded, receiving_of}
use Rattle.rules.specs.Calls.{Call, InTurn, call, call_one, one, records_on, run}
use Rattle.rules.specs.Charges.{AccountsAddUp, PairAccountsAddUp, PairSendingsCost, SendingCosts}
use Rattle.rules.specs.Lists.{total}
use Rattle.rules.specs.PairValidator.{AsTheRules, Conserved, PairView, in_flight_of, pair_opened, pair_opening_refusal, pair_validator}
use Rattle.table.specs.Table.{ledger_in}
use Rattle.tariffs.proofs.Charges.{charge_free}
use Rattle.rules.specs.Rules.{Far, Home, Ledger, PairState, Tariff, after, after_bytes, after_reading, in_flight, judge_bytes, opened, state_of}

-- ## The program's states follow the rules' states

-- a state that the program accepts
abbrev Accepted : PairValidator → Type 0
Accepted s = accepts_pair s.words ≡ true

-- both accept
same_accepts : (s : PairValidator) → Accepted s → pair_checker.accepts s ≡ (pair_validator capacity).accepts (pair_view_of_state s)
same_accepts s a = a ∙ sym (sound_of s.words a).accepted

-- both judge alike
same_judge : (s : PairValidator) (b : List ℕ) → Accepted s
    → pair_checker.judge s b ≡ (pair_validator capacity).judge (pair_view_of_state s) b
same_judge s b a = refl

-- both go on alike
same_after : (s : PairValidator) (b : List ℕ) → Accepted s → pair_checker.judge s b ≡ 0
    → Accepted (pair_checker.after s b)
    × (pair_view_of_state (pair_checker.after s b) ≡ (pair_validator capacity).after (pair_view_of_state s) b)
unfolding after_bytes
same_after s b a j =
    let x = pair_read capacity (pair_view_of_state s).pair (reading b) j in
    let n = next_of s.words a b x.0 x.1 (rw x.1 at j) in
    rw x.1 (n.accepted, n.view)

-- a call
agrees : (s : PairValidator) (d : Call) → Accepted s
    → Agree pair_checker (pair_validator capacity) pair_view_of_state Accepted same_accepts same_judge same_after (call pair_checker s d)
    (call (pair_validator capacity) (pair_view_of_state s) d)
agrees s d a = agree_call pair_checker (pair_validator capacity) pair_view_of_state Accepted same_accepts same_judge same_after s d a

-- an opening
pub pair_opened_as_rules : PairOpenedAsRules
unfolding PairOpenedAsRules
pair_opened_as_rules = opened_view

-- any call
pub pair_calls_as_rules : PairCallsAsRules
unfolding PairCallsAsRules
pair_calls_as_rules s a d = let g = agrees s d a in (g.answers, g.states)

-- a call in place
pub pair_in_place_as_by_value : PairInPlaceAsByValue
unfolding PairInPlaceAsByValue
pair_in_place_as_by_value s d =
    let g = agree_call pair_checker pair_words_checker (λ (x : PairValidator). x.words) (λ (x : PairValidator). Unit {0}) (λ x i. refl)
    (λ x b i. refl) (λ x b i j. (tt, refl)) s d tt in
    (sym g.answers, sym g.states)

-- a run of them
pub pair_runs_in_place_as_by_value : PairRunsInPlaceAsByValue
unfolding PairRunsInPlaceAsByValue
pair_runs_in_place_as_by_value s ds =
    let f = simulation pair_checker pair_words_checker (λ (x : PairValidator). x.words) (λ (x : PairValidator). Unit {0}) (λ x i. refl)
    (λ x b i. refl) (λ x b i j. (tt, refl)) ds s s.words refl tt in
    (sym f.states, sym f.records)

-- no judgement is 3
judge_never_3 : (s : PairValidator) (b : List ℕ) → pair_checker.judge s b ≡ 3 → ⊥
judge_never_3 s b = pair_never_3 capacity (pair_view_of_state s).pair (reading b)

-- 3 exactly where it is due
pub pair_three_exactly : PairThreeExactly
unfolding PairThreeExactly
pair_three_exactly s d = (λ h. call_unaccepted pair_checker s d h, λ h. never_3 pair_checker judge_never_3 s h d)

-- ## Demand 2

-- in every accepted state the program answers as the rules do
pub pair_states_follow_rules : PairStatesFollowRules
unfolding PairStatesFollowRules AsTheRules InTurn judge_bytes
pair_states_follow_rules s a b =
    let rules = as_the_rules capacity (pair_view_of_state s) (sound_of s.words a).accepted b in
    record {
      unreadable = λ q. one_refused pair_checker s b 20 a (rw q);
      passes_when = λ r q. rw (agrees s (one b) a).answers (rules.passes_when r q);
      refuses_as = λ n h. one_refused pair_checker s b n a (rw h);
      refuses_full = λ r q j f. one_refused pair_checker s b 40 a (rw q (simp (j, full_room)));
      gives = λ h. let j = (call_in_turn pair_checker s (one b) h).0 in rw (one_passed pair_checker s b a j) (same_after s b a j).1;
    }

-- 22 and 51 tell the account
pub pair_tells_account : PairTellsAccount
unfolding PairTellsAccount call call_one
pair_tells_account s a b r q = rw (a, q) (pair_tells capacity (pair_view_of_state s).pair r)

-- held records have both accounts open
pub pair_held_accounts_open : PairHeldAccountsOpen
unfolding PairHeldAccountsOpen
pair_held_accounts_open s a l =
    held_open _ _ ((accepts_facts capacity (pair_view_of_state s) (sound_of s.words a).accepted).ledgers l).allowed

-- nothing is stranded
pub pair_nothing_stranded : PairNothingStranded
unfolding PairNothingStranded PairStatesFollowRules NothingStranded receiving_of
pair_nothing_stranded s a l r fits fly =
    let e = receiving_of l r in
    let ok = (sound_of s.words a).accepted in
    let reads = arrival_reads l r (flying_readable capacity (pair_view_of_state s) ok l r fits fly) in
    let f = pair_states_follow_rules s a (encoding e) in
    let j = nothing_stranded capacity (pair_view_of_state s) ok l r fly in
    record { reads = reads; passes = λ room. (f.passes_when e reads).1 (j, room); full = λ full. f.refuses_full e reads j full }

-- what a sending costs
pub pair_sendings_cost_exactly : PairSendingsCostExactly
unfolding PairSendingsCostExactly PairSendingsCost PairStatesFollowRules after_bytes
pair_sendings_cost_exactly s a b l r q k h =
    let f = pair_states_follow_rules s a b in
    let ok = (sound_of s.words a).accepted in
    let p = (pair_view_of_state s).pair in
    let e : (pair_view_of_state (call pair_checker s (one b)).state).pair ≡ after p r =
    ap (λ (v : PairView). v.pair) (f.gives h) ∙ ap (after_reading p) q in
    subst (λ (x : PairState). SendingCosts (state_of l p) (state_of l x) r) (sym e)
    (pair_sendings_cost capacity (pair_view_of_state s) ok l r k ((f.passes_when r q).0 h).0)

-- what a far sending costs
pub pair_far_sendings_free : PairFarSendingsFree
unfolding PairFarSendingsFree PairSendingsCostExactly ledger_in
pair_far_sendings_free s a b r q k h =
    let c = pair_sendings_cost_exactly s a b Far r q k h in
    let z = charge_free r.amount in (
      elim (ℕ_discrete r.sender 0) [
        | yes p ↦ c.pays_itself p
        | no p ↦ omega (arith, z, c.pays p)
      ],
      (λ i n.
          elim (ℕ_discrete i 0) [
            | yes p ↦ let m : r.sender ≡ 0 → ⊥ = λ e. n (p ∙ sym e) in rw p (omega (arith, z, c.paid m))
            | no p ↦ c.others i n p
          ]),
    )

-- lists in turn, and refusals
pub pair_lists_and_refusals : PairListsAndRefusals
unfolding PairListsAndRefusals
pair_lists_and_refusals = (lists_in_turn pair_checker, refused_unaltered pair_checker)

-- accepted states stay accepted
pub pair_states_stay_accepted : PairStatesStayAccepted
unfolding PairStatesStayAccepted
pair_states_stay_accepted s a d = (agrees s d a).invariant

-- ## Demand 3, first half

-- a run over the program's states is one over the rules' states
as_rules_run : (tariff : Tariff) (homes fars : List ℕ) → pair_opening_refusal tariff homes fars ≡ 0 → (ds : List Call)
    → RunsAs pair_checker (pair_validator capacity) pair_view_of_state Accepted same_accepts same_judge same_after
    (pair_opened_state tariff homes fars) (pair_opened tariff homes fars) ds
as_rules_run tariff homes fars ok ds =
    let opening = pair_opened_state tariff homes fars in
    simulation pair_checker (pair_validator capacity) pair_view_of_state Accepted same_accepts same_judge same_after ds opening
    (pair_opened tariff homes fars) (opened_view tariff homes fars ok) (sound_accepts opening.words (opened_sound tariff homes fars ok))

-- after every run
pub pair_states_conserved : PairStatesConserved
unfolding PairStatesConserved Conserved
pair_states_conserved tariff homes fars ok ds =
    let f = as_rules_run tariff homes fars ok ds in
    let c = conserved capacity tariff homes fars ok ds in
    let t = pair_state_of_run tariff homes fars ds in
    let p = pair_passed_of_run tariff homes fars ds in
    let n : in_flight (pair_view_of_state t).pair ≡ in_flight_of p =
    ap (λ (x : PairView). in_flight x.pair) f.states ∙ rw f.records c.figure in
    record {
      conserved =
          ap (λ (x : PairView). total x.pair.home.balances + total x.pair.far.balances + in_flight_of p) f.states
          ∙ rw f.records c.conserved;
      figures = rw (f.invariant, n);
      as_rules = f.states;
      supply_same = ap (λ (x : PairView). x.supply) f.states ∙ c.supply_same;
      tables = λ l. ap (λ (x : PairView). (state_of l x.pair).passed) f.states ∙ rw f.records (c.tables l);
      accepted = f.invariant;
      never_3 = never_3 pair_checker judge_never_3 t f.invariant;
    }

-- no run strands a sending
pub pair_runs_strand_nothing : PairRunsStrandNothing
unfolding PairRunsStrandNothing PairStatesConserved PairNothingStranded
pair_runs_strand_nothing tariff homes fars ok ds by l r fly =
    let s = pair_state_of_run tariff homes fars ds in
    let c = pair_states_conserved tariff homes fars ok ds in
    let other = c.tables (counterpart l) in
    let fits = (among_readable l r _ (passed_bytes pair_checker (pair_opened_state tariff homes fars) ds by) fly.passed).fits.number_fits in
    let here : Flying l (state_of l (pair_view_of_state s).pair).passed (state_of (counterpart l) (pair_view_of_state s).pair).passed r =
    record { sends = fly.sends; passed = rw (c.tables l) fly.passed; not_arrived = rw other fly.not_arrived } in
    rw other at (pair_nothing_stranded s c.accepted l r fits here)

-- every account adds up
pub pair_charges_paid : PairChargesPaid
unfolding PairChargesPaid PairAccountsAddUp
pair_charges_paid tariff homes fars ok ds l =
    let f = as_rules_run tariff homes fars ok ds in
    let start = state_of l (opened tariff homes fars) in
    subst (λ (x : PairView). AccountsAddUp start (state_of l x.pair) (records_on l (pair_passed_of_run tariff homes fars ds))) (sym f.states)
    (subst (λ (bs : List (List ℕ)). AccountsAddUp start (state_of l (run (pair_validator capacity) (pair_opened tariff homes fars) ds).pair)
    (records_on l bs)) (sym f.records) (pair_accounts_add_up capacity tariff homes fars ok ds l))

-- a refused opening's state is refused by every call
pub pair_zero_is_refused : PairZeroRefused
unfolding PairZeroRefused
pair_zero_is_refused d = call_unaccepted pair_checker pair_zero_state d zero_refused

-- ## The places left

-- those of a ledger, of an accepted state
left_is : (s : PairValidator) → Accepted s → (l : Ledger)
    → left_on l (pair_places_left s) ≡ capacity - length (state_of l (pair_view_of_state s).pair).passed
left_is s a Home = rw a
left_is s a Far = rw a

-- no ledger holds more than the capacity
held_within : (s : PairValidator) → Accepted s → (l : Ledger) → length (state_of l (pair_view_of_state s).pair).passed ≤ capacity
held_within s a l =
    rw (state_on s.words l, length_held s.words (ledger_byte l)) ((sound_of s.words a).bounds.room (ledger_byte l) (byte_below l))

-- after every run
pub pair_places_left_lem : PairPlacesLeft
unfolding PairPlacesLeft PairStatesConserved
pair_places_left_lem tariff homes fars ok ds =
    let s = pair_state_of_run tariff homes fars ds in
    let c = pair_states_conserved tariff homes fars ok ds in
    let a : Accepted s = c.accepted in
    record {
      told = rw a;
      with_passed = λ l. omega (arith, left_is s a l, ap length (c.tables l), held_within s a l);
    }

-- 41 exactly when no place is left
pub pair_full_when_none_left : PairFullWhenNoneLeft
unfolding PairFullWhenNoneLeft PairStatesFollowRules
pair_full_when_none_left s a b r q j =
    let f = pair_states_follow_rules s a b in
    let l = ledger_of r.kind in
    let n = length (state_of l (pair_view_of_state s).pair).passed in (
      (λ h.
          elim (dichotomy (leb capacity n)) [
            | inl e ↦ absurd (never_both 41 0 (sym ((f.passes_when r q).1 (j, leb-false capacity n e)) ∙ h))
            | inr e ↦ omega (arith, left_is s a l, leb-true capacity n e)
          ]),
      (λ e. rw (f.refuses_full r q j (omega (arith, e, left_is s a l)))),
    )
