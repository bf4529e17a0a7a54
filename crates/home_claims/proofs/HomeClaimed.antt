-- The claims about the home validator's calls: runs over the program's states are runs over the rules' states. Assumes nothing.
use Rattle.wire.proofs.Prelude.{List, ◌-◌, ◌∙◌, ◌≡◌, ap, arith, dichotomy, inl, inr, leb, leb-false, leb-true, length, refl, sym, true, ℕ}
use Rattle.answers.proofs.Answers.{or_else_zero}
use Rattle.home_claims.specs.Claims.{HomeCallsAsRules, HomeChargesPaid, HomeFullWhenNoneLeft, HomeHeldAccountsOpen}
use Rattle.home_claims.specs.Claims.{HomeInPlaceAsByValue, HomeListsAndRefusals, HomeOpenedAsRules, HomePlacesLeft}
use Rattle.home_claims.specs.Claims.{HomeRunsInPlaceAsByValue, HomeSendingsCostExactly, HomeStatesAnswer, HomeStatesStayAccepted}
use Rattle.home_claims.specs.Claims.{HomeStatesWithin, HomeTellsAccount, HomeThreeExactly, HomeZeroRefused, home_passed_of_run}
use Rattle.home_claims.specs.Claims.{home_places_left, home_state_of_run}
use Rattle.home_core.proofs.Accept.{length_held, sound_accepts, sound_of}
use Rattle.home_core.proofs.Opened.{opened_sound, opened_view, zero_refused}
use Rattle.home_core.proofs.Passing.{next_of}
use Rattle.home_core.specs.Layout.{accepts_home, home_words_checker, pool_of}
use Rattle.home_validator.specs.State.{home_checker, home_opened_state, home_view_of_state, home_zero_state}
use Rattle.home_validator.specs.declared.HomeValidator.{HomeValidator}
use Rattle.ledgers.specs.Limits.{capacity}
use Rattle.ledgers.specs.declared.Ledger.TheVariants.{Home}
use Rattle.records.specs.Records.{reading}
use Rattle.rules.proofs.Accounts.{held_open, home_tells}
use Rattle.rules.proofs.Charges.{home_accounts_add_up, home_sendings_cost}
use Rattle.rules.proofs.HomeAccepted.{home_accepts_facts}
use Rattle.rules.proofs.HomeExactly.{exactly_when_possible}
use Rattle.rules.proofs.HomePool.{within_pool}
use Rattle.rules.proofs.ListCalls.{lists_in_turn}
use Rattle.rules.proofs.NeverThree.{home_never_3, never_3}
use Rattle.rules.proofs.Parts.{call_unaccepted}
use Rattle.rules.proofs.Refusals.{full_room, home_read, none_room}
use Rattle.rules.proofs.Runs.{call_in_turn, never_both, one_passed, one_refused, refused_unaltered}
use Rattle.rules.proofs.Simulation.{Agree, RunsAs, agree_call, simulation}
use Rattle.rules.specs.Calls.{Call, InTurn, call, call_one, one, records_on}
use Rattle.rules.specs.Charges.{HomeAccountsAddUp, HomeSendingsCost}
use Rattle.rules.specs.HomeValidator.{ExactlyWhenPossible, HomeView, WithinPool, far_pool_of, home_after, home_judge_record, home_opened}
use Rattle.rules.specs.HomeValidator.{home_opening_refusal, home_validator}
use Rattle.tariffs.specs.declared.Tariff.{Tariff}

-- ## The program's states follow the rules' states

-- a state that the program accepts
abbrev Accepted : HomeValidator → Type 0
Accepted s = accepts_home s.words ≡ true

-- both accept
same_accepts : (s : HomeValidator) → Accepted s → home_checker.accepts s ≡ (home_validator capacity).accepts (home_view_of_state s)
same_accepts s a = a ∙ sym (sound_of s.words a).accepted

-- both judge alike
same_judge : (s : HomeValidator) (b : List ℕ) → Accepted s
    → home_checker.judge s b ≡ (home_validator capacity).judge (home_view_of_state s) b
same_judge s b a = refl

-- both go on alike
same_after : (s : HomeValidator) (b : List ℕ) → Accepted s → home_checker.judge s b ≡ 0
    → Accepted (home_checker.after s b)
    × (home_view_of_state (home_checker.after s b) ≡ (home_validator capacity).after (home_view_of_state s) b)
same_after s b a j =
    let x = home_read capacity (home_view_of_state s) (reading b) j in
    let n = next_of s.words a b x.0 x.1 (rw x.1 at j) in
    rw x.1 (n.accepted, n.view)

-- a call
agrees : (s : HomeValidator) (d : Call) → Accepted s
    → Agree home_checker (home_validator capacity) home_view_of_state Accepted same_accepts same_judge same_after (call home_checker s d)
    (call (home_validator capacity) (home_view_of_state s) d)
agrees s d a = agree_call home_checker (home_validator capacity) home_view_of_state Accepted same_accepts same_judge same_after s d a

-- an opening
pub home_opened_as_rules : HomeOpenedAsRules
unfolding HomeOpenedAsRules
home_opened_as_rules = opened_view

-- any call
pub home_calls_as_rules : HomeCallsAsRules
unfolding HomeCallsAsRules
home_calls_as_rules s a d = let g = agrees s d a in (g.answers, g.states)

-- a call in place
pub home_in_place_as_by_value : HomeInPlaceAsByValue
unfolding HomeInPlaceAsByValue
home_in_place_as_by_value s d =
    let g = agree_call home_checker home_words_checker (λ (x : HomeValidator). x.words) (λ (x : HomeValidator). Unit {0}) (λ x i. refl)
    (λ x b i. refl) (λ x b i j. (tt, refl)) s d tt in
    (sym g.answers, sym g.states)

-- a run of them
pub home_runs_in_place_as_by_value : HomeRunsInPlaceAsByValue
unfolding HomeRunsInPlaceAsByValue
home_runs_in_place_as_by_value s ds =
    let f = simulation home_checker home_words_checker (λ (x : HomeValidator). x.words) (λ (x : HomeValidator). Unit {0}) (λ x i. refl)
    (λ x b i. refl) (λ x b i j. (tt, refl)) ds s s.words refl tt in
    (sym f.states, sym f.records)

-- no judgement is 3
judge_never_3 : (s : HomeValidator) (b : List ℕ) → home_checker.judge s b ≡ 3 → ⊥
judge_never_3 s b = home_never_3 capacity (home_view_of_state s) (reading b)

-- 3 exactly where it is due
pub home_three_exactly : HomeThreeExactly
unfolding HomeThreeExactly
home_three_exactly s d = (λ h. call_unaccepted home_checker s d h, λ h. never_3 home_checker judge_never_3 s h d)

-- ## A call with one record

-- in every accepted state the program answers as the rules do
pub home_states_answer : HomeStatesAnswer
unfolding HomeStatesAnswer InTurn
home_states_answer s a b =
    record {
      unreadable = λ q. one_refused home_checker s b 20 a (rw q);
      refuses_as = λ r n q j. one_refused home_checker s b n a (rw (q, j));
      refuses_full = λ r q j f. one_refused home_checker s b 40 a (rw q (simp (j, full_room)));
      passes = λ r q j l. rw (one_passed home_checker s b a (rw q (simp (j, none_room))));
      gives = λ r q h.
          let j = (call_in_turn home_checker s (one b) h).0 in
          rw (one_passed home_checker s b a j) ((same_after s b a j).1 ∙ ap (home_after (home_view_of_state s)) q);
    }

-- 22 and 51 tell the account
pub home_tells_account : HomeTellsAccount
unfolding HomeTellsAccount call call_one
home_tells_account s a b r q h = rw (a, q) (home_tells capacity (home_view_of_state s) r h)

-- held records have both accounts open
pub home_held_accounts_open : HomeHeldAccountsOpen
unfolding HomeHeldAccountsOpen
home_held_accounts_open s a =
    held_open _ _ (home_accepts_facts capacity (home_view_of_state s) (sound_of s.words a).accepted).allowed

-- what a sending costs
pub home_sendings_cost_exactly : HomeSendingsCostExactly
unfolding HomeSendingsCostExactly HomeSendingsCost HomeStatesAnswer InTurn
home_sendings_cost_exactly s a b r q k h =
    let j = (call_in_turn home_checker s (one b) h).0 in
    let n = (or_else_zero (home_judge_record (home_view_of_state s) r) _ (rw q at j)).0 in
    rw (ap (λ (x : HomeView). x.home) ((home_states_answer s a b).gives r q h))
    (home_sendings_cost capacity (home_view_of_state s) (sound_of s.words a).accepted r k n)

-- lists in turn, and refusals
pub home_lists_and_refusals : HomeListsAndRefusals
unfolding HomeListsAndRefusals
home_lists_and_refusals = (lists_in_turn home_checker, refused_unaltered home_checker)

-- accepted states stay accepted
pub home_states_stay_accepted : HomeStatesStayAccepted
unfolding HomeStatesStayAccepted
home_states_stay_accepted s a d = (agrees s d a).invariant

-- ## Demand 3, second half

-- a run from an accepted opening is the rules' run
runs_as : (tariff : Tariff) (homes : List ℕ) (fars far_total : ℕ) → home_opening_refusal tariff homes fars far_total ≡ 0 → (ds : List Call)
    → RunsAs home_checker (home_validator capacity) home_view_of_state Accepted same_accepts same_judge same_after
    (home_opened_state tariff homes fars far_total) (home_opened tariff homes fars far_total) ds
runs_as tariff homes fars far_total ok ds =
    let opening = home_opened_state tariff homes fars far_total in
    simulation home_checker (home_validator capacity) home_view_of_state Accepted same_accepts same_judge same_after ds opening
    (home_opened tariff homes fars far_total) (opened_view tariff homes fars far_total ok)
    (sound_accepts opening.words (opened_sound tariff homes fars far_total ok))

-- after every run
pub home_states_within : HomeStatesWithin
unfolding HomeStatesWithin WithinPool ExactlyWhenPossible
home_states_within tariff homes fars far_total ok ds =
    let f = runs_as tariff homes fars far_total ok ds in
    let t = home_state_of_run tariff homes fars far_total ds in
    let w = within_pool capacity tariff homes fars far_total ok ds in
    let pool : pool_of t.words ≡ far_pool_of far_total (records_on Home (home_passed_of_run tariff homes fars far_total ds)) =
    ap (λ (x : HomeView). x.far_pool) f.states ∙ rw f.records w.figure in
    record {
      exactly = λ bytes d db home most split l q.
          rw ((agrees t d f.invariant).answers ∙ ap (λ (x : HomeView). (call (home_validator capacity) x d).answer) f.states, f.records)
          (exactly_when_possible capacity (omega arith) tariff homes fars far_total ok ds bytes d db home (rw f.records at most) split l q);
      bounded = λ xs ys e. w.bounded xs ys (sym f.records ∙ e);
      each = λ xs ys b r e. w.each xs ys b r (sym f.records ∙ e);
      figures = rw (f.invariant, pool);
      as_rules = f.states;
      home_records = rw f.records w.home_records;
      table = ap (λ (x : HomeView). x.home.passed) f.states ∙ rw f.records w.table;
      accepted = f.invariant;
      never_3 = never_3 home_checker judge_never_3 t f.invariant;
    }

-- a refused opening's state is refused by every call
pub home_zero_is_refused : HomeZeroRefused
unfolding HomeZeroRefused
home_zero_is_refused d = call_unaccepted home_checker home_zero_state d zero_refused

-- ## The charges

-- the accounts after every run
pub home_charges_paid : HomeChargesPaid
unfolding HomeChargesPaid HomeAccountsAddUp
home_charges_paid tariff homes fars far_total ok ds =
    let f = runs_as tariff homes fars far_total ok ds in
    rw (ap (λ (x : HomeView). x.home) f.states, f.records) (home_accounts_add_up capacity tariff homes fars far_total ok ds)

-- ## The places left

-- those of an accepted state
left_is : (s : HomeValidator) → Accepted s → (home_places_left s).home ≡ capacity - length (home_view_of_state s).home.passed
left_is s a = rw a

-- after every run
pub home_places_left_lem : HomePlacesLeft
unfolding HomePlacesLeft HomeStatesWithin
home_places_left_lem tariff homes fars far_total ok ds =
    let s = home_state_of_run tariff homes fars far_total ds in
    let w = home_states_within tariff homes fars far_total ok ds in
    let room = (sound_of s.words w.accepted).bounds.room in
    record {
      told = rw w.accepted;
      with_passed = omega (arith, left_is s w.accepted, ap length w.table, length_held s.words, room);
    }

-- 41 exactly when no place is left
pub home_full_when_none_left : HomeFullWhenNoneLeft
unfolding HomeFullWhenNoneLeft HomeStatesAnswer
home_full_when_none_left s a b r q j =
    let f = home_states_answer s a b in
    let n = length (home_view_of_state s).home.passed in (
      (λ h.
          elim (dichotomy (leb capacity n)) [
            | inl e ↦ absurd (never_both 41 0 (sym (f.passes r q j (leb-false capacity n e)) ∙ h))
            | inr e ↦ omega (arith, left_is s a, leb-true capacity n e)
          ]),
      (λ e. rw (f.refuses_full r q j (omega (arith, e, left_is s a)))),
    )
