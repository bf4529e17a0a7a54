-- No call in an accepted state answers 3. Assumes nothing.
use Rattle.wire.proofs.Prelude.{List, ◌∙◌, ◌≡◌, refl, true, ℕ}
use Rattle.answers.specs.Answers.{answer}
use Rattle.answers.specs.Answers.{Refused}
use Rattle.rules.proofs.Numbers.{Other, other_numeral, others}
use Rattle.rules.proofs.Runs.{never_both, outcome, passes, refuses}
use Rattle.rules.specs.Calls.{Call, Checker, call}
use Rattle.rules.specs.HomeValidator.{HomeView, home_judge, home_judge_record, home_last_refusal, pool_refusal}
use Rattle.rules.specs.PairValidator.{pair_judge, room_refusal}
use Rattle.rules.specs.Rules.{Kind, Local, PairState, Read, Reading, Receiving, Sending, Unreadable, first_refusal, funds_refusal}
use Rattle.rules.specs.Rules.{judge, last_refusal, match_refusal}

-- ## A judgement that is never 3

-- the pair validator's
pub pair_never_3 : (capacity : ℕ) (p : PairState) (x : Reading) → pair_judge capacity p x ≡ 3 → ⊥
unfolding judge first_refusal funds_refusal match_refusal room_refusal Other
pair_never_3 capacity p Unreadable = other_numeral 3 21 refl
pair_never_3 capacity p (Read r) =
    let last : (k : Kind) → Other 3 (last_refusal p r k) =
    elim [ Local l ↦ search others | Sending l ↦ search others | Receiving l ↦ search others ] in
    search (others, last) depth 9

-- the home validator's
pub home_never_3 : (capacity : ℕ) (v : HomeView) (x : Reading) → home_judge capacity v x ≡ 3 → ⊥
unfolding home_judge_record first_refusal funds_refusal pool_refusal room_refusal Other
home_never_3 capacity v Unreadable = other_numeral 3 21 refl
home_never_3 capacity v (Read r) =
    let last : (k : Kind) → Other 3 (home_last_refusal v r k) =
    elim [ Local l ↦ search others | Sending l ↦ search others | Receiving l ↦ search others ] in
    search (others, last) depth 9

-- ## Calls

-- any call in an accepted state
pub never_3 : {S : Type 0} (c : Checker S) → ((s : S) (b : List ℕ) → c.judge s b ≡ 3 → ⊥)
    → (s : S) → c.accepts s ≡ true → (d : Call) (place : ℕ) → (call c s d).answer ≡ Refused 3 place → ⊥
never_3 c never s a d place h =
    elim (outcome c s d) [
      | passes it e ↦ never_both 3 place (cc)
      | refuses n p e w ↦ let z : n ≡ 3 = cc in never (w a).0 (w a).1 ((w a).2 ∙ z)
    ]
