-- A call over the state is the call over its words. Assumes nothing.
use Rattle.wire.proofs.Prelude.{List, ◌∙◌, ◌≡◌, ap, refl, sym, ℕ}
use Rattle.answers.specs.Answers.{Answer}
use Rattle.home_core.specs.Layout.{home_words_checker}
use Rattle.home_validator.specs.State.{home_checker}
use Rattle.home_validator.specs.declared.HomeValidator.{HomeValidator}
use Rattle.rules.proofs.Simulation.{agree_call}
use Rattle.rules.specs.Calls.{Call, call}

-- what is answered and left of the words is answered and left of the state
pub state_called : (s : HomeValidator) (d : Call) (a : Answer) (t : List ℕ) → a ≡ (call home_words_checker s.words d).answer
    → t ≡ (call home_words_checker s.words d).state
    → (a ≡ (call home_checker s d).answer) × (◌≡◌ {A = HomeValidator} (record { words = t }) (call home_checker s d).state)
state_called s d a t p q =
    let g = agree_call home_checker home_words_checker (λ (x : HomeValidator). x.words) (λ (x : HomeValidator). Unit {0}) (λ x i. refl)
    (λ x b i. refl) (λ x b i j. (tt, refl)) s d tt in
    (p ∙ sym g.answers, ap {B = HomeValidator} (λ (w : List ℕ). record { words = w }) (q ∙ sym g.states))
