-- A call over the state is the call over its words. Assumes nothing.
use Rattle.wire.proofs.Prelude.{List, ◌∙◌, ◌≡◌, ap, refl, sym, ℕ}
use Rattle.answers.specs.Answers.{Answer}
use Rattle.pair_core.specs.Layout.{pair_words_checker}
use Rattle.pair_validator.specs.State.{pair_checker}
use Rattle.pair_validator.specs.declared.PairValidator.{PairValidator}
use Rattle.rules.proofs.Simulation.{agree_call}
use Rattle.rules.specs.Calls.{Call, call}

-- what is answered and left of the words is answered and left of the state
pub state_called : (s : PairValidator) (d : Call) (a : Answer) (t : List ℕ) → a ≡ (call pair_words_checker s.words d).answer
    → t ≡ (call pair_words_checker s.words d).state
    → (a ≡ (call pair_checker s d).answer) × (◌≡◌ {A = PairValidator} (record { words = t }) (call pair_checker s d).state)
state_called s d a t p q =
    let g = agree_call pair_checker pair_words_checker (λ (x : PairValidator). x.words) (λ (x : PairValidator). Unit {0}) (λ x i. refl)
    (λ x b i. refl) (λ x b i j. (tt, refl)) s d tt in
    (p ∙ sym g.answers, ap {B = PairValidator} (λ (w : List ℕ). record { words = w }) (q ∙ sym g.states))
