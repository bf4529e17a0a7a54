-- `home_validator::HomeValidator::open`: the opening over the words is that of the state. Assumes nothing.
use Rattle.home_core.specs.Layout.{home_opened_words, home_zero_words}
use Rattle.home_validator.specs.declared.HomeValidator.{HomeValidator}
use Rattle.places.proofs.Openings.{opening_in}
use Rattle.rules.specs.HomeValidator.{home_opening_refusal}
use Rattle.wire.proofs.Prelude.{List, ◌∙◌, ap, refl, ℕ}
use Rattle.home_validator.proofs.HomeValidator.open.Goals as goal

pub open-judged-requires : goal.open-judged-requires
unfolding home_zero_words
open-judged-requires c = refl

pub returns-clause-hands_back : goal.returns-clause-hands_back
returns-clause-hands_back c =
    let a = c.args in
    ap {B = HomeValidator} (λ (w : List ℕ). record { words = w }) c.open-judged.ensures.leaves
    ∙ opening_in {B = HomeValidator} (λ (w : List ℕ). record { words = w })
    (home_opening_refusal a.tariff a.balances.now a.far_accounts a.far_total)
    (home_opened_words a.tariff a.balances.now a.far_accounts a.far_total) home_zero_words
