-- `is_count_allowed` meets its contract. Assumes nothing.
use Rattle.wire.proofs.Prelude.{◌∙◌, arith, le-ltb, lt-ltb, sym}
use Rattle.rules.specs.PairValidator.{count_allowed}
use Rattle.wire.proofs.Lists.{every_not, every_one, every_skip}
use Rattle.places.proofs.balances.is_count_allowed.Goals as goal

pub returns-then-n-eq0 : goal.returns-then-n-eq0
unfolding count_allowed
returns-then-n-eq0 c = sym (every_not 0 _ (le-ltb 0 c.args.n (omega arith)))

pub returns : goal.returns
unfolding count_allowed
returns c = sym (every_skip _ _ (lt-ltb 0 c.args.n (omega arith)) ∙ every_one _)
