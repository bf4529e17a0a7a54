-- Words that are too few, too many or not in bounds are refused. Assumes nothing.
use Rattle.std.proofs.Common.{◌∙◌, sym}
use Rattle.pair_core.proofs.is_accepted.Goals as goal
use Rattle.pair_core.specs.Layout.{accepts_pair}
use Rattle.wire.proofs.Lists.{every_not}
use Rattle.wire.proofs.Prelude.{ne_eqb}

pub returns-in_default-clause-accepts : goal.returns-in_default-clause-accepts
unfolding accepts_pair
returns-in_default-clause-accepts c = sym (every_not 0 _ (ne_eqb _ _ c.in_default.ensures.cases))

pub returns-in_default-of-clause-accepts : goal.returns-in_default-of-clause-accepts
unfolding accepts_pair
returns-in_default-of-clause-accepts c =
    sym (every_not 1 _ (sym (rw c.in-Some.ensures.cases.same at c.in_default-of.ensures.answers)))

pub returns-clause-accepts : goal.returns-clause-accepts
returns-clause-accepts c =
    rw (c.in-Some-of.ensures.keeps ∙ c.in-Some.ensures.cases.same) at c.is_accepted.ensures.accepts

pub returns-clause-ready : goal.returns-clause-ready
returns-clause-ready c =
    rw (c.in-Some-of.ensures.keeps ∙ c.in-Some.ensures.cases.same) at c.is_accepted.ensures.ready
