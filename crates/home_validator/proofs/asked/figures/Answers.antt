-- `home_validator::asked::figures`: the pool is within the supply. Assumes nothing.
use Rattle.calls.proofs.Handing.{accepted_of}
use Rattle.home_validator.proofs.HomeTotals.{home_figures_passed, home_supply_shared}
use Rattle.wire.proofs.Prelude.{◌∙◌, arith, sym}
use Rattle.home_validator.proofs.asked.figures.Goals as goal

pub overflow_sub-result : goal.overflow_sub-result
overflow_sub-result c = omega (arith, home_supply_shared _ (accepted_of 2 c.accepts.ensures c.in_ok-refuse_if.ensures))

pub returns : goal.returns
returns c = home_figures_passed _ (accepted_of 2 c.accepts.ensures c.in_ok-refuse_if.ensures)
