-- `home_validator::asked::places_left`: the held records are within the capacity. Assumes nothing.
use Rattle.calls.proofs.Handing.{accepted_of}
use Rattle.home_validator.proofs.HomeTotals.{home_held_fits, home_places_passed}
use Rattle.wire.proofs.Prelude.{◌∙◌, arith, sym}
use Rattle.home_validator.proofs.asked.places_left.Goals as goal

pub overflow_sub-result : goal.overflow_sub-result
overflow_sub-result c = omega (arith, home_held_fits _ (accepted_of 2 c.accepts.ensures c.in_ok-refuse_if.ensures))

pub returns : goal.returns
returns c = home_places_passed _ (accepted_of 2 c.accepts.ensures c.in_ok-refuse_if.ensures)
