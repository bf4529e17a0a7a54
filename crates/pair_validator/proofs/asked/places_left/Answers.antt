-- The places left are the capacity less the records held. Assumes nothing.
use Rattle.calls.proofs.Handing.{accepted_of}
use Rattle.pair_validator.proofs.PairTotals.{pair_held_fits, pair_places_passed}
use Rattle.pair_validator.proofs.asked.places_left.Goals as goal
use Rattle.std.proofs.Common.{arith, sym, ◌∙◌}

pub overflow_sub-result : goal.overflow_sub-result
overflow_sub-result c =
    let s = c.args.state.words in
    omega (arith, pair_held_fits s (accepted_of 2 c.accepts.ensures c.in_ok-refuse_if.ensures) 0 (omega arith))

pub overflow_sub-result-2 : goal.overflow_sub-result-2
overflow_sub-result-2 c =
    let s = c.args.state.words in
    omega (arith, pair_held_fits s (accepted_of 2 c.accepts.ensures c.in_ok-refuse_if.ensures) 1 (omega arith))

pub returns : goal.returns
returns c = let s = c.args.state.words in pair_places_passed s (accepted_of 2 c.accepts.ensures c.in_ok-refuse_if.ensures)
