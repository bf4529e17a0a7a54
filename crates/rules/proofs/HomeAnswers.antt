-- A call of the home validator with one record, in every state that it accepts. Assumes nothing.
use Rattle.rules.proofs.Refusals.{full_room, none_room}
use Rattle.rules.proofs.Runs.{one_passed, one_refused}
use Rattle.rules.specs.HomeValidator.{HomeAnswersAll, home_validator}

-- what holds of the call
pub home_answers : HomeAnswersAll
unfolding HomeAnswersAll
home_answers capacity v ok b =
    let c = home_validator capacity in
    record {
      unreadable = λ q. one_refused c v b 20 ok (rw q);
      refuses_as = λ r n q j. one_refused c v b n ok (rw (q, j));
      refuses_full = λ r q j f. one_refused c v b 40 ok (rw q (simp (j, full_room)));
      passes = λ r q j l. rw (one_passed c v b ok (rw q (simp (j, none_room))), q);
    }
