-- Demand 2: in every state that it accepts the pair validator answers as the rules do. Assumes nothing.
use Rattle.answers.proofs.Answers.{or_else_zero}
use Rattle.rules.proofs.Refusals.{full_room, none_room, room_none}
use Rattle.rules.proofs.Runs.{call_in_turn, one_passed, one_refused, refused_unaltered}
use Rattle.rules.specs.Calls.{InTurn, RefusedUnaltered, one}
use Rattle.rules.specs.PairValidator.{AsTheRules, pair_validator}
use Rattle.rules.specs.Rules.{judge, judge_bytes}

-- demand 2, its first half
pub as_the_rules : AsTheRules
unfolding AsTheRules judge_bytes RefusedUnaltered InTurn
as_the_rules capacity v ok b =
    let c = pair_validator capacity in
    record {
      unreadable = λ q. rw (one_refused c v b 20 ok (rw q));
      passes_when = λ r q. (
        (λ h.
            let o = or_else_zero (judge v.pair r) _ (rw q at (call_in_turn c v (one b) h).0) in
            (o.0, room_none capacity _ o.1)),
        (λ h. rw (one_passed c v b ok (rw q (simp (h.0, none_room, h.1))))),
      );
      refuses_as = λ n h. rw (one_refused c v b n ok (rw h));
      refuses_full = λ r q j f. rw (one_refused c v b 40 ok (rw q (simp (j, full_room))));
      gives = λ h. rw (one_passed c v b ok (call_in_turn c v (one b) h).0);
      unaltered = refused_unaltered c v (one b);
    }
