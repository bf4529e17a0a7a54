-- `calls::take_list`: an unaccepted state is refused, and else the list's answer is the call's. Assumes nothing.
use Rattle.wire.proofs.Prelude.{◌∙◌, refl}
use Rattle.rules.proofs.Parts.{gives_unaccepted}
use Rattle.rules.specs.Calls.{list}
use Rattle.calls.proofs.Handing.{handing_end, handing_first, handing_next, handing_refused}
use Rattle.calls.proofs.take_list.Goals as goal

pub returns-then-not-is_accepted-clause-answers : goal.returns-then-not-is_accepted-clause-answers
returns-then-not-is_accepted-clause-answers g c =
    (gives_unaccepted g.C.Core.checker c.args.words.now (list c.args.bytes.now) c.is_accepted.ensures.accepts c.if-not-is_accepted.true).0

pub returns-then-not-is_accepted-clause-leaves : goal.returns-then-not-is_accepted-clause-leaves
returns-then-not-is_accepted-clause-leaves g c =
    (gives_unaccepted g.C.Core.checker c.args.words.now (list c.args.bytes.now) c.is_accepted.ensures.accepts c.if-not-is_accepted.true).1

pub loop-i-init : goal.loop-i-init
loop-i-init g c =
    let a = c.is_accepted.ensures in
    rw (c.into_iter-i-iterator.ensures.into_iter_gives, c.enumerate-i-items.ensures.source, c.enumerate-i-items.ensures.count)
    (refl, c.chunks.ensures.size, handing_first a.accepts c.if-not-is_accepted.false a.ready c.chunks.ensures.rest)

pub returns-in-Err-clause-answers : goal.returns-in-Err-clause-answers
returns-in-Err-clause-answers g c =
    let k = c.in-Some.ensures.steps in
    let i = c.loop-i.invariant in
    rw k.1 (handing_refused i.2 c.in-Some.part.now c.next.new.self.iter.rest.now k.0.1.0 (rw i.1 at k.0.1.1) k.0.1.2 c.in-Err.refusal
    (rw c.in-Err.is at c.step.ensures.answers)).0

pub returns-in-Err-clause-leaves : goal.returns-in-Err-clause-leaves
returns-in-Err-clause-leaves g c =
    let k = c.in-Some.ensures.steps in
    let i = c.loop-i.invariant in
    (handing_refused i.2 c.in-Some.part.now c.next.new.self.iter.rest.now k.0.1.0 (rw i.1 at k.0.1.1) k.0.1.2 c.in-Err.refusal
    (rw c.in-Err.is at c.step.ensures.answers)).1

pub loop-i-preserved : goal.loop-i-preserved
loop-i-preserved g c =
    let k = c.in-Some.ensures.steps in
    let i = c.loop-i.invariant in
    let e = c.step.ensures in (
      refl,
      k.0.0 ∙ i.1,
      rw k.2 (handing_next i.2 c.in-Some.part.now c.next.new.self.iter.rest.now k.0.1.0 (rw i.1 at k.0.1.1) k.0.1.2
          (rw c.in_default.is at e.answers) e.leaves e.keeps),
    )

pub returns-clause-answers : goal.returns-clause-answers
returns-clause-answers g c = (handing_end c.loop-i.invariant.2 c.in-None.ensures.steps.0.1.0).0

pub returns-clause-leaves : goal.returns-clause-leaves
returns-clause-leaves g c = (handing_end c.loop-i.invariant.2 c.in-None.ensures.steps.0.1.0).1
