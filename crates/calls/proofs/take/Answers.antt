-- `calls::take`: an unaccepted state is refused, and else the record's answer is the call's. Assumes nothing.
use Rattle.rules.proofs.Parts.{gives_one, gives_unaccepted}
use Rattle.rules.specs.Calls.{one}
use Rattle.calls.proofs.take.Goals as goal

pub returns-then-not-is_accepted-clause-answers : goal.returns-then-not-is_accepted-clause-answers
returns-then-not-is_accepted-clause-answers g c =
    (gives_unaccepted g.C.Core.checker c.args.words.now (one c.args.bytes.now) c.is_accepted.ensures.accepts c.if-not-is_accepted.true).0

pub returns-then-not-is_accepted-clause-leaves : goal.returns-then-not-is_accepted-clause-leaves
returns-then-not-is_accepted-clause-leaves g c =
    (gives_unaccepted g.C.Core.checker c.args.words.now (one c.args.bytes.now) c.is_accepted.ensures.accepts c.if-not-is_accepted.true).1

pub returns-clause-answers : goal.returns-clause-answers
returns-clause-answers g c =
    (gives_one g.C.Core.checker c.args.words.now c.args.bytes.now c.is_accepted.ensures.accepts c.if-not-is_accepted.false
    c.step.ensures.answers c.answer_at.ensures c.step.ensures.leaves).0

pub returns-clause-leaves : goal.returns-clause-leaves
returns-clause-leaves g c =
    (gives_one g.C.Core.checker c.args.words.now c.args.bytes.now c.is_accepted.ensures.accepts c.if-not-is_accepted.false
    c.step.ensures.answers c.answer_at.ensures c.step.ensures.leaves).1
