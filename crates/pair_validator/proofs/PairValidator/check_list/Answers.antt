-- A call over the state is the call over its words. Assumes nothing.
use Rattle.answers.specs.Answers.{answer_of}
use Rattle.pair_validator.proofs.PairValidator.check_list.Goals as goal
use Rattle.pair_validator.proofs.Words.{state_called}
use Rattle.rules.specs.Calls.{list}

pub returns-clause-answers : goal.returns-clause-answers
returns-clause-answers c =
    let e = c.take_list-answer.ensures in
    (state_called c.args.self (list c.args.bytes.now) (answer_of c.take_list-answer.result) c.take_list-answer.new.state e.answers e.leaves).0

pub returns-clause-hands_back : goal.returns-clause-hands_back
returns-clause-hands_back c =
    let e = c.take_list-answer.ensures in
    (state_called c.args.self (list c.args.bytes.now) (answer_of c.take_list-answer.result) c.take_list-answer.new.state e.answers e.leaves).1
