-- `home_validator::HomeValidator::check_list`: the call over the words is the call over the state. Assumes nothing.
use Rattle.home_validator.proofs.Words.{state_called}
use Rattle.rules.specs.Calls.{list}
use Rattle.home_validator.proofs.HomeValidator.check_list.Goals as goal

pub returns-clause-answers : goal.returns-clause-answers
returns-clause-answers c =
    let e = c.take_list-answer.ensures in (state_called c.args.self (list c.args.bytes.now) _ _ e.answers e.leaves).0

pub returns-clause-hands_back : goal.returns-clause-hands_back
returns-clause-hands_back c =
    let e = c.take_list-answer.ensures in (state_called c.args.self (list c.args.bytes.now) _ _ e.answers e.leaves).1
