-- `home_validator::HomeValidator::check_record`: the call over the words is the call over the state. Assumes nothing.
use Rattle.home_validator.proofs.Words.{state_called}
use Rattle.rules.specs.Calls.{one}
use Rattle.home_validator.proofs.HomeValidator.check_record.Goals as goal

pub returns-clause-answers : goal.returns-clause-answers
returns-clause-answers c =
    let e = c.take-answer.ensures in (state_called c.args.self (one c.args.bytes.now) _ _ e.answers e.leaves).0

pub returns-clause-hands_back : goal.returns-clause-hands_back
returns-clause-hands_back c =
    let e = c.take-answer.ensures in (state_called c.args.self (one c.args.bytes.now) _ _ e.answers e.leaves).1
