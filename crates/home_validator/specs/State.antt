-- The state of the home validator (document 01: guard) and its calls: the rules' judgement of the state seen as theirs.
-- Assumes nothing.
use Rattle.std.specs.Prelude.{ℕ, List}
use Rattle.home_core.specs.Layout.{accepts_home, home_after_read, home_opened_words, home_view_of, home_zero_words}
use Rattle.home_validator.specs.declared.HomeValidator.{HomeValidator}
use Rattle.ledgers.specs.Limits.{capacity}
use Rattle.records.specs.Records.{reading, words_of}
use Rattle.rules.specs.Calls.{Checker}
use Rattle.rules.specs.HomeValidator.{HomeView, home_judge}
use Rattle.rules.specs.Rules.{Tariff}

-- ## The state

-- the state, seen as the rules' state
abbrev pub home_view_of_state : HomeValidator → HomeView
home_view_of_state s = home_view_of s.words

-- ## The calls

-- the home validator over this state
abbrev pub home_checker : Checker HomeValidator
home_checker =
    record {
      accepts = λ s. accepts_home s.words;
      judge = λ s b. home_judge capacity (home_view_of_state s) (reading b);
      after = λ s b. record { words = home_after_read s.words (words_of b) (reading b) };
    }

-- ## The opening

-- the state of an accepted opening, with its tariff (document 02, U3)
abbrev pub home_opened_state : Tariff → List ℕ → ℕ → ℕ → HomeValidator
home_opened_state tariff homes fars far_total = record { words = home_opened_words tariff homes fars far_total }

-- the state beside a refused opening: all zero, which 3 refuses
abbrev pub home_zero_state : HomeValidator
home_zero_state = record { words = home_zero_words }
