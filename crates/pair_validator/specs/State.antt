-- The state of the pair validator (document 01: pair book) and its calls: the rules' judgement of the state seen as theirs.
-- Assumes nothing.
use Rattle.std.specs.Prelude.{ℕ, List}
use Rattle.ledgers.specs.Limits.{capacity}
use Rattle.pair_core.specs.Layout.{accepts_pair, pair_after_read, pair_opened_words, pair_view_of, pair_zero_words}
use Rattle.pair_validator.specs.declared.PairValidator.{PairValidator}
use Rattle.records.specs.Records.{reading, words_of}
use Rattle.rules.specs.Calls.{Checker}
use Rattle.rules.specs.PairValidator.{PairView, pair_judge}
use Rattle.rules.specs.Rules.{Tariff}

-- ## The state

-- the state, seen as the rules' state
abbrev pub pair_view_of_state : PairValidator → PairView
pair_view_of_state s = pair_view_of s.words

-- ## The calls

-- the pair validator over this state
abbrev pub pair_checker : Checker PairValidator
pair_checker =
    record {
      accepts = λ s. accepts_pair s.words;
      judge = λ s b. pair_judge capacity (pair_view_of_state s).pair (reading b);
      after = λ s b. record { words = pair_after_read s.words (words_of b) (reading b) };
    }

-- ## The opening

-- the state of an accepted opening
abbrev pub pair_opened_state : Tariff → List ℕ → List ℕ → PairValidator
pair_opened_state tariff homes fars = record { words = pair_opened_words tariff homes fars }

-- the state beside a refused opening: all zero, which 3 refuses
abbrev pub pair_zero_state : PairValidator
pair_zero_state = record { words = pair_zero_words }
