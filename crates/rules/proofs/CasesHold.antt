-- Every row of the table of cases holds, by computation. Assumes nothing.
use mathlib.Core.Path.{refl}
use Rattle.records.specs.Fields.{field_bytes}
use Rattle.records.specs.Records.{encoding, formed, reading, reading_words, record_in}
use Rattle.rules.specs.Cases.{CasesHold, FurtherRowsHold, account_rows, after_all, all_pass, bad, case_opening, cases, charge_rows}
use Rattle.rules.specs.Cases.{class_rows, far_larger}
use Rattle.rules.specs.Cases.{good, holds, home_after_all, home_all_pass, home_case_opening, near_rows, opening_rows, order_rows, shows, state_rows}
use Rattle.rules.specs.HomeValidator.{home_accepts, home_judge_record, pool_refusal}
use Rattle.rules.specs.Lists.{all, any, lowered, raised, sum}
use Rattle.rules.specs.PairValidator.{count_allowed, held_allowed, matched, opening_refusal, room_refusal, supply_allowed, unshared}
use Rattle.rules.specs.PairValidator.{pair_accepts, stands_under}
use Rattle.rules.specs.Rules.{after, after_bytes, clashes, first_refusal, funds_refusal, judge, judge_bytes, match_refusal, matches}
use Rattle.rules.specs.Rules.{arrived, flight, in_flight}
use Rattle.tariffs.specs.Tariffs.{charge, takes_nothing, tariff_allowed}
use Rattle.wire.specs.BigEndian.{bytes_of, every, field, same, value_after}

-- the starred cases
pub cases_hold : CasesHold
unfolding CasesHold cases holds all every any sum lowered raised value_after field formed record_in reading reading_words
    bytes_of encoding field_bytes clashes matches first_refusal funds_refusal charge tariff_allowed match_refusal judge after judge_bytes after_bytes arrived flight
    in_flight pool_refusal home_judge_record room_refusal count_allowed supply_allowed opening_refusal case_opening home_case_opening
    after_all all_pass home_after_all home_all_pass shows good bad same
cases_hold = refl

-- the rows of our own
pub further_rows_hold : FurtherRowsHold
unfolding FurtherRowsHold takes_nothing far_larger account_rows order_rows class_rows charge_rows near_rows opening_rows state_rows held_allowed unshared matched stands_under
    pair_accepts home_accepts holds all every any sum lowered raised value_after field formed record_in
    reading reading_words bytes_of encoding field_bytes clashes matches first_refusal funds_refusal charge tariff_allowed match_refusal judge after judge_bytes
    after_bytes arrived flight in_flight pool_refusal home_judge_record room_refusal count_allowed supply_allowed opening_refusal case_opening
    home_case_opening after_all all_pass home_after_all home_all_pass shows good bad same
further_rows_hold = refl
