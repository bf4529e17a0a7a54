-- What the library's exports hand back: answers as plain numbers, beside what a call hands out. Assumes nothing.
use Rattle.std.specs.Prelude.{◌*◌, ◌+◌, ℕ, cond, List, replicate}
use Rattle.answers.specs.Answers.{answer, number_of, place_of, unless_refused}
use Rattle.answers.specs.Answers.{Answer}
use Rattle.answers.specs.Answers.{Passed, Refused}
use Rattle.answers.specs.Balances.{Balance}
use Rattle.home_validator.specs.declared.HomeValidator.{HomeValidator}
use Rattle.home_validator.specs.Figures.{HomeFigures, HomePlaces}
use Rattle.journal_reader.specs.Judged.{Balances, Counted}
use Rattle.ledgers.specs.Ledgers.{kind_byte, ledger_byte, ledger_of}
use Rattle.moatbetony.specs.declared.PlainBalance.{PlainBalance}
use Rattle.moatbetony.specs.declared.PlainBalances.{PlainBalances}
use Rattle.moatbetony.specs.declared.PlainCharge.{PlainCharge}
use Rattle.moatbetony.specs.declared.PlainCount.{PlainCount}
use Rattle.moatbetony.specs.declared.PlainEncoded.{PlainEncoded}
use Rattle.moatbetony.specs.declared.PlainHomeFigures.{PlainHomeFigures}
use Rattle.moatbetony.specs.declared.PlainHomePlaces.{PlainHomePlaces}
use Rattle.moatbetony.specs.declared.PlainHomeOutcome.{PlainHomeOutcome}
use Rattle.moatbetony.specs.declared.PlainPairFigures.{PlainPairFigures}
use Rattle.moatbetony.specs.declared.PlainPairPlaces.{PlainPairPlaces}
use Rattle.moatbetony.specs.declared.PlainPairOutcome.{PlainPairOutcome}
use Rattle.moatbetony.specs.declared.PlainPart.{PlainPart}
use Rattle.moatbetony.specs.declared.PlainRecord.{PlainRecord}
use Rattle.moatbetony.specs.declared.PlainAnswer.{PlainAnswer}
use Rattle.pair_validator.specs.declared.PairValidator.{PairValidator}
use Rattle.pair_validator.specs.Figures.{PairFigures, PairPlaces}
use Rattle.records.specs.Records.{reading_refusal}
use Rattle.records.specs.Records.{Reading}
use Rattle.records.specs.Records.{Read, Unreadable}
use Rattle.records.specs.declared.Record.{Record}
use Rattle.tariffs.specs.Tariffs.{Charged}
use Rattle.tariffs.specs.declared.Tariff.{Tariff}

-- ## Versions

-- 0.6.1: major times 10,000, minor times 100 and patch
abbrev pub library_version : ℕ
library_version = 601

-- the layout of both states
abbrev pub state_version : ℕ
state_version = 3

-- ## Answers

-- 1 for passed, which a struct of zeros does not have
abbrev pub passed_of : Answer → ℕ
passed_of Passed = 1
passed_of (Refused n p) = 0

-- the documents' number and its place, and whether it passed
abbrev pub plain_answer : Answer → PlainAnswer
plain_answer a = record { number = number_of a; passed = passed_of a; place = place_of a }

-- ## The validators

-- the tariff of an opening or of a block from its two numbers
abbrev pub plain_tariff : ℕ → ℕ → Tariff
plain_tariff rate account = record { rate = rate; account = account }

-- an outcome of the pair validator
abbrev pub plain_pair_outcome : Answer → PairValidator → PlainPairOutcome
plain_pair_outcome a s = record { answer = plain_answer a; state = s }

-- its figures
abbrev pub plain_pair_figures : PairFigures → PlainPairFigures
plain_pair_figures f = record { answer = plain_answer f.answer; home = f.home; far = f.far; flight = f.flight }

-- its places left
abbrev pub plain_pair_places : PairPlaces → PlainPairPlaces
plain_pair_places p = record { answer = plain_answer p.answer; home = p.home; far = p.far }

-- an outcome of the home validator
abbrev pub plain_home_outcome : Answer → HomeValidator → PlainHomeOutcome
plain_home_outcome a s = record { answer = plain_answer a; state = s }

-- its figures
abbrev pub plain_home_figures : HomeFigures → PlainHomeFigures
plain_home_figures f = record { answer = plain_answer f.answer; home = f.home; pool = f.pool }

-- its places left
abbrev pub plain_home_places : HomePlaces → PlainHomePlaces
plain_home_places p = record { answer = plain_answer p.answer; home = p.home }

-- the balance of an account
abbrev pub plain_balance : Balance → PlainBalance
plain_balance b = record { answer = plain_answer b.answer; balance = b.balance }

-- ## Records

-- whether it was read: 21 where not
abbrev pub read_answer : Reading → PlainAnswer
read_answer x = plain_answer (answer (reading_refusal (λ (r : Record). 0) x) 0)

-- the fields of what was read; 21 and zeros where it does not read
abbrev pub plain_record : Reading → PlainRecord
plain_record (Read r) =
    record {
      answer = read_answer (Read r);
      kind = kind_byte r.kind;
      ledger = ledger_byte (ledger_of r.kind);
      sender = r.sender;
      receiver = r.receiver;
      number = r.number;
      amount = r.amount;
      verdict = cond r.verified 1 0;
    }
plain_record Unreadable =
    record {
      answer = read_answer Unreadable;
      kind = 0;
      ledger = 0;
      sender = 0;
      receiver = 0;
      number = 0;
      amount = 0;
      verdict = 0;
    }

-- bytes that read as a record; 21 and zeros where they do not
abbrev pub plain_encoded : Reading → List ℕ → PlainEncoded
plain_encoded (Read r) b = record { answer = read_answer (Read r); bytes = b }
plain_encoded Unreadable b = record { answer = read_answer Unreadable; bytes = replicate 32 0 }

-- ## The charge

-- the charge on an amount
abbrev pub plain_charge : Charged → PlainCharge
plain_charge c = record { answer = plain_answer c.answer; charge = c.charge }

-- ## The journal

-- where the record at a place of block k stands, by the refusal of block and place
abbrev pub plain_part : ℕ → ℕ → ℕ → PlainPart
plain_part refusal k place =
    record {
      answer = plain_answer (answer refusal k);
      start = unless_refused refusal (32 + 32 * place) 0;
      length = unless_refused refusal 32 0;
    }

-- a count
abbrev pub plain_count : Counted → PlainCount
plain_count c = record { answer = plain_answer c.answer; count = c.count }

-- opening balances
abbrev pub plain_balances : Balances → PlainBalances
plain_balances o =
    record {
      answer = plain_answer o.answer;
      count = o.count;
      rate = o.tariff.rate;
      charge_account = o.tariff.account;
      balances = o.balances;
    }
