-- What the reader's calls answer of a block (document 01, "Refusals": 4 for a place, after 11 to 14 and 52) and hand out. Assumes nothing.
use Rattle.std.specs.Prelude.{ℕ, List, [], ltb, leb, replicate, Result, Ok, Err}
use Rattle.answers.specs.Answers.{Answer, Passed, Refused, answer, or_else, refuse, unless_refused}
use Rattle.answers.specs.Refusals.{refusal_number}
use Rattle.answers.specs.declared.refusal.Refused.{Refused as RefusedAt}
use Rattle.journal_blocks.specs.Blocks.{balance_table, record_part, stated_count, tariff_in}
use Rattle.journal_blocks.specs.Checked.{block_refusal}
use Rattle.ledgers.specs.Limits.{account_limit}
use Rattle.tariffs.specs.Tariffs.{free}
use Rattle.tariffs.specs.declared.Tariff.{Tariff}
use Rattle.journal_reader.specs.declared.balances.Opening.{Opening}

-- a block's answer, and the count of its items; 0 where it is refused
pub record Counted : Type 0 where
  pub answer : Answer
  pub count : ℕ

-- a block's answer, the count of its opening balances, of block 0 the rate and the charge account beside the balances (of block 1
-- both are 0), and the balances, zeros after them; all 0 where it is refused
pub record Balances : Type 0 where
  pub answer : Answer
  pub count : ℕ
  pub tariff : Tariff
  pub balances : List ℕ

-- what the result of a call for the count tells
abbrev pub count_told : Result ℕ RefusedAt → Counted
count_told (Ok n) = record { answer = Passed; count = n }
count_told (Err r) = record { answer = Refused (refusal_number r.refusal) r.place; count = 0 }

-- what the result of a call for the opening balances tells
abbrev pub opening_told : Result Opening RefusedAt → Balances
opening_told (Ok o) =
    record { answer = Passed; count = o.balances.count; tariff = o.tariff; balances = o.balances.table }
opening_told (Err r) =
    record {
      answer = Refused (refusal_number r.refusal) r.place;
      count = 0;
      tariff = free;
      balances = replicate account_limit 0;
    }

-- the refusal of a place at which a record is wanted: 4 in a block of opening balances, and not below the count
unfoldable pub place_refusal : List ℕ → ℕ → ℕ → ℕ
place_refusal b k place =
    refuse (ltb k 2) 4
    (refuse (leb (stated_count b) place) 4
    0)

-- the refusal of block and place: 4 after 11 to 14 and 52
unfoldable pub record_refusal : List ℕ → ℕ → ℕ → ℕ → ℕ
record_refusal b k before place = or_else (block_refusal b k before) (place_refusal b k place)

-- the refusal of a block of which opening balances are wanted: 4, after 11 to 14 and 52, in a block of records (document 01 leaves
-- this call free; 4 is the number of a maker who wants of a block what its kind does not hold)
unfoldable pub balances_refusal : List ℕ → ℕ → ℕ → ℕ
balances_refusal b k before = or_else (block_refusal b k before) (refuse (leb 2 k) 4 0)

-- what the call for a part hands out: the 32 bytes, and nothing wherever the judging call refuses
unfoldable pub part_of : List ℕ → ℕ → ℕ → ℕ → List ℕ
part_of b k before place = unless_refused (record_refusal b k before place) (record_part b place) []

-- what the call for the count hands out
unfoldable pub count_of : List ℕ → ℕ → ℕ → Counted
count_of b k before =
    record {
      answer = answer (block_refusal b k before) k;
      count = unless_refused (block_refusal b k before) (stated_count b) 0;
    }

-- what the call for the opening balances hands out: of block 0 rate and charge account too (document 02, U3), for which block 1
-- has zeros
unfoldable pub opening_of : List ℕ → ℕ → ℕ → Balances
opening_of b k before =
    record {
      answer = answer (balances_refusal b k before) k;
      count = unless_refused (balances_refusal b k before) (stated_count b) 0;
      tariff = unless_refused (balances_refusal b k before) (tariff_in b) free;
      balances = unless_refused (balances_refusal b k before) (balance_table b) (replicate account_limit 0);
    }
