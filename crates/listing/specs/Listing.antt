-- The listing of a journal: what `crosslist` prints (document 01, Cases). Every line is worked out by the rules of the pair
-- validator (document 01: pair book) from the passed records. Assumes nothing.
use Rattle.std.specs.Prelude.{ℕ, zero, suc, ◌+◌, Bool, true, false, List, [], ◌∷◌, ◌++◌, length, take, drop}
use Rattle.journal_blocks.specs.Blocks.{balances_of, records_of, stated_count, tariff_in}
use Rattle.journal_blocks.specs.Checked.{block_refusal}
use Rattle.ledgers.specs.Limits.{capacity}
use Rattle.listing_lines.specs.Lines.{fault_line, figures_text, header_line, open_line, record_line}
use Rattle.rules.specs.Calls.{Checker, call_one}
use Rattle.rules.specs.Lists.{cut, total}
use Rattle.rules.specs.PairValidator.{PairView, pair_opened, pair_opening_refusal, pair_validator}
use Rattle.rules.specs.Rules.{in_flight}

-- the text where there is no refusal, and else the fault line of the block (Cases: at a bad block)
abbrev pub unless_fault : ℕ → ℕ → List ℕ → List ℕ
unless_fault zero block text = text
unless_fault (suc n) block text = fault_line (suc n) block

-- ## Records and blocks, for any validator and the text of its figures

-- where a listing stands: the state, the index of the next record, the number of the next block and the count of the one before
-- it, and whether it goes on
pub record Progress (S : Type 0) : Type 0 where
  pub state : S
  pub index : ℕ
  pub block : ℕ
  pub before : ℕ
  pub going : Bool

-- the text, where the listing goes on
abbrev pub while_going : Bool → List ℕ → List ℕ
while_going true text = text
while_going false text = []

module _ {S : Type 0} (c : Checker S) where
  -- the state after records; a refused record leaves the state as it was
  unfoldable pub state_listed : S → List (List ℕ) → S
  state_listed s [] = s
  state_listed s (b ∷ bs) = state_listed (call_one c s b).state bs

  -- where the listing stands after a block with a refusal, or 0: a bad one stops it
  abbrev pub progress_by : ℕ → Progress S → List ℕ → Progress S
  progress_by zero p b =
      record {
        state = state_listed p.state (records_of b);
        index = p.index + stated_count b;
        block = suc p.block;
        before = stated_count b;
        going = p.going;
      }
  progress_by (suc n) p b =
      record { state = p.state; index = p.index; block = p.block; before = p.before; going = false }

  -- the same, by the block's own refusal
  unfoldable pub after_block : Progress S → List ℕ → Progress S
  after_block p b = progress_by (block_refusal b p.block p.before) p b

  module _ (figures : S → List ℕ) where
    -- a line for each record, from an index on, with the figures after it (the calls' answers: ListedAsRun)
    unfoldable pub record_lines : S → ℕ → List (List ℕ) → List ℕ
    record_lines s i [] = []
    record_lines s i (b ∷ bs) =
        record_line i b (c.judge s b) (figures (call_one c s b).state) ++ record_lines (call_one c s b).state (suc i) bs

    -- the lines of a block of records, or its fault
    unfoldable pub block_text : Progress S → List ℕ → List ℕ
    block_text p b = unless_fault (block_refusal b p.block p.before) p.block (record_lines p.state p.index (records_of b))

    -- block by block, up to a bad one (Cases: the lines of the blocks before a bad one stand above its fault)
    unfoldable pub blocks_text : Progress S → List (List ℕ) → List ℕ
    blocks_text p [] = []
    blocks_text p (b ∷ bs) = while_going p.going (block_text p b ++ blocks_text (after_block p b) bs)

-- ## The journal

-- the figures of the rules' state
abbrev pub figures_line : PairView → List ℕ
figures_line v = figures_text (total v.pair.home.balances) (total v.pair.far.balances) (in_flight v.pair)

-- the blocks of bytes, 512 each; fewer at the end are a block too (Refusals: 11, not 512 bytes long)
abbrev pub blocks_in : List ℕ → List (List ℕ)
blocks_in j = cut (length j) 512 j

-- after an accepted opening, before block 2, for which the count before is not looked at
abbrev pub opened_progress : {S : Type 0} → S → ℕ → Progress S
opened_progress s before = record { state = s; index = 0; block = 2; before = before; going = true }

-- the line of the opening, or the fault of block 0, 52 among them (document 02, U3), or of block 1; the opening's own refusal is told at
-- block 1 (Cases: refusal 2); then the rest
unfoldable pub opening_text : List ℕ → List ℕ → List ℕ → List ℕ
opening_text home far rest =
    unless_fault (block_refusal home 0 0) 0
    (unless_fault (block_refusal far 1 (stated_count home)) 1
    (unless_fault (pair_opening_refusal (tariff_in home) (balances_of home) (balances_of far)) 1
    (open_line (figures_line (pair_opened (tariff_in home) (balances_of home) (balances_of far))) ++ rest)))

-- WHAT `crosslist` PRINTS of a journal: the header line, the opening of blocks 0 and 1, and the other blocks
unfoldable pub listing : List ℕ → List ℕ
listing j =
    header_line
    ++ opening_text (take 512 j) (take 512 (drop 512 j))
    (blocks_text (pair_validator capacity) figures_line
    (opened_progress (pair_opened (tariff_in (take 512 j)) (balances_of (take 512 j)) (balances_of (take 512 (drop 512 j))))
    (stated_count (take 512 (drop 512 j))))
    (blocks_in (drop 1024 j)))
