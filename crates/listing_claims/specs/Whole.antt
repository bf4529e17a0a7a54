-- The listing of a whole good journal (document 01, Cases): the header, the opening's line and a line for each record, over all
-- records in one list, so that ListedAsRun speaks of every line. Assumes nothing.
use Rattle.std.specs.Prelude.{ℕ, suc, List, [], ◌∷◌, ◌++◌, ◌≡◌, length, take}
use Rattle.journal.specs.Journal.{Reads, WithinLimits, journal_of}
use Rattle.journal_blocks.specs.Checked.{block_refusal}
use Rattle.ledgers.specs.Limits.{capacity}
use Rattle.listing.specs.Listing.{figures_line, listing, record_lines, state_listed}
use Rattle.listing_lines.specs.Lines.{fault_line, header_line, open_line, record_line}
use Rattle.rules.specs.Calls.{Checker}
use Rattle.rules.specs.PairValidator.{pair_opened, pair_opening_refusal, pair_validator}
use Rattle.rules.specs.Rules.{Tariff}

-- the header, the line of an accepted opening, and a line for each record, numbered from 0
abbrev pub whole_text : Tariff → List ℕ → List ℕ → List (List ℕ) → List ℕ
whole_text tariff home far records =
    header_line
    ++ (open_line (figures_line (pair_opened tariff home far))
    ++ record_lines (pair_validator capacity) figures_line (pair_opened tariff home far) 0 records)

-- a journal that reads and whose opening is accepted is listed so
unfoldable pub ListedWhole : Type 0
ListedWhole =
    (j : List ℕ) (tariff : Tariff) (home far : List ℕ) (records : List (List ℕ)) → Reads j tariff home far records → pair_opening_refusal tariff home far ≡ 0
    → listing j ≡ whole_text tariff home far records

-- of one that reads and whose opening is refused the listing is the header and the refusal, at block 1
unfoldable pub ListedRefused : Type 0
ListedRefused =
    (j : List ℕ) (tariff : Tariff) (home far : List ℕ) (records : List (List ℕ)) → Reads j tariff home far records → (n : ℕ) → pair_opening_refusal tariff home far ≡ suc n
    → listing j ≡ header_line ++ fault_line (suc n) 1

-- the journal written from an accepted opening and records within the limits is listed as them
unfoldable pub ListedWritten : Type 0
ListedWritten =
    (tariff : Tariff) (home far : List ℕ) (records : List (List ℕ)) → WithinLimits tariff home far records → pair_opening_refusal tariff home far ≡ 0
    → listing (journal_of tariff home far records) ≡ whole_text tariff home far records

-- where block 0 is bad, its fault is all, whatever comes after it: 52 is told before block 1 is looked at (document 02, U3)
unfoldable pub ListedBadFirst : Type 0
ListedBadFirst = (j : List ℕ) (n : ℕ) → block_refusal (take 512 j) 0 0 ≡ suc n → listing j ≡ header_line ++ fault_line (suc n) 0

-- the line of each record has its index, the answer in the state after the records before it, and the figures after it
unfoldable pub LinesOfRecords : Type 1
LinesOfRecords =
    (S : Type 0) (c : Checker S) (figures : S → List ℕ) (s : S) (bs : List (List ℕ)) (b : List ℕ) (cs : List (List ℕ))
    → record_lines c figures s 0 (bs ++ b ∷ cs)
    ≡ record_lines c figures s 0 bs
    ++ (record_line (length bs) b (c.judge (state_listed c s bs) b) (figures (state_listed c s (bs ++ b ∷ [])))
    ++ record_lines c figures (state_listed c s (bs ++ b ∷ [])) (suc (length bs)) cs)
