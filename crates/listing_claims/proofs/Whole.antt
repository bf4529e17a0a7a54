-- A good journal is cut into its own blocks, and the lines of its blocks are those of its records in one list. Assumes nothing.
use Rattle.wire.proofs.Prelude.{Bool, List, [], ◌++◌, ◌∙◌, ◌∷◌, ◌≡◌, ap, arith, drop, drop_at, drop-drop, length, length-append, refl, suc}
use Rattle.wire.proofs.Prelude.{sym, take, take_at, true, zero-add, ℕ}
use Rattle.journal.proofs.ReadBack.{written_reads}
use Rattle.journal.specs.Journal.{AllBlocksPass, Reads, WrittenReads, all_records, joined, journal_of}
use Rattle.journal_blocks.proofs.Checking.{right_facts}
use Rattle.journal_blocks.proofs.Items.{length_records}
use Rattle.journal_blocks.specs.Blocks.{balances_of, records_of, stated_count, tariff_in}
use Rattle.ledgers.specs.Limits.{capacity}
use Rattle.listing.proofs.Blocks.{lines_append, state_last}
use Rattle.listing.specs.Listing.{Progress, after_block, block_text, blocks_in, blocks_text, figures_line, listing, opened_progress, opening_text}
use Rattle.listing.specs.Listing.{progress_by, record_lines, unless_fault, while_going}
use Rattle.listing_claims.specs.Whole.{LinesOfRecords, ListedBadFirst, ListedRefused, ListedWhole, ListedWritten}
use Rattle.listing_lines.specs.Lines.{header_line, open_line}
use Rattle.rules.proofs.ListCalls.{cut_first}
use Rattle.rules.specs.Calls.{Checker}
use Rattle.rules.specs.Lists.{cut}
use Rattle.rules.specs.PairValidator.{pair_opened, pair_opening_refusal, pair_validator}
use Rattle.rules.specs.Rules.{Tariff}

-- ## The lines of records

-- the lines of blocks that are right in turn are those of all their records
lines_of_blocks : {S : Type 0} (c : Checker S) (f : S → List ℕ) (p : Progress S) (bs : List (List ℕ)) → p.going ≡ true
    → AllBlocksPass p.block p.before bs → blocks_text c f p bs ≡ record_lines c f p.state p.index (all_records bs)
unfolding AllBlocksPass after_block all_records block_text blocks_text record_lines
lines_of_blocks c f p [] g h = refl
lines_of_blocks c f p (b ∷ bs) g h =
    rw (lines_append c f p.state p.index (records_of b) (all_records bs), length_records (stated_count b) b)
    (go p.going g ∙ rw h.0 (ap (λ (t : List ℕ). record_lines c f p.state p.index (records_of b) ++ t)
    (lines_of_blocks c f (progress_by c 0 p b) bs g h.1)))
  where
    go : {t : List ℕ} (w : Bool) → w ≡ true → while_going w t ≡ t
    go w e = rw e

-- the line of each record
pub lines_of_records : LinesOfRecords
unfolding LinesOfRecords record_lines
lines_of_records S c f s bs b cs = rw (state_last c s bs b, lines_append c f s 0 bs (b ∷ cs), zero-add (length bs))

-- ## The blocks of a journal

-- blocks that are right in turn are what their bytes in a row are cut into
blocks_back : (k before : ℕ) (bs : List (List ℕ)) → AllBlocksPass k before bs → blocks_in (joined bs) ≡ bs
unfolding AllBlocksPass cut joined
blocks_back k before [] h = refl
blocks_back k before (b ∷ bs) h =
    let l = (right_facts b k before h.0).long in
    let c = cut_first 511 (b ++ joined bs) (omega (arith, length-append b (joined bs))) in
    rw (c, take_at b (joined bs) 512 l, drop_at b (joined bs) 512 l, blocks_back (suc k) (stated_count b) bs h.1)

-- the listing of an opening with a refusal, or 0, and of records
abbrev listed_by : ℕ → Tariff → List ℕ → List ℕ → List (List ℕ) → List ℕ
listed_by n tariff home far records =
    header_line
    ++ unless_fault n 1
    (open_line (figures_line (pair_opened tariff home far)) ++ record_lines (pair_validator capacity) figures_line (pair_opened tariff home far) 0 records)

-- a journal that reads is listed by what it holds
listed_by_lem : (j : List ℕ) (tariff : Tariff) (home far : List ℕ) (records : List (List ℕ)) → Reads j tariff home far records
    → listing j ≡ listed_by (pair_opening_refusal tariff home far) tariff home far records
unfolding AllBlocksPass joined listing opening_text
listed_by_lem j tariff home far records r =
    let rest = joined (r.second ∷ r.others) in
    let later = joined r.others in
    let l0 = (right_facts r.first 0 0 r.right.0).long in
    let l1 = (right_facts r.second 1 (stated_count r.first) r.right.1.0).long in
    let left : drop 512 j ≡ rest = rw r.whole (drop_at r.first rest 512 l0) in
    let first : take 512 j ≡ r.first = rw r.whole (take_at r.first rest 512 l0) in
    let second : take 512 (drop 512 j) ≡ r.second = rw left (take_at r.second later 512 l1) in
    let others : blocks_in (drop 1024 j) ≡ r.others =
    rw (← (drop-drop 512 512 j), left, drop_at r.second later 512 l1)
    (blocks_back 2 (stated_count r.second) r.others r.right.1.1) in
    let lines = lines_of_blocks (pair_validator capacity) figures_line
    (opened_progress (pair_opened (tariff_in r.first) (balances_of r.first) (balances_of r.second)) (stated_count r.second)) r.others refl r.right.1.1 in
    rw (first, second, others, r.right.0, r.right.1.0, lines, r.tariff_is, r.home_balances, r.far_balances, r.record_list)

-- ## The claims

-- a journal with an accepted opening
pub listed_whole : ListedWhole
unfolding ListedWhole
listed_whole j tariff home far records r o = listed_by_lem j tariff home far records r ∙ ap (λ (n : ℕ). listed_by n tariff home far records) o

-- one with a refused opening
pub listed_refused : ListedRefused
unfolding ListedRefused
listed_refused j tariff home far records r n o =
    listed_by_lem j tariff home far records r ∙ ap (λ (m : ℕ). listed_by m tariff home far records) o

-- a written journal
pub listed_written : ListedWritten
unfolding ListedWritten ListedWhole WrittenReads
listed_written tariff home far records w o =
    listed_whole (journal_of tariff home far records) tariff home far records (written_reads tariff home far records w) o

-- a bad block 0
pub listed_bad_first : ListedBadFirst
unfolding ListedBadFirst listing opening_text
listed_bad_first j n h = rw h
