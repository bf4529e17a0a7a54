-- What follows of a block from the answer that came back. Assumes nothing.
use Rattle.wire.proofs.Prelude.{List, ◌<◌, ◌≡◌, ◌≤◌, arith, leb, leb-false, length, ltb, ltb-false, ℕ}
use Rattle.answers.proofs.Answers.{or_else_zero, refuse_zero}
use Rattle.journal_blocks.proofs.Checking.{right_facts}
use Rattle.journal_blocks.proofs.Forming.{formed_block_facts}
use Rattle.journal_blocks.proofs.Sizes.{block_bounds, records_limit}
use Rattle.journal_blocks.specs.Blocks.{stated_count}
use Rattle.journal_blocks.specs.Checked.{block_refusal}
use Rattle.journal_reader.specs.Judged.{balances_refusal, place_refusal, record_refusal}

-- a place that is not refused
pub record Placed (b : List ℕ) (place : ℕ) : Type 0 where
  pub long : length b ≡ 512
  pub low : place < 14

-- from the refusal
pub place_facts : (b : List ℕ) (k before place : ℕ) → record_refusal b k before place ≡ 0 → Placed b place
unfolding record_refusal place_refusal
place_facts b k before place h =
    let o = or_else_zero (block_refusal b k before) _ h in
    let r = right_facts b k before o.0 in
    let h1 = refuse_zero (ltb k 2) 4 _ (omega arith) o.1 in
    let h2 = refuse_zero (leb (stated_count b) place) 4 0 (omega arith) h1.1 in
    let m = (formed_block_facts b k before r.formed).fits in
    omega (arith, r.long, m, records_limit k (ltb-false k 2 h1.0), leb-false (stated_count b) place h2.0)

-- a block whose opening balances are not refused
pub balances_facts : (b : List ℕ) (k before : ℕ) → balances_refusal b k before ≡ 0 → (length b ≡ 512) × (stated_count b ≤ 56)
unfolding balances_refusal
balances_facts b k before h =
    let o = or_else_zero (block_refusal b k before) _ h in
    let r = right_facts b k before o.0 in
    let m = (formed_block_facts b k before r.formed).fits in
    omega (arith, r.long, m, block_bounds k)
