-- What a block that is not refused shows, fact by fact. Assumes nothing.
use Rattle.wire.proofs.Prelude.{Bool, List, ◌≡◌, ◌≤◌, arith, false, eq-eqb, eqb, eqb-true, le-ltb, length, ltb, ltb-false, not}
use Rattle.wire.proofs.Prelude.{not-false, rules, true, ℕ}
use Rattle.answers.proofs.Answers.{refuse_zero}
use Rattle.answers.specs.Answers.{refuse}
use Rattle.answers.specs.Refusals.{refusal_number}
use Rattle.answers.specs.declared.refusal.Refusal.{Refusal}
use Rattle.journal_blocks.specs.Blocks.{block_formed, block_number, max_block, stated_count, tariff_in}
use Rattle.journal_blocks.specs.Checked.{block_refusal, checked, tariff_refusal}
use Rattle.tariffs.specs.Tariffs.{tariff_allowed}

-- the facts, one for each test
pub record Right (b : List ℕ) (k before : ℕ) : Type 0 where
  pub long : length b ≡ 512
  pub low : k ≤ max_block
  pub sealed : checked b ≡ true
  pub numbered : block_number b ≡ k
  pub formed : block_formed b k before ≡ true
  pub tariff : tariff_refusal b k ≡ 0

-- from the refusal to the facts
pub right_facts : (b : List ℕ) (k before : ℕ) → block_refusal b k before ≡ 0 → Right b k before
unfolding block_refusal
right_facts b k before h =
    let h1 = refuse_zero (not (eqb (length b) 512)) 11 _ (omega arith) h in
    let h2 = refuse_zero (ltb max_block k) 11 _ (omega arith) h1.1 in
    let h3 = refuse_zero (not (checked b)) 12 _ (omega arith) h2.1 in
    let h4 = refuse_zero (not (eqb (block_number b) k)) 13 _ (omega arith) h3.1 in
    let h5 = refuse_zero (not (block_formed b k before)) 14 _ (omega arith) h4.1 in
    record {
      long = eqb-true _ _ (not-false _ h1.0);
      low = ltb-false _ _ h2.0;
      sealed = not-false _ h3.0;
      numbered = eqb-true _ _ (not-false _ h4.0);
      formed = not-false _ h5.0;
      tariff = h5.1;
    }

-- 52 has nothing against rate and charge account of a block 0 that is not refused
pub tariff_allowed_lem : (b : List ℕ) (before : ℕ) → block_refusal b 0 before ≡ 0 → tariff_allowed (tariff_in b) (stated_count b) ≡ true
unfolding tariff_refusal
tariff_allowed_lem b before h = not-false _ (refuse_zero _ 52 0 (omega arith) (right_facts b 0 before h).tariff).0

-- from the facts to no refusal
pub not_refused : (b : List ℕ) (k before : ℕ) → Right b k before → block_refusal b k before ≡ 0
unfolding block_refusal
not_refused b k before r =
    rw (eq-eqb _ _ r.long, le-ltb _ _ r.low, r.sealed, eq-eqb _ _ r.numbered, r.formed) r.tariff

-- what a test refuses stays whatever the later tests say
pub refused_later : (t : Bool) (n later : ℕ) (e : Refusal) → refusal_number e ≡ refuse t n 0 → refusal_number e ≡ refuse t n later
refused_later true n later e h = h
refused_later false n later e h = search rules
