-- The first two blocks of bytes, the text of their opening by their refusals, and what the reader hands out of them. Assumes nothing.
use Rattle.wire.proofs.Prelude.{List, [], ◌++◌, ◌<◌, ◌∙◌, ◌≡◌, ap, append-nil, arith, drop}
use Rattle.wire.proofs.Prelude.{length, lt-leb}
use Rattle.wire.proofs.Prelude.{min, refl, suc, sym, take, take_at, zero, ℕ}
use Rattle.answers.proofs.Answers.{tells}
use Rattle.answers.specs.Answers.{Tells, answer, number_of, or_else, place_of}
use Rattle.answers.specs.Answers.{Passed, Refused}
use Rattle.journal_blocks.proofs.Items.{length_balances}
use Rattle.journal_blocks.specs.Blocks.{balance_table, balances_of, stated_count, tariff_in}
use Rattle.journal_blocks.specs.Checked.{block_refusal}
use Rattle.journal_reader.specs.Judged.{Balances, balances_refusal, opening_of}
use Rattle.listing.specs.Listing.{opening_text, unless_fault}
use Rattle.listing_lines.specs.Lines.{fault_line, figures_text, open_line}
use Rattle.listing_opening.specs.Opened.{OpenedIn}
use Rattle.pair_core.specs.Layout.{pair_opened_words}
use Rattle.pair_rows.specs.Rows.{Row, row_of, row_with}
use Rattle.pair_rows.specs.declared.Figures.{Figures}
use Rattle.rules.proofs.Parts.{drop_least, take_least}
use Rattle.rules.specs.Lists.{sum, total}
use Rattle.rules.specs.PairValidator.{pair_opened, pair_opening_refusal}
use Rattle.rules.specs.Rules.{Tariff, flight, in_flight}

-- ## The first two blocks

-- the first bytes of a list that may have fewer, and those after them
pub halves : (b : List ℕ) {m : ℕ} → m ≡ min (length b) 512 → (take m b ≡ take 512 b) × (drop m b ≡ drop 512 b)
halves b p = (rw p (take_least 512 b), rw p (drop_least 512 b))

-- ## The text by the refusals

-- where there is a refusal its fault is all the text
fault_only : (n block : ℕ) (text : List ℕ) → (n ≡ 0 → ⊥) → unless_fault n block text ≡ fault_line n block
fault_only zero block text r = absurd (r refl)
fault_only (suc n) block text r = refl

module _ (home far : List ℕ) where
  -- a fault of block 0
  pub at_home : {n : ℕ} → n ≡ block_refusal home 0 0 → (n ≡ 0 → ⊥) → (rest : List ℕ) → opening_text home far rest ≡ fault_line n 0
  unfolding opening_text
  at_home e r rest = rw (← e) (fault_only _ 0 _ r)

  module _ (a : block_refusal home 0 0 ≡ 0) where
    -- a fault of block 1
    pub at_far : {n : ℕ} → n ≡ block_refusal far 1 (stated_count home) → (n ≡ 0 → ⊥) → (rest : List ℕ)
        → opening_text home far rest ≡ fault_line n 1
    unfolding opening_text
    at_far e r rest = rw (a, ← e) (fault_only _ 1 _ r)

    module _ (b : block_refusal far 1 (stated_count home) ≡ 0) where
      -- a refusal of the opening, told as a fault of block 1
      pub at_pair : {n : ℕ} → n ≡ pair_opening_refusal (tariff_in home) (balances_of home) (balances_of far) → (n ≡ 0 → ⊥) → (rest : List ℕ)
          → opening_text home far rest ≡ fault_line n 1
      unfolding opening_text
      at_pair e r rest = rw (a, b, ← e) (fault_only _ 1 _ r)

      -- an accepted opening: its line, and the rest
      pub at_open : pair_opening_refusal (tariff_in home) (balances_of home) (balances_of far) ≡ 0 → (rest : List ℕ)
          → opening_text home far rest ≡ open_line (figures_text (total (balances_of home)) (total (balances_of far)) 0) ++ rest
      unfolding opening_text in_flight flight sum
      at_open z rest = rw (a, b, z)

-- ## What an opening leaves

-- an accepted opening
pub opened_in : (home far : List ℕ) (figures : Figures) {before : ℕ} {state : List ℕ}
    → block_refusal home 0 0 ≡ 0
    → block_refusal far 1 (stated_count home) ≡ 0
    → pair_opening_refusal (tariff_in home) (balances_of home) (balances_of far) ≡ 0
    → row_with 0 figures ≡ row_of 0 (pair_opened (tariff_in home) (balances_of home) (balances_of far))
    → before ≡ stated_count far
    → state ≡ pair_opened_words (tariff_in home) (balances_of home) (balances_of far)
    → OpenedIn home far (record { figures = figures; before = before }) state
    × ((rest : List ℕ) → opening_text home far rest ≡ open_line (figures_text figures.home figures.far 0) ++ rest)
opened_in home far figures a b z r k w =
    let t = at_open home far a b z in
    let s = t [] ∙ append-nil _ in (
      record { continues = λ rest. rw s (t rest); unrefused = z; row_is = r; before_is = k; state_is = w },
      rw (ap (λ (x : Row). x.home) r, ap (λ (x : Row). x.far) r) t,
    )

-- ## What the reader hands out

-- what is made of the same tariff and the same balances is the same
pub same_opening : {A : Type 0} (f : Tariff → List ℕ → List ℕ → A) {t u : Tariff} {h i g j : List ℕ} → t ≡ u → h ≡ i → g ≡ j
    → f t h g ≡ f u i j
same_opening f p q r = λ k. f (p k) (q k) (r k)

-- a refusal where no later test refuses
else_none : (n : ℕ) → or_else n 0 ≡ n
else_none zero = refl
else_none (suc n) = refl

-- an answer that is a refusal has a number, and its place
refused_some : (n p m q : ℕ) → answer n p ≡ Refused m q → (n ≡ 0 → ⊥) × (q ≡ p)
refused_some zero p m q e = let y : ◌≡◌ {A = ℕ} 0 1 = cc in absurd (omega arith)
refused_some (suc n) p m q e = (λ z. omega (arith, z), ap place_of (sym e))

-- a block of opening balances that was passed, and what was handed out of it
pub record Handed (b : List ℕ) (k before : ℕ) (r : Balances) : Type 0 where
  pub none : block_refusal b k before ≡ 0
  pub count_is : r.count ≡ stated_count b
  pub tariff_is : r.tariff ≡ tariff_in b
  pub balances_are : take r.count r.balances ≡ balances_of b

module _ (b : List ℕ) (k before : ℕ) (low : k < 2) {r : Balances} (h : r ≡ opening_of b k before) where
  -- the opening balances of block 0 or 1 are refused as the block is
  kind_none : balances_refusal b k before ≡ block_refusal b k before
  unfolding balances_refusal
  kind_none = rw (lt-leb 2 k low) (else_none (block_refusal b k before))

  -- the answer's number is the block's refusal
  number_told : number_of r.answer ≡ block_refusal b k before
  unfolding opening_of Tells
  number_told = rw h ((tells (balances_refusal b k before) k).0 ∙ kind_none)

  -- where it is a refusal its number is the block's refusal, there is one, and its place is the block
  pub refused : {m q : ℕ} → r.answer ≡ Refused m q → (m ≡ block_refusal b k before) × ((m ≡ 0 → ⊥) × (q ≡ k))
  unfolding opening_of
  refused {m} {q} e =
      let n : m ≡ block_refusal b k before = ap number_of (sym e) ∙ number_told in
      let s = refused_some (balances_refusal b k before) k m q (rw h at e) in
      (n, (λ z. s.0 (kind_none ∙ sym n ∙ z), s.1))

  -- where it passed there is none, and the count, the tariff and the balances were handed out
  pub handed : r.answer ≡ Passed → Handed b k before r
  unfolding opening_of
  handed e =
      let z : block_refusal b k before ≡ 0 = sym number_told ∙ ap number_of e in
      let n : balances_refusal b k before ≡ 0 = kind_none ∙ z in
      let count : r.count ≡ stated_count b = rw (h, n) in
      let table : r.balances ≡ balance_table b = rw (h, n) in
      let l = length_balances (stated_count b) b in
      record {
        none = z;
        count_is = count;
        tariff_is = rw (h, n);
        balances_are = rw (count, table) (take_at (balances_of b) _ (stated_count b) l);
      }
