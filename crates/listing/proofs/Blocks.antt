-- A listing record by record and block by block: its text and where it stands, for records and blocks after others, and for a block
-- that stops it. Assumes nothing.
use Rattle.wire.proofs.Prelude.{Bool, List, [], ◌++◌, ◌+◌, ◌-◌, ◌∙◌, ◌∷◌, ◌≡◌, ◌≤◌, add-zero, ap, append_assoc, arith, false, length, refl}
use Rattle.wire.proofs.Prelude.{suc, sym, true, zero, ℕ}
use Rattle.journal_blocks.proofs.Checking.{right_facts}
use Rattle.journal_blocks.specs.Blocks.{max_block}
use Rattle.journal_blocks.specs.Checked.{block_refusal}
use Rattle.listing.specs.Chunks.{after_blocks, if_going, state_figures}
use Rattle.listing.specs.Listing.{Progress, after_block, block_text, blocks_text, progress_by, record_lines, state_listed, while_going}
use Rattle.pair_core.specs.Layout.{pair_words_checker}
use Rattle.rules.proofs.Lists.{never_both_tests}
use Rattle.rules.specs.Calls.{Checker, call_one}

-- ## Records after others, for any validator

module _ {S : Type 0} (c : Checker S) where
  -- the state is the one after the last record, from the state after the others
  pub state_last : (s : S) (bs : List (List ℕ)) (b : List ℕ) → state_listed c s (bs ++ b ∷ []) ≡ (call_one c (state_listed c s bs) b).state
  unfolding state_listed
  state_last s [] b = refl
  state_last s (x ∷ bs) b = state_last (call_one c s x).state bs b

  -- the lines of records after others are theirs, from the state and the index after the others on
  pub lines_append : (f : S → List ℕ) (s : S) (i : ℕ) (xs ys : List (List ℕ))
      → record_lines c f s i (xs ++ ys) ≡ record_lines c f s i xs ++ record_lines c f (state_listed c s xs) (i + length xs) ys
  unfolding record_lines state_listed
  lines_append f s i [] ys = rw (add-zero i)
  lines_append f s i (x ∷ xs) ys =
      let k : i + suc (length xs) ≡ suc i + length xs = omega arith in
      rw (k, lines_append f (call_one c s x).state (suc i) xs ys, append_assoc)

-- ## The program's listing, block by block

-- the text of blocks, over the program's states
abbrev pub text_of : Progress (List ℕ) → List (List ℕ) → List ℕ
text_of p bs = blocks_text pair_words_checker state_figures p bs

-- where it goes on, a block has its text, and then the others have theirs from where the listing stands after it
pub blocks_next : (p : Progress (List ℕ)) (b : List ℕ) (bs : List (List ℕ)) → p.going ≡ true
    → (text_of p (b ∷ bs) ≡ block_text pair_words_checker state_figures p b ++ text_of (after_block pair_words_checker p b) bs)
    × (after_blocks p (b ∷ bs) ≡ after_blocks (after_block pair_words_checker p b) bs)
unfolding blocks_text after_blocks
blocks_next p b bs g = rw g (refl, refl)

-- where it does not go on, blocks have no text and leave it
pub blocks_stopped : (p : Progress (List ℕ)) (bs : List (List ℕ)) → p.going ≡ false → (text_of p bs ≡ []) × (after_blocks p bs ≡ p)
unfolding blocks_text after_blocks
blocks_stopped p [] g = (refl, refl)
blocks_stopped p (b ∷ bs) g = rw g (refl, refl)

-- the text of blocks after others is theirs from where the listing stands after the others
pub text_append : (p : Progress (List ℕ)) (xs ys : List (List ℕ)) → text_of p (xs ++ ys) ≡ text_of p xs ++ text_of (after_blocks p xs) ys
unfolding blocks_text after_blocks
text_append p [] ys = refl
text_append p (b ∷ bs) ys =
    go p.going (λ g. (blocks_stopped p ys g).0) (text_append (after_block pair_words_checker p b) bs ys)
  where
    next : Progress (List ℕ)
    next = after_block pair_words_checker p b

    text : List ℕ
    text = block_text pair_words_checker state_figures p b

    go : (t : Bool) → (t ≡ false → text_of p ys ≡ []) → text_of next (bs ++ ys) ≡ text_of next bs ++ text_of (after_blocks next bs) ys
        → while_going t (text ++ text_of next (bs ++ ys))
        ≡ while_going t (text ++ text_of next bs) ++ text_of (if_going t p (after_blocks next bs)) ys
    go true f ih = rw ih (sym (append_assoc text (text_of next bs) _))
    go false f ih = sym (f refl)

-- ## A listing that goes on

-- a block after which the listing goes on is right and gives it the next number, and it went on before
right_going : (p : Progress (List ℕ)) (b : List ℕ) → (after_block pair_words_checker p b).going ≡ true
    → (p.going ≡ true) × (block_refusal b p.block p.before ≡ 0) × ((after_block pair_words_checker p b).block ≡ suc p.block)
unfolding after_block
right_going p b g = go (block_refusal b p.block p.before) g
  where
    go : (n : ℕ) → (progress_by pair_words_checker n p b).going ≡ true
        → (p.going ≡ true) × (n ≡ 0) × ((progress_by pair_words_checker n p b).block ≡ suc p.block)
    go zero h = (h, refl, refl)
    go (suc n) h = absurd (never_both_tests (sym h))

-- where the listing goes on after blocks it went on before them, each gave it the next number, and the last had a number in bounds
pub record WentOn (p : Progress (List ℕ)) (bs : List (List ℕ)) : Type 0 where
  pub went : p.going ≡ true
  pub number : (after_blocks p bs).block ≡ p.block + length bs
  pub low : length bs ≤ suc max_block - p.block

-- so it is
pub went_on : (p : Progress (List ℕ)) (bs : List (List ℕ)) → (after_blocks p bs).going ≡ true → WentOn p bs
unfolding after_blocks
went_on p [] g = record { went = g; number = omega arith; low = omega arith }
went_on p (b ∷ bs) g = go p.going refl g (went_on next bs)
  where
    next : Progress (List ℕ)
    next = after_block pair_words_checker p b

    go : (t : Bool) → p.going ≡ t → (if_going t p (after_blocks next bs)).going ≡ true
        → ((after_blocks next bs).going ≡ true → WentOn next bs) → WentOn p (b ∷ bs)
    go true q h ih =
        let e = ap (λ (x : Progress (List ℕ)). x.block) (blocks_next p b bs q).1 in
        let w = ih h in
        let r = right_going p b w.went in
        let f = (right_facts b p.block p.before r.1).low in
        record { went = q; number = omega (arith, e, w.number, r.2); low = omega (arith, w.low, r.2) }
    go false q h ih = absurd (never_both_tests (sym h ∙ q))
