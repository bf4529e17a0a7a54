-- A turn of the program's loop: what it leaves, and that as many turns as there are chunks end the listing. Assumes nothing.
use Rattle.wire.proofs.Prelude.{Bool, List, [], ◌*◌, ◌+◌, ◌∙◌, ◌∷◌, ◌≡◌, ap, arith, eqb, eqb-true, false, length}
use Rattle.wire.proofs.Prelude.{refl, sym, take, true, ℕ}
use Rattle.listing.proofs.Blocks.{went_on}
use Rattle.listing.proofs.Chunked.{chunk_count}
use Rattle.listing.specs.Chunks.{after_chunk, chunk_blocks, chunk_size}
use Rattle.listing.specs.Listing.{Progress, blocks_in, opened_progress}
use Rattle.listing_blocks.specs.Cursors.{progress_of}
use Rattle.listing_blocks.specs.declared.cursor.Cursor.{Cursor}
use Rattle.listing_journal.specs.Turns.{LastTurnFrom, Reached, TurnGoesOn, TurnStops, goes_on, here}
use Rattle.listing_journal.specs.Turns.{turned}
use Rattle.listing_journal.specs.declared.TurnResult.{TurnResult}
use Rattle.pair_rows.specs.Rows.{FiguresReady}
use Rattle.rules.proofs.Lists.{never_both_tests}
use Rattle.wire.specs.BigEndian.{every}

-- ## A turn

-- where the listing goes on, the chunk was full and had no bad block
goes_full : (written : Bool) (n : ℕ) (going : Bool) → goes_on written n going ≡ true → (n ≡ chunk_size) × (going ≡ true)
unfolding goes_on every
goes_full written n going h = go written (eqb n chunk_size) going refl h
  where
    go : (w f g : Bool) → eqb n chunk_size ≡ f → every (w ∷ f ∷ g ∷ []) ≡ true → (n ≡ chunk_size) × (g ≡ true)
    go false f g q k = absurd (never_both_tests (sym k))
    go true false g q k = absurd (never_both_tests (sym k))
    go true true false q k = absurd (never_both_tests (sym k))
    go true true true q k = (eqb-true n chunk_size q, refl)

-- ## Turn after turn

-- after turns from p, after each of which the listing goes on: they led from p to where it stands, and each gave 64 blocks their numbers
pub record Turns (p : Progress (List ℕ)) (input s index : List ℕ) (cursor : Cursor) (turns : ℕ) : Type 0 where
  pub input_long : length input ≡ chunk_size
  pub ready : FiguresReady s index cursor.figures
  pub reached : Reached p (progress_of cursor true s)
  pub numbers : cursor.block ≡ 2 + chunk_blocks * turns

-- before the first turn, which is made from the opening
pub turns_start : {input s index : List ℕ} (cursor : Cursor) {before : ℕ} → progress_of cursor true s ≡ opened_progress s before
    → length input ≡ chunk_size → FiguresReady s index cursor.figures → Turns (opened_progress s before) input s index cursor 0
turns_start cursor e i r =
    record {
      input_long = i;
      ready = r;
      reached = rw e here;
      numbers = ap (λ (x : Progress (List ℕ)). x.block) e;
    }

module _ {p : Progress (List ℕ)} {input s index : List ℕ} {cursor : Cursor} {turns : ℕ} (v : Turns p input s index cursor turns) where
  -- a turn more
  pub turns_next : {input' out' s' index' : List ℕ} {t : TurnResult} → TurnGoesOn (progress_of cursor true s) input' out' t s' index'
      → length input' ≡ length input → Turns p input' s' index' t.cursor (turns + 1)
  turns_next {input'} {t = t} d i =
      record {
        input_long = i ∙ v.input_long;
        ready = d.ready;
        reached = rw d.turns.stands (turned v.reached chunk t.written goes);
        numbers =
            let f = goes_full t.written (length chunk) (after_chunk (progress_of cursor true s) chunk).going goes in
            let w = went_on (progress_of cursor true s) (blocks_in chunk) f.1 in
            omega (arith, ap (λ (x : Progress (List ℕ)). x.block) d.turns.stands, w.number, chunk_count chunk f.0, v.numbers);
      }
    where
      chunk : List ℕ
      chunk = take t.read input'

      goes : goes_on t.written (length chunk) (after_chunk (progress_of cursor true s) chunk).going ≡ true
      goes = sym (ap (λ (x : Progress (List ℕ)). x.going) d.turns.stands)

  -- a last one
  pub turns_last : {input' out' s' : List ℕ} {t : TurnResult} → TurnStops (progress_of cursor true s) input' out' t s'
      → LastTurnFrom p input' out' t s'
  turns_last d = record { from = _; reached = v.reached; last = d }
