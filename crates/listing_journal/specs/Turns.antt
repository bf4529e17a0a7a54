-- The turns of the program's loop over a journal: what a turn leaves, what is left once the loop has ended, and a whole listing. A
-- contract cannot say what the system read or wrote: how many bytes were read, and whether a text was written, is what the program tells
-- of itself. For inner functions only. Assumes nothing.
use Rattle.std.specs.Prelude.{◌≤◌, ℕ, Bool, None, Option, Some, false, true, List, [], ◌∷◌, ◌++◌, ◌≡◌, eqb, drop, length, take}
use Rattle.listing.specs.Chunks.{after_chunk, chunk_size, chunk_text, opened_by}
use Rattle.listing.specs.Listing.{Progress, opening_text}
use Rattle.listing_blocks.specs.Cursors.{progress_of}
use Rattle.listing_journal.specs.declared.ListResult.{ListResult}
use Rattle.listing_journal.specs.declared.TurnResult.{TurnResult}
use Rattle.listing_lines.specs.Lines.{header_line}
use Rattle.pair_rows.specs.Rows.{FiguresReady}
use Rattle.wire.specs.BigEndian.{every}

-- the listing goes on after a chunk whose text was written, of which n bytes were read, all that it can have, and that has no bad block
unfoldable pub goes_on : Bool → ℕ → Bool → Bool
goes_on written n going = every (written ∷ eqb n chunk_size ∷ going ∷ [])

-- where the listing stands after a turn
abbrev pub after_turn : Progress (List ℕ) → List ℕ → Bool → Progress (List ℕ)
after_turn p chunk written =
    record {
      state = (after_chunk p chunk).state;
      index = (after_chunk p chunk).index;
      block = (after_chunk p chunk).block;
      before = (after_chunk p chunk).before;
      going = goes_on written (length chunk) (after_chunk p chunk).going;
    }

-- a turn from where p stands, as it tells of itself: what it says it read is the chunk, the text that it says it handed on is the chunk's,
-- and by these and by what it says of the write it leaves the cursor, whether the listing goes on, and the state s where the listing stands
-- then
pub record TurnFrom (p : Progress (List ℕ)) (input out : List ℕ) (t : TurnResult) (going : Bool) (s : List ℕ) : Type 0 where
  pub read_fits : t.read ≤ length input
  pub text_fits : t.text ≤ length out
  pub text_is : take t.text out ≡ chunk_text p (take t.read input)
  pub stands : progress_of t.cursor going s ≡ after_turn p (take t.read input) t.written

-- a turn after which the listing goes on, with what the next one needs
pub record TurnGoesOn (p : Progress (List ℕ)) (input out : List ℕ) (t : TurnResult) (s index : List ℕ) : Type 0 where
  pub turns : TurnFrom p input out t true s
  pub ready : FiguresReady s index t.cursor.figures

-- a turn after which it does not
abbrev pub TurnStops : Progress (List ℕ) → List ℕ → List ℕ → TurnResult → List ℕ → Type 0
TurnStops p input out t s = TurnFrom p input out t false s

-- q is reached from p by turns after each of which the listing goes on: each with a full chunk, written, and no bad block
pub data Reached (p : Progress (List ℕ)) : Progress (List ℕ) → Type 0 where
  here : Reached p p
  turned : {q : Progress (List ℕ)} → Reached p q → (chunk : List ℕ) (written : Bool) → (after_turn q chunk written).going ≡ true
      → Reached p (after_turn q chunk written)

-- the last turn from p: made where the listing still went on, and by what it tells of itself it does not go on
pub record LastTurnFrom (p : Progress (List ℕ)) (input out : List ℕ) (t : TurnResult) (s : List ℕ) : Type 0 where
  pub from : Progress (List ℕ)
  pub reached : Reached p from
  pub last : TurnFrom from input out t false s

-- ## A whole journal

-- the text of the opening in a journal's first bytes, and where it is accepted the text of the rest
abbrev pub start_text : List ℕ → List ℕ → List ℕ
start_text bytes rest = opening_text (take 512 bytes) (take 512 (drop 512 bytes)) rest

-- a last turn from p, whatever it read, handed on and left
pub record SomeLastTurn (p : Progress (List ℕ)) (t : TurnResult) : Type 0 where
  pub input : List ℕ
  pub out : List ℕ
  pub state : List ℕ
  pub ended : LastTurnFrom p input out t state

-- a last turn from p is what there is
abbrev pub HasLastTurn : Progress (List ℕ) → Option TurnResult → Type 0
HasLastTurn p last = (t : TurnResult) × (last ≡ Some t) × SomeLastTurn p t

-- a journal's listing, as it tells of itself, for some bytes and texts, since its buffers are its own: as many bytes as it says it read
-- first, no more than blocks 0 and 1, and the text that it says it handed on first is theirs; where that was not written, or the opening
-- was refused, after which a listing has no text, no turn was made; else the rest's text comes after it, and turns led from the opening to
-- a last one, after which the listing does not go on
pub record JournalListed (r : ListResult) : Type 0 where
  pub bytes : List ℕ
  pub bytes_long : length bytes ≡ r.first
  pub bytes_fit : r.first ≤ 1024
  pub out : List ℕ
  pub text_fits : r.end ≤ length out
  pub text_is : take r.end out ≡ header_line ++ start_text bytes []
  pub unprinted : r.printed ≡ false → r.last ≡ None
  pub refused : r.opened ≡ false → (r.last ≡ None) × ((rest : List ℕ) → start_text bytes rest ≡ start_text bytes [])
  pub accepted : r.opened ≡ true → (rest : List ℕ) → start_text bytes rest ≡ start_text bytes [] ++ rest
  pub lists : r.printed ≡ true → r.opened ≡ true → HasLastTurn (opened_by (take 512 bytes) (take 512 (drop 512 bytes))) r.last
