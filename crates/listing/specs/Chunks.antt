-- The listing in the chunks in which the program reads a journal and writes its text: what the functions' contracts cite, and the
-- claim that the chunks' texts are the listing. Assumes nothing.
use Rattle.std.specs.Prelude.{ℕ, zero, suc, ◌*◌, Bool, true, false, ◌&&◌, List, [], ◌∷◌, ◌++◌, ◌≡◌, eqb, length, take, drop}
use Rattle.journal_blocks.specs.Blocks.{balances_of, records_per_block, stated_count, tariff_in}
use Rattle.listing.specs.Listing.{Progress, after_block, blocks_in, blocks_text, figures_line, listing, opened_progress, opening_text}
use Rattle.listing.specs.Listing.{while_going}
use Rattle.listing_lines.specs.Lines.{header_line, line_room}
use Rattle.pair_core.specs.Layout.{pair_opened_words, pair_view_of, pair_words_checker}

-- ## The program's state

-- the figures of the program's state, which is in words, are those of the rules' state
abbrev pub state_figures : List ℕ → List ℕ
state_figures s = figures_line (pair_view_of s)

-- the later progress where the listing goes on, and else this one
abbrev pub if_going : Bool → Progress (List ℕ) → Progress (List ℕ) → Progress (List ℕ)
if_going true p later = later
if_going false p later = p

-- where the listing stands after blocks, up to a bad one
unfoldable pub after_blocks : Progress (List ℕ) → List (List ℕ) → Progress (List ℕ)
after_blocks p [] = p
after_blocks p (b ∷ bs) = if_going p.going p (after_blocks (after_block pair_words_checker p b) bs)

-- ## Chunks

-- the blocks of a chunk
abbrev pub chunk_blocks : ℕ
chunk_blocks = 64

-- its bytes
abbrev pub chunk_size : ℕ
chunk_size = chunk_blocks * 512

-- the room that its lines take
abbrev pub chunk_room : ℕ
chunk_room = chunk_blocks * (records_per_block * line_room)

-- the most chunks after blocks 0 and 1, of which the last has a block beyond the greatest number
abbrev pub most_chunks : ℕ
most_chunks = 1024

-- the text of a chunk
abbrev pub chunk_text : Progress (List ℕ) → List ℕ → List ℕ
chunk_text p chunk = blocks_text pair_words_checker state_figures p (blocks_in chunk)

-- where the listing stands after it
abbrev pub after_chunk : Progress (List ℕ) → List ℕ → Progress (List ℕ)
after_chunk p chunk = after_blocks p (blocks_in chunk)

-- the program's loop: at most n chunks of what is left, up to a bad block or to a chunk that is not full
unfoldable pub chunks_text : ℕ → Progress (List ℕ) → List ℕ → List ℕ
chunks_text zero p j = []
chunks_text (suc n) p j =
    chunk_text p (take chunk_size j)
    ++ while_going
    (eqb (length (take chunk_size j)) chunk_size && (after_chunk p (take chunk_size j)).going)
    (chunks_text n (after_chunk p (take chunk_size j)) (drop chunk_size j))

-- ## The claim

-- where the program's listing stands after an accepted opening of blocks 0 and 1
abbrev pub opened_by : List ℕ → List ℕ → Progress (List ℕ)
opened_by home far = opened_progress (pair_opened_words (tariff_in home) (balances_of home) (balances_of far)) (stated_count far)

-- the listing of every journal is the header, the opening of its first 1,024 bytes, and the text of the program's chunks of the rest
unfoldable pub ListedInChunks : Type 0
ListedInChunks =
    (j : List ℕ)
    → listing j
    ≡ header_line
    ++ opening_text (take 512 j) (take 512 (drop 512 j))
    (chunks_text most_chunks (opened_by (take 512 j) (take 512 (drop 512 j))) (drop 1024 j))
