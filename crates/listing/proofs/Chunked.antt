-- The claim about the listing in chunks: the opening and the program's chunks have the text that the rules' listing has. The listing over
-- the program's states is that over the rules' states, and chunks are cut into the blocks that all bytes are cut into. Assumes nothing.
use Rattle.wire.proofs.Prelude.{Bool, List, [], ◌&&◌, ◌*◌, ◌++◌, ◌+◌, ◌<◌, ◌∙◌, ◌∷◌, ◌≡◌, ◌≤◌, ap, ap₂, arith, drop, drop-drop, drop-nil}
use Rattle.wire.proofs.Prelude.{drop_of_length-le, eqb, eqb-false, eqb-true, false, length, length-drop, length-take, refl, suc, suc-add}
use Rattle.wire.proofs.Prelude.{sym, take, take-nil, take-take, true, zero, zero-add, ℕ}
use Rattle.journal_blocks.specs.Blocks.{balances_of, max_block, records_of, stated_count, tariff_in}
use Rattle.journal_blocks.specs.Checked.{block_refusal}
use Rattle.ledgers.specs.Limits.{capacity}
use Rattle.listing.proofs.Blocks.{blocks_stopped, text_append, text_of, went_on}
use Rattle.listing.specs.Chunks.{ListedInChunks, after_chunk, chunk_size, chunk_text, chunks_text, most_chunks, opened_by, state_figures}
use Rattle.listing.specs.Listing.{Progress, after_block, block_text, blocks_in, blocks_text, figures_line, listing, opened_progress}
use Rattle.listing.specs.Listing.{opening_text}
use Rattle.listing.specs.Listing.{progress_by, record_lines, state_listed, unless_fault, while_going}
use Rattle.listing_lines.specs.Lines.{header_line, open_line, record_line}
use Rattle.pair_core.proofs.Opened.{opened_ready, opened_view}
use Rattle.pair_core.proofs.Passing.{next_of}
use Rattle.pair_core.specs.Layout.{accepts_pair, pair_view_of, pair_words_checker}
use Rattle.records.specs.Records.{reading}
use Rattle.rules.proofs.ListCalls.{cut_first}
use Rattle.rules.specs.Calls.{call_one}
use Rattle.rules.specs.Lists.{cut}
use Rattle.rules.specs.PairValidator.{PairView, pair_judge, pair_opened, pair_opening_refusal, pair_validator}
use Rattle.rules.specs.Rules.{Read, Reading, Unreadable, after_bytes}

-- ## The program's states and the rules'

-- where a listing over the program's states stands, over the rules' states
abbrev viewed : Progress (List ℕ) → Progress PairView
viewed p = record { state = pair_view_of p.state; index = p.index; block = p.block; before = p.before; going = p.going }

-- a state of the program is accepted and is, seen as the rules' state, this one
record Carried (s : List ℕ) (v : PairView) : Type 0 where
  sound : accepts_pair s ≡ true
  view : pair_view_of s ≡ v

-- after a record that passes the program's state is accepted, and is the rules' state after it
passed_carried : (s b : List ℕ) → accepts_pair s ≡ true → pair_words_checker.judge s b ≡ 0
    → Carried (pair_words_checker.after s b) ((pair_validator capacity).after (pair_view_of s) b)
unfolding after_bytes
passed_carried s b z j = go (reading b) refl j
  where
    go : (x : Reading) → reading b ≡ x → pair_judge capacity (pair_view_of s).pair x ≡ 0
        → Carried (pair_words_checker.after s b) ((pair_validator capacity).after (pair_view_of s) b)
    go Unreadable q h = absurd (omega arith)
    go (Read r) q h =
        let n = next_of s z b r q h in
        rw q (record { sound = n.accepted; view = n.view })

-- so it is after a record, passed or refused
record_carried : (s b : List ℕ) → accepts_pair s ≡ true
    → Carried (call_one pair_words_checker s b).state (call_one (pair_validator capacity) (pair_view_of s) b).state
unfolding call_one
record_carried s b z = go (pair_words_checker.judge s b) refl
  where
    go : (n : ℕ) → pair_words_checker.judge s b ≡ n
        → Carried (call_one pair_words_checker s b).state (call_one (pair_validator capacity) (pair_view_of s) b).state
    go zero q = rw q (passed_carried s b z q)
    go (suc n) q = rw q (record { sound = z; view = refl })

-- so it is after records
records_carried : (s : List ℕ) (bs : List (List ℕ)) → accepts_pair s ≡ true
    → Carried (state_listed pair_words_checker s bs) (state_listed (pair_validator capacity) (pair_view_of s) bs)
unfolding state_listed
records_carried s [] z = record { sound = z; view = refl }
records_carried s (b ∷ bs) z =
    let c = record_carried s b z in rw (← c.view) (records_carried (call_one pair_words_checker s b).state bs c.sound)

-- the lines of records are the same over both
lines_carried : (s : List ℕ) (i : ℕ) (bs : List (List ℕ)) → accepts_pair s ≡ true
    → record_lines pair_words_checker state_figures s i bs ≡ record_lines (pair_validator capacity) figures_line (pair_view_of s) i bs
unfolding record_lines
lines_carried s i [] z = refl
lines_carried s i (b ∷ bs) z =
    let c = record_carried s b z in
    let line = record_line i b (pair_words_checker.judge s b) (state_figures (call_one pair_words_checker s b).state) in
    rw (← c.view) (ap (λ (t : List ℕ). line ++ t) (lines_carried (call_one pair_words_checker s b).state (suc i) bs c.sound))

-- after a block the state is still accepted, and the listing stands at the same place over both
after_carried : (p : Progress (List ℕ)) (b : List ℕ) → accepts_pair p.state ≡ true
    → (accepts_pair (after_block pair_words_checker p b).state ≡ true)
    × (viewed (after_block pair_words_checker p b) ≡ after_block (pair_validator capacity) (viewed p) b)
unfolding after_block
after_carried p b z = go (block_refusal b p.block p.before)
  where
    go : (n : ℕ) → (accepts_pair (progress_by pair_words_checker n p b).state ≡ true)
        × (viewed (progress_by pair_words_checker n p b) ≡ progress_by (pair_validator capacity) n (viewed p) b)
    go zero = let r = records_carried p.state (records_of b) z in (r.sound, rw r.view)
    go (suc n) = (z, refl)

-- the text of blocks is the same over both
text_carried : (p : Progress (List ℕ)) (bs : List (List ℕ)) → accepts_pair p.state ≡ true
    → text_of p bs ≡ blocks_text (pair_validator capacity) figures_line (viewed p) bs
unfolding block_text blocks_text
text_carried p [] z = refl
text_carried p (b ∷ bs) z =
    let n = after_carried p b z in
    rw (lines_carried p.state p.index (records_of b) z, text_carried (after_block pair_words_checker p b) bs n.0, n.1)

-- ## The opening

-- the text of an opening has what comes after it only where the opening is accepted
opening_rest : (home far rest other : List ℕ) → (pair_opening_refusal (tariff_in home) (balances_of home) (balances_of far) ≡ 0 → rest ≡ other)
    → opening_text home far rest ≡ opening_text home far other
unfolding opening_text
opening_rest home far rest other e =
    ap (λ (t : List ℕ). unless_fault (block_refusal home 0 0) 0 (unless_fault (block_refusal far 1 (stated_count home)) 1 t))
    (go (open_line (figures_line (pair_opened (tariff_in home) (balances_of home) (balances_of far)))) (pair_opening_refusal (tariff_in home) (balances_of home) (balances_of far)) e)
  where
    go : (line : List ℕ) (n : ℕ) → (n ≡ 0 → rest ≡ other) → unless_fault n 1 (line ++ rest) ≡ unless_fault n 1 (line ++ other)
    go line zero f = rw (f refl)
    go line (suc n) f = refl

-- after an accepted opening the text of blocks over the rules' states is the one over the program's
opened_carried : (home far : List ℕ) (bs : List (List ℕ)) → pair_opening_refusal (tariff_in home) (balances_of home) (balances_of far) ≡ 0
    → blocks_text (pair_validator capacity) figures_line (opened_progress (pair_opened (tariff_in home) (balances_of home) (balances_of far)) (stated_count far)) bs
    ≡ text_of (opened_by home far) bs
opened_carried home far bs q =
    rw (← (opened_view (tariff_in home) (balances_of home) (balances_of far) q))
    (sym (text_carried (opened_by home far) bs (opened_ready (tariff_in home) (balances_of home) (balances_of far) q).accepted))

-- ## Bytes cut into parts

-- all parts of a size
abbrev parts_of : ℕ → List ℕ → List (List ℕ)
parts_of size b = cut (length b) size b

-- the first bytes of a list, without their first ones, are the first of those after them
drop_take : {A : Type 0} (n m : ℕ) (l : List A) → drop n (take (n + m) l) ≡ take m (drop n l)
drop_take zero m l = rw (zero-add m)
drop_take (suc n) m [] = ap (drop (suc n)) (take-nil (suc n + m)) ∙ sym (take-nil m)
drop_take (suc n) m (x ∷ l) = rw (suc-add n m) (drop_take n m l)

-- the parts of bytes are those of the bytes before a multiple of the size and those of the bytes after it
parts_split : (m n k : ℕ) (b : List ℕ) → k ≡ m * suc n → parts_of (suc n) b ≡ parts_of (suc n) (take k b) ++ parts_of (suc n) (drop k b)
unfolding cut
parts_split zero n k b e = let z : k ≡ 0 = omega arith in rw z
parts_split (suc m) n k [] e = rw (take-nil {A = ℕ} k, drop-nil {A = ℕ} k)
parts_split (suc m) n k (x ∷ b) e =
    let z : k ≡ suc n + m * suc n = omega arith in
    let t = cut_first n (take k (x ∷ b)) (omega (arith, length-take k (x ∷ b))) in
    cut_first n (x ∷ b) (omega arith)
    ∙ ap (λ (l : List (List ℕ)). take (suc n) (x ∷ b) ∷ l) (parts_split m n (m * suc n) (drop (suc n) (x ∷ b)) refl)
    ∙ rw (t, take-take (suc n) k (x ∷ b) (omega arith), z, drop_take (suc n) (m * suc n) (x ∷ b), ← (drop-drop (m * suc n) (suc n) (x ∷ b)))

-- bytes as long as a multiple of the size have as many parts
parts_count : (m n : ℕ) (b : List ℕ) → length b ≡ m * suc n → length (parts_of (suc n) b) ≡ m
unfolding cut
parts_count zero n [] e = refl
parts_count zero n (x ∷ b) e = absurd (omega arith)
parts_count (suc m) n b e =
    ap length (cut_first n b (omega arith))
    ∙ ap suc (parts_count m n (drop (suc n) b) (omega (arith, length-drop (suc n) b)))

-- ## Chunks

-- a full chunk has 64 blocks
pub chunk_count : (chunk : List ℕ) → length chunk ≡ chunk_size → length (blocks_in chunk) ≡ 64
chunk_count chunk e = parts_count 64 511 chunk (omega arith)

-- as many chunks as reach beyond the greatest block number have the text of all blocks
chunks_all : (n : ℕ) (p : Progress (List ℕ)) (j : List ℕ) → p.block ≤ suc max_block → suc max_block < p.block + n * 64
    → text_of p (blocks_in j) ≡ chunks_text n p j
unfolding blocks_text chunks_text cut
chunks_all zero p j low beyond = absurd (omega arith)
chunks_all (suc n) p j low beyond =
    ap (text_of p) (parts_split 64 511 chunk_size j (omega arith))
    ∙ text_append p (blocks_in (take chunk_size j)) (blocks_in (drop chunk_size j))
    ∙ ap (λ (t : List ℕ). chunk_text p (take chunk_size j) ++ t)
    (go (eqb (length (take chunk_size j)) chunk_size) next.going refl refl (chunks_all n next (drop chunk_size j)))
  where
    next : Progress (List ℕ)
    next = after_chunk p (take chunk_size j)

    -- after a full chunk that does not stop it the listing goes on; after any other nothing is left to list
    go : (full on : Bool) → eqb (length (take chunk_size j)) chunk_size ≡ full → next.going ≡ on
        → (next.block ≤ suc max_block → suc max_block < next.block + n * 64
        → text_of next (blocks_in (drop chunk_size j)) ≡ chunks_text n next (drop chunk_size j))
        → text_of next (blocks_in (drop chunk_size j)) ≡ while_going (full && on) (chunks_text n next (drop chunk_size j))
    go true true f g ih =
        let w = went_on p (blocks_in (take chunk_size j)) g in
        let c = chunk_count (take chunk_size j) (eqb-true _ _ f) in
        let k = w.number in
        let l = w.low in
        ih (omega arith) (omega arith)
    go true false f g ih = (blocks_stopped next (blocks_in (drop chunk_size j)) g).0
    go false on f g ih =
        let h = eqb-false (length (take chunk_size j)) chunk_size f in
        rw (drop_of_length-le j {i = chunk_size} (omega (arith, length-take chunk_size j)))

-- the listing of every journal is the one in chunks
pub listed_in_chunks : ListedInChunks
unfolding ListedInChunks listing
listed_in_chunks j =
    ap (λ (t : List ℕ). header_line ++ t)
    (opening_rest (take 512 j) (take 512 (drop 512 j)) _ _ λ q.
    opened_carried (take 512 j) (take 512 (drop 512 j)) (blocks_in (drop 1024 j)) q
    ∙ chunks_all most_chunks (opened_by (take 512 j) (take 512 (drop 512 j))) (drop 1024 j) (omega arith) (omega arith))
