-- The lines of a block's records, a block's text or its fault, and the blocks of a chunk, one after the other: what the functions' loops
-- cite. Assumes nothing.
use Rattle.wire.proofs.Prelude.{Bool, List, [], ◌*◌, ◌++◌, ◌+◌, ◌<◌, ◌∙◌, ◌∷◌, ◌≡◌, ◌≤◌, add-one, ap, append_assoc, append-nil, arith, drop}
use Rattle.wire.proofs.Prelude.{false, length, length-append, length-drop, length-take, take_at, drop_at, min, refl, suc, sym, take, true, zero, ℕ}
use Rattle.answers.proofs.Answers.{refused_instead}
use Rattle.answers.proofs.Refusals.{numbered}
use Rattle.answers.specs.Answers.{Refused, answer, number_of}
use Rattle.answers.specs.Refusals.{Numbered, refused_by}
use Rattle.answers.specs.declared.refusal.Refusal.{Refusal}
use Rattle.std.specs.Prelude.{Err, Ok, OnErr, OnOk, Result}
use Rattle.journal_blocks.proofs.Checking.{right_facts}
use Rattle.journal_blocks.proofs.Forming.{formed_block_facts}
use Rattle.journal_blocks.proofs.Items.{length_records}
use Rattle.journal_blocks.proofs.Sizes.{records_limit}
use Rattle.journal_blocks.specs.Blocks.{first_records, max_block, record_part, stated_count}
use Rattle.journal_blocks.specs.Checked.{block_refusal}
use Rattle.listing.proofs.Blocks.{blocks_next, blocks_stopped, lines_append, state_last, text_of}
use Rattle.listing.specs.Chunks.{after_blocks, after_chunk, chunk_text, state_figures}
use Rattle.listing.specs.Listing.{after_block, block_text, blocks_in, blocks_text, record_lines, state_listed}
use Rattle.listing_blocks.specs.Cursors.{progress_after, progress_of}
use Rattle.listing_blocks.specs.declared.cursor.Cursor.{Cursor}
use Rattle.listing_lines.specs.Lines.{fault_line, figures_text, record_line}
use Rattle.pair_core.specs.Layout.{pair_view_of, pair_words_checker}
use Rattle.pair_rows.specs.Rows.{FiguresReady, Row, row_of, row_told}
use Rattle.pair_rows.specs.declared.Figures.{Figures}
use Rattle.rules.proofs.ListCalls.{cut_first}
use Rattle.rules.proofs.Parts.{drop_least, take_least}
use Rattle.rules.specs.Lists.{cut}
use Rattle.rules.specs.Calls.{call_one}

-- ## The records of a block

-- the text of a row's figures
abbrev row_text : Row → List ℕ
row_text row = figures_text row.home row.far row.flight

-- the text of figures
abbrev text_for : Figures → List ℕ
text_for figures = figures_text figures.home figures.far figures.flight

-- a record of a block has 32 bytes
pub part_long : (b : List ℕ) (i : ℕ) {x : List ℕ} → x ≡ record_part b i → length b ≡ 512 → i < 14 → length x ≡ 32
unfolding record_part
part_long b i e l h = rw e (omega (arith, length-take 32 (drop (32 + 32 * i) b), length-drop (32 + 32 * i) b))

-- after i records of a block: the text, the state, what goes with it, and the text of its figures
pub record Listed (block : List ℕ) (first : ℕ) (d start : List ℕ) (i : ℕ) (e s index : List ℕ) (figures : Figures) (text : List ℕ) : Type 0 where
  pub puts : e ≡ d ++ record_lines pair_words_checker state_figures start first (first_records i block)
  pub leaves : s ≡ state_listed pair_words_checker start (first_records i block)
  pub ready : FiguresReady s index figures
  pub text_is : text ≡ state_figures s
  pub room : length e ≤ length d + i * 128

-- before the first
pub listed_start : {block d s index text : List ℕ} {first : ℕ} {figures : Figures} → FiguresReady s index figures → text ≡ text_for figures
    → Listed block first d s 0 d s index figures text
unfolding record_lines first_records state_listed
listed_start {d = d} a t =
    record {
      puts = sym (append-nil d);
      leaves = refl;
      ready = a;
      text_is = t ∙ ap row_text a.row_is;
      room = omega arith;
    }

-- what `next_figures` tells
abbrev Moved : List ℕ → List ℕ → List ℕ → List ℕ → Result Unit Refusal → Figures → Type 0
Moved s b t index judged figures =
    (row_told judged figures ≡ row_of (pair_words_checker.judge s b) (pair_view_of (call_one pair_words_checker s b).state))
    × ((t ≡ (call_one pair_words_checker s b).state) × FiguresReady t index figures)

-- what `put_figures_if` tells
abbrev FiguresPut : Result Unit Refusal → Figures → List ℕ → List ℕ → Type 0
FiguresPut judged figures text new = OnOk judged (new ≡ text_for figures) × OnErr judged (new ≡ text)

-- a refused record leaves the state
state_left : (s b : List ℕ) {n : ℕ} → 0 < n → n ≡ pair_words_checker.judge s b → (call_one pair_words_checker s b).state ≡ s
unfolding call_one
state_left s b {n} h e = go (pair_words_checker.judge s b) refl
  where
    go : (k : ℕ) → pair_words_checker.judge s b ≡ k → (call_one pair_words_checker s b).state ≡ s
    go zero q = absurd (omega (arith, e, q))
    go (suc k) q = rw q

-- the text of the figures after a record
text_after : (s b t text new : List ℕ) (judged : Result Unit Refusal) (figures : Figures) {index : List ℕ}
    → Moved s b t index judged figures → text ≡ state_figures s → FiguresPut judged figures text new → new ≡ state_figures t
unfolding Numbered
text_after s b t text new (Ok x) figures w a u = u.0 ∙ ap row_text w.1.1.row_is
text_after s b t text new (Err r) figures w a u =
    let left = state_left s b ((numbered r r).0) (ap (λ (x : Row). x.refusal) w.0) in
    u.1 ∙ a ∙ ap state_figures (sym (w.1.0 ∙ left))

-- a record more
pub listed_next : {block d start e e' s t index index' text new b : List ℕ} {first i : ℕ} {figures last : Figures} (judged : Result Unit Refusal)
    → Listed block first d start i e s index last text → b ≡ record_part block i → Moved s b t index' judged figures
    → FiguresPut judged figures text new → e' ≡ e ++ record_line (first + i) b (refused_by judged) new → length e' ≤ length e + 128
    → Listed block first d start (i + 1) e' t index' figures new
unfolding record_lines first_records
listed_next {block} {d} {start} {s = s} {t = t} {text = text} {new = new} {b = b} {first = first} {i = i} {figures = figures} judged a q w u v z =
    let told : refused_by judged ≡ pair_words_checker.judge s b = ap (λ (x : Row). x.refusal) w.0 in
    let text_is : new ≡ state_figures t = text_after s b t text new judged figures w a.text_is u in
    let xs = first_records i block in
    rw (add-one i)
    (record {
      puts = rw (
        lines_append pair_words_checker state_figures start first xs (record_part block i ∷ []),
        length_records i block,
        append-nil,
        ← append_assoc,
        ← a.puts,
      )
          (rw (text_is, w.1.0, told, a.leaves, q) at v);
      leaves = w.1.0 ∙ rw (a.leaves, q) (sym (state_last pair_words_checker start xs (record_part block i)));
      ready = w.1.1;
      text_is = text_is;
      room = omega (arith, z, a.room);
    })

-- ## A block

-- the text of a bad one, and where the listing stands then
pub record Stopped (cursor : Cursor) (s b : List ℕ) (m : ℕ) : Type 0 where
  pub text : block_text pair_words_checker state_figures (progress_of cursor true s) b ≡ fault_line m cursor.block
  pub stands : progress_of cursor false s ≡ after_block pair_words_checker (progress_of cursor true s) b

-- by its refusal
pub block_stopped : (cursor : Cursor) (s b : List ℕ) (r q : ℕ) → Refused r q ≡ answer (block_refusal b cursor.block cursor.before) cursor.block
    → Stopped cursor s b r
unfolding after_block block_text
block_stopped cursor s b r q e = go (block_refusal b cursor.block cursor.before) refl e
  where
    go : (m : ℕ) → block_refusal b cursor.block cursor.before ≡ m → Refused r q ≡ answer m cursor.block → Stopped cursor s b r
    go zero x y = absurd (omega (arith, refused_instead {A = ℕ} 0 cursor.block r q 0 1 (sym y)))
    go (suc m) x y = rw (ap number_of y) (record { text = rw x; stands = rw x })

-- what the lines of a passed one's records need
pub record BlockPassed (cursor : Cursor) (b : List ℕ) : Type 0 where
  pub none : block_refusal b cursor.block cursor.before ≡ 0
  pub low : cursor.block ≤ max_block
  pub long : length b ≡ 512
  pub count_fits : stated_count b ≤ 14

-- by its refusal
pub passed_of_lem : (cursor : Cursor) (b : List ℕ) → block_refusal b cursor.block cursor.before ≡ 0 → BlockPassed cursor b
passed_of_lem cursor b e =
    let r = right_facts b cursor.block cursor.before e in
    let f = (formed_block_facts b cursor.block cursor.before r.formed).fits in
    record { none = e; low = r.low; long = r.long; count_fits = omega (arith, f, records_limit cursor.block cursor.records) }

-- its text, and where the listing stands then, from those of its records
pub passed_listed : {cursor : Cursor} (r : Cursor) (s d : List ℕ) {t b e : List ℕ} {count : ℕ} {K : Type 0} → BlockPassed cursor b
    → count ≡ stated_count b
    → (e ≡ d ++ record_lines pair_words_checker state_figures s cursor.index (first_records count b))
    × ((progress_of r true t ≡ progress_after cursor count (state_listed pair_words_checker s (first_records count b))) × K)
    → (e ≡ d ++ block_text pair_words_checker state_figures (progress_of cursor true s) b)
    × ((progress_of r true t ≡ after_block pair_words_checker (progress_of cursor true s) b) × K)
unfolding after_block block_text
passed_listed r s d a n p = rw a.none (rw n at p)

-- ## The blocks of a chunk

-- with the bytes `rest` of a chunk still to come: the text so far, what is left of the text and of where the listing goes, and the room that
-- is taken
pub record ChunkListed (start : Cursor) (first chunk d rest : List ℕ) (cursor : Cursor) (s e index : List ℕ) : Type 0 where
  pub text : List ℕ
  pub puts : e ≡ d ++ text
  pub left : chunk_text (progress_of start true first) chunk ≡ text ++ text_of (progress_of cursor true s) (blocks_in rest)
  pub goes_to : after_chunk (progress_of start true first) chunk ≡ after_blocks (progress_of cursor true s) (blocks_in rest)
  pub ready : FiguresReady s index cursor.figures
  pub blocks : ℕ
  pub room : length e ≤ length d + blocks * (14 * 128)
  pub place : (length rest ≡ 0 → ⊥) → length rest + 512 * blocks ≡ length chunk

-- before the first block
pub chunk_start : {start : Cursor} {s chunk d index : List ℕ} → FiguresReady s index start.figures
    → ChunkListed start s chunk d chunk start s d index
chunk_start {d = d} r =
    record {
      text = [];
      puts = sym (append-nil d);
      left = refl;
      goes_to = refl;
      ready = r;
      blocks = 0;
      room = omega arith;
      place = λ _. omega arith;
    }

-- what `list_chunk` tells, by whether the listing goes on
abbrev Done : Cursor → List ℕ → List ℕ → List ℕ → Cursor → Bool → List ℕ → List ℕ → List ℕ → Type 0
Done start first chunk d cursor going s e index =
    (e ≡ d ++ chunk_text (progress_of start true first) chunk)
    × ((progress_of cursor going s ≡ after_chunk (progress_of start true first) chunk)
    × FiguresReady s index cursor.figures)

-- what `list_block` tells, by the same
abbrev BlockListed : Cursor → List ℕ → List ℕ → List ℕ → Cursor → Bool → List ℕ → List ℕ → List ℕ → Type 0
BlockListed start first block d cursor going s e index =
    (e ≡ d ++ block_text pair_words_checker state_figures (progress_of start true first) block)
    × ((progress_of cursor going s ≡ after_block pair_words_checker (progress_of start true first) block)
    × (FiguresReady s index cursor.figures × (length e ≤ length d + 14 * 128)))

module _ {start : Cursor} {first chunk d rest : List ℕ} {cursor : Cursor} {s e index : List ℕ}
    (a : ChunkListed start first chunk d rest cursor s e index) where
  -- there is room for a block more
  pub chunk_room_lem : {n : ℕ} → (length rest ≡ 0 → ⊥) → length chunk ≤ 64 * 512 → length d + 64 * (14 * 128) ≤ n → length e + 14 * 128 ≤ n
  chunk_room_lem l m n = omega (arith, a.place l, l, a.room)

  module _ (block later : List ℕ) (cuts : rest ≡ block ++ later) (size : length block ≡ min 512 (length rest)) (some : length rest ≡ 0 → ⊥)
    where
      -- the text of a block, and then of those after it
      parts : blocks_in rest ≡ block ∷ blocks_in later
      parts =
          let k : min (length rest) 512 ≡ length block = omega (arith, size) in
          let t = sym (take_least 512 rest) ∙ ap (λ (j : ℕ). take j rest) k ∙ ap (take (length block)) cuts ∙ take_at block later (length block) refl in
          let d = sym (drop_least 512 rest) ∙ ap (λ (j : ℕ). drop j rest) k ∙ ap (drop (length block)) cuts ∙ drop_at block later (length block) refl in
          cut_first 511 rest (omega (arith, some)) ∙ rw (t, d) refl

      -- a block more
      pub chunk_next : (r : Cursor) {t e' index' : List ℕ} → BlockListed cursor s block e r true t e' index'
          → ChunkListed start first chunk d later r t e' index'
      chunk_next r p =
          let text = block_text pair_words_checker state_figures (progress_of cursor true s) block in
          let next = blocks_next (progress_of cursor true s) block (blocks_in later) refl in
          record {
            text = a.text ++ text;
            puts = p.0 ∙ rw a.puts (append_assoc d a.text text);
            left = a.left ∙ rw (parts, next.0, ← p.1.0, append_assoc);
            goes_to = a.goes_to ∙ rw (parts, next.1, ← p.1.0);
            ready = p.1.1.0;
            blocks = a.blocks + 1;
            room = omega (arith, a.room, p.1.1.1);
            place = λ z. omega (arith, a.place some, ap length cuts, length-append block later, size, z);
          }

      -- a bad block, after which the listing has stopped
      pub chunk_stopped : (r : Cursor) {t e' index' : List ℕ} → BlockListed cursor s block e r false t e' index'
          → Done start first chunk d r false t e' index'
      chunk_stopped r {t} p =
          let text = block_text pair_words_checker state_figures (progress_of cursor true s) block in
          let next = blocks_next (progress_of cursor true s) block (blocks_in later) refl in
          let none = blocks_stopped (progress_of r false t) (blocks_in later) refl in
          let last = a.left ∙ rw (parts, next.0, ← p.1.0, none.0, append-nil) in
          (p.0 ∙ rw (a.puts, last) (append_assoc d a.text text), (sym (a.goes_to ∙ rw (parts, next.1, ← p.1.0, none.1)), p.1.1.0))

  -- no block is left
  pub chunk_end : length rest ≡ 0 → Done start first chunk d cursor true s e index
  unfolding after_blocks blocks_text cut
  chunk_end l =
      let none : blocks_in rest ≡ [] = rw l refl in
      (a.puts ∙ ap (λ (t : List ℕ). d ++ t) (sym (a.left ∙ rw none (append-nil a.text))), (sym (a.goes_to ∙ rw none), a.ready))
