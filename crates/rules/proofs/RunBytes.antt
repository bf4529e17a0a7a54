-- The records that calls of bytes hand in and pass are bytes, and what they read as can be read. Assumes nothing.
use Rattle.wire.proofs.Prelude.{List, [], ◌++◌, ◌<◌, ◌∷◌, ◌≡◌, ap, arith, drop, inl, inr, length, suc, sym, zero, ℕ, ⊎_elim}
use Rattle.answers.specs.Answers.{Answer}
use Rattle.answers.specs.Answers.{Passed, Refused}
use Rattle.ledgers.specs.Ledgers.{ledger_of}
use Rattle.records.proofs.Exactly.{encoding_reads, reads_exactly}
use Rattle.records.specs.Records.{EncodingReads, Readable, ReadsExactly, encoding, reading}
use Rattle.rules.specs.Arrivals.{Among, receiving_of}
use Rattle.rules.specs.Calls.{Call, CallBytes, Checker, call, handed, if_on, if_passed, list, one, passed_records, read_on, records_in}
use Rattle.rules.specs.Calls.{records_on}
use Rattle.rules.specs.Lists.{cut}
use Rattle.rules.specs.Rules.{Far, Home, Ledger, Read, Reading, Record, Unreadable}
use Rattle.wire.proofs.Lists.{all_append, all_drop, all_take}
use Rattle.wire.specs.BigEndian.{All, Bytes}

-- ## Bytes

-- parts of bytes are bytes
bytes_cut : (most n : ℕ) (b : List ℕ) → Bytes b → All Bytes (cut most n b)
unfolding cut All
bytes_cut zero n b h = tt
bytes_cut (suc most) n [] h = tt
bytes_cut (suc most) n (x ∷ b) h = (
  all_take (λ (x : ℕ). x < 256) n (x ∷ b) h,
  bytes_cut most n (drop n (x ∷ b)) (all_drop (λ (x : ℕ). x < 256) n (x ∷ b) h),
)

-- the records that a call hands in are bytes
pub handed_bytes : (d : Call) → CallBytes d → All Bytes (handed d)
unfolding All records_in
handed_bytes (one b) h = (h, tt)
handed_bytes (list b) h = bytes_cut (length b) 32 b h

-- the passed records of a run are bytes
pub passed_bytes : {S : Type 0} (c : Checker S) (s : S) (ds : List Call) → All CallBytes ds → All Bytes (passed_records c s ds)
unfolding passed_records All
passed_bytes c s [] h = tt
passed_bytes c s (d ∷ ds) h =
    let part : (a : Answer) → All Bytes (if_passed a (handed d)) = elim [ Passed ↦ handed_bytes d h.0 | Refused n place ↦ tt ] in
    all_append Bytes (if_passed (call c s d).answer (handed d)) (passed_records c (call c s d).state ds) (part (call c s d).answer)
    (passed_bytes c (call c s d).state ds h.1)

-- ## Records among them

-- one of two lists' records is one of the first or of the second
among_append : {C : Type 0} (x : Record) (xs ys : List Record) → Among x (xs ++ ys) → (Among x xs → C) → (Among x ys → C) → C
unfolding Among
among_append x [] ys m f g = g m
among_append x (y ∷ xs) ys m f g = ⊎_elim (λ e. f (inl e)) (λ r. among_append x xs ys r (λ k. f (inr k)) g) m

-- a record that stands for what was read is it
among_read : (l : Ledger) (x : Record) (y : Reading) → Among x (read_on l y) → y ≡ Read x
unfolding Among
among_read l x Unreadable m = absurd m
among_read l x (Read r) m = on l (ledger_of r.kind) m
  where
    on : (l k : Ledger) → Among x (if_on l r k) → Read r ≡ Read x
    on Home Home m = ⊎_elim (λ (e : x ≡ r). ap Read (sym e)) absurd m
    on Home Far m = absurd m
    on Far Home m = absurd m
    on Far Far m = ⊎_elim (λ (e : x ≡ r). ap Read (sym e)) absurd m

-- a record among those read from bytes can be read
pub among_readable : (l : Ledger) (x : Record) (bs : List (List ℕ)) → All Bytes bs → Among x (records_on l bs) → Readable x
unfolding records_on All Among ReadsExactly
among_readable l x [] h m = absurd m
among_readable l x (b ∷ bs) h m =
    among_append x (read_on l (reading b)) (records_on l bs) m
    (λ k. ((reads_exactly b h.0 x).0 (among_read l x (reading b) k)).0)
    (λ k. among_readable l x bs h.1 k)

-- and the bytes of a sending's arrival read as it, where the sending can be read
pub arrival_reads : (l : Ledger) (r : Record) → Readable r → reading (encoding (receiving_of l r)) ≡ Read (receiving_of l r)
unfolding EncodingReads receiving_of
arrival_reads l r g = encoding_reads (receiving_of l r) (omega (arith, g))
