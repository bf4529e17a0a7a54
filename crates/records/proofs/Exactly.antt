-- Bytes read as a record exactly when they are its encoding. Assumes nothing.
use Rattle.wire.proofs.Prelude.{Bool, List, [], ◌++◌, ◌+◌, ◌<◌, ◌∙◌, ◌∷◌, ◌≡◌, ◌≤◌, ap, ap₂, arith, cond, drop, drop_of_length-le, eqb}
use Rattle.wire.proofs.Prelude.{false, length, refl, subst, suc, sym, true, zero, ℕ}
use Rattle.ledgers.specs.Ledgers.{kind_at, kind_byte, ledger_at, ledger_byte, ledger_of}
use Rattle.ledgers.specs.Limits.{max_amount}
use Rattle.ledgers.specs.declared.Kind.{Kind}
use Rattle.ledgers.specs.declared.Kind.TheVariants.{Local, Receiving, Sending}
use Rattle.ledgers.specs.declared.Ledger.{Ledger}
use Rattle.ledgers.specs.declared.Ledger.TheVariants.{Far, Home}
use Rattle.records.proofs.Formed.{Formed, facts_formed, fields_formed, fields_in, formed_facts, formed_reads, read_formed}
use Rattle.records.proofs.Formed.{words_fields, words_formed_by}
use Rattle.records.specs.Fields.{field_bytes}
use Rattle.records.specs.Records.{Encodable, EncodingReads, Read, Readable, ReadsExactly, Record, encoding, reading, words_of}
use Rattle.records.specs.Records.{EncodedOnce}
use Rattle.wire.proofs.Lists.{bytes_zeros}
use Rattle.wire.proofs.Numbers.{bytes_then, drop_field, field_fits, value_back}
use Rattle.wire.specs.BigEndian.{All, Bytes, bytes_of, field, value_after}

-- ## From the bytes

-- kind, ledger and verdict bytes that are right are those of the case that is read
kind_byte_lem : (k : ℕ) (l : Ledger) → 0 < k → k ≤ 3 → bytes_of 1 k ≡ kind_byte (kind_at k l) ∷ []
unfolding bytes_of
kind_byte_lem zero l p q = absurd (omega arith)
kind_byte_lem (suc zero) l p q = refl
kind_byte_lem (suc (suc zero)) l p q = refl
kind_byte_lem (suc (suc (suc zero))) l p q = refl
kind_byte_lem (suc (suc (suc (suc k)))) l p q = absurd (omega arith)

-- the ledger of a kind is the one it was made with
pub kind_ledger : (k : ℕ) (l : Ledger) → ledger_of (kind_at k l) ≡ l
kind_ledger k l = go (eqb k 1) (eqb k 2)
  where
    go : (s t : Bool) → ledger_of (cond s (Local l) (cond t (Sending l) (Receiving l))) ≡ l
    go true t = refl
    go false true = refl
    go false false = refl

-- a byte that is 0 or 1 is the one of what it stands for
bit_byte : (f : ℕ → ℕ) → f 0 ≡ 0 → f 1 ≡ 1 → (n : ℕ) → n ≤ 1 → bytes_of 1 n ≡ f n ∷ []
unfolding bytes_of
bit_byte f p q zero h = rw p
bit_byte f p q (suc zero) h = rw q
bit_byte f p q (suc (suc n)) h = absurd (omega arith)

module _ (b : List ℕ) (y : Bytes b) (f : Formed b) where
  -- one field more
  next : (i n : ℕ) → i + n ≤ length b → {s t : List ℕ} → bytes_of n (field i n b) ≡ s → drop (i + n) b ≡ t → drop i b ≡ s ++ t
  next i n h p q = drop_field i n b y h ∙ (λ i. p i ++ q i)

  -- the bytes are the encoding of the record in them
  pub formed_encoded : b ≡ encoding (fields_in b)
  unfolding encoding field_bytes fields_in bytes_of
  formed_encoded =
      let long = f.long in
      let l : Ledger = ledger_at (field 1 1 b) in
      let o = ap (λ (m : Ledger). ledger_byte m ∷ []) (sym (kind_ledger (field 0 1 b) l)) in
      next 0 1 (omega arith) (kind_byte_lem (field 0 1 b) l f.kind_some f.kind_most)
      (next 1 1 (omega arith) (bit_byte (λ (n : ℕ). ledger_byte (ledger_at n)) refl refl (field 1 1 b) f.ledger_most ∙ o)
      (next 2 2 (omega arith) refl (next 4 2 (omega arith) refl (next 6 2 (omega arith) (ap (bytes_of 2) f.zeros_first)
      (next 8 8 (omega arith) refl (next 16 8 (omega arith) refl
      (next 24 1 (omega arith) (bit_byte (λ (n : ℕ). cond (eqb n 1) 1 0) refl refl (field 24 1 b) f.verdict_most)
      (next 25 7 (omega arith) (ap (bytes_of 7) f.zeros_last) (drop_of_length-le b {i = 32} (omega arith))))))))))

  -- which can be read
  pub formed_readable : Readable (fields_in b)
  unfolding fields_in
  formed_readable =
      let l = f.long in
      record {
        fits =
            record {
              sender_fits = field_fits 2 2 b y (omega arith);
              receiver_fits = field_fits 4 2 b y (omega arith);
              number_fits = field_fits 8 8 b y (omega arith);
              amount_fits = field_fits 16 8 b y (omega arith);
            };
        amount_some = omega (arith, f.amount_some);
        amount_most = omega (arith, f.amount_most);
      }

-- ## From the record

-- a kind reads back from its bytes
kind_back : (k : Kind) → kind_at (kind_byte k) (ledger_at (ledger_byte (ledger_of k))) ≡ k
kind_back (Local Home) = refl
kind_back (Local Far) = refl
kind_back (Sending Home) = refl
kind_back (Sending Far) = refl
kind_back (Receiving Home) = refl
kind_back (Receiving Far) = refl

-- a kind byte is 1, 2 or 3
kind_bounds : (k : Kind) → (0 < kind_byte k) × (kind_byte k ≤ 3)
kind_bounds (Local l) = (omega arith, omega arith)
kind_bounds (Sending l) = (omega arith, omega arith)
kind_bounds (Receiving l) = (omega arith, omega arith)

-- a ledger byte is 0 or 1
pub ledger_bound : (l : Ledger) → ledger_byte l ≤ 1
ledger_bound Home = omega arith
ledger_bound Far = omega arith

-- a verdict reads back from its byte
verdict_back : (t : Bool) → (eqb (cond t 1 0) 1 ≡ t) × (cond t 1 0 ≤ 1)
verdict_back true = (refl, omega arith)
verdict_back false = (refl, omega arith)

module _ (r : Record) (g : Encodable r) where
  -- byte 0 of an encoding
  f_kind : field 0 1 (encoding r) ≡ kind_byte r.kind
  unfolding field encoding field_bytes bytes_of value_after
  f_kind = omega arith

  -- byte 1
  f_ledger : field 1 1 (encoding r) ≡ ledger_byte (ledger_of r.kind)
  unfolding field encoding field_bytes bytes_of value_after
  f_ledger = omega arith

  -- bytes 16-23
  f_amount : field 16 8 (encoding r) ≡ r.amount
  unfolding field encoding field_bytes bytes_of
  f_amount = value_back 8 r.amount g.amount_fits

  -- byte 24
  f_verdict : field 24 1 (encoding r) ≡ cond r.verified 1 0
  unfolding field encoding field_bytes bytes_of value_after
  f_verdict = omega arith

  -- the record in the encoding
  pub encoding_holds : fields_in (encoding r) ≡ r
  unfolding fields_in field encoding field_bytes bytes_of
  encoding_holds =
      let k = ap₂ (λ (x y : ℕ). kind_at x (ledger_at y)) f_kind f_ledger ∙ kind_back r.kind in
      let v = ap (λ (x : ℕ). eqb x 1) f_verdict ∙ (verdict_back r.verified).0 in
      let s = value_back 2 r.sender g.sender_fits in
      let t = value_back 2 r.receiver g.receiver_fits in
      let n = value_back 8 r.number g.number_fits in
      λ i. record { kind = k i; sender = s i; receiver = t i; number = n i; amount = f_amount i; verified = v i }

  -- refusal 21 has nothing against it
  pub encoding_formed : 0 < r.amount → r.amount ≤ max_amount → Formed (encoding r)
  unfolding field encoding field_bytes bytes_of value_after
  encoding_formed some most =
      record {
        long = refl;
        kind_some = rw f_kind (kind_bounds r.kind).0;
        kind_most = rw f_kind (kind_bounds r.kind).1;
        ledger_most = rw f_ledger (ledger_bound (ledger_of r.kind));
        zeros_first = refl;
        amount_some = rw f_amount some;
        amount_most = rw f_amount most;
        verdict_most = rw f_verdict (verdict_back r.verified).1;
        zeros_last = refl;
      }

-- ## The theorem

-- one byte more
byte_first : (x : ℕ) (xs : List ℕ) → x < 256 → Bytes xs → Bytes (x ∷ xs)
unfolding All
byte_first x xs h y = (h, y)

-- an encoding has bytes only
pub encoding_bytes : (r : Record) → Bytes (encoding r)
unfolding encoding field_bytes
encoding_bytes r =
    byte_first _ _ (omega (arith, (kind_bounds r.kind).1)) (byte_first _ _ (omega (arith, ledger_bound (ledger_of r.kind)))
    (bytes_then 2 _ _ (bytes_then 2 _ _ (byte_first _ _ (omega arith) (byte_first _ _ (omega arith)
    (bytes_then 8 _ _ (bytes_then 8 _ _ (byte_first _ _ (omega (arith, (verdict_back r.verified).1)) (bytes_zeros 7)))))))))

-- encoding reads back
pub encoding_reads : EncodingReads
unfolding EncodingReads
encoding_reads r g =
    let f = encoding_formed r g.fits g.amount_some g.amount_most in
    let y = encoding_bytes r in
    formed_reads (encoding r) f.long (facts_formed (words_of (encoding r)) (words_formed_by (encoding r) y f.long f))
    ∙ ap Read (words_fields (encoding r) y f.long ∙ encoding_holds r g.fits)

-- no two records share their bytes
pub encoded_once : EncodedOnce
unfolding EncodedOnce
encoded_once r q g h e = sym (encoding_holds r g) ∙ ap fields_in e ∙ encoding_holds q h

-- bytes read exactly when they are an encoding
pub reads_exactly : ReadsExactly
unfolding ReadsExactly EncodingReads
reads_exactly b y r = (there, back)
  where
    there : reading b ≡ Read r → Readable r × (b ≡ encoding r)
    there h =
        let f = read_formed b r h in
        let g = fields_formed b y f.0 (formed_facts (words_of b) f.1) in
        let e = sym (words_fields b y f.0) ∙ f.2 in
        (subst Readable e (formed_readable b y g), formed_encoded b y g ∙ ap encoding e)

    back : Readable r × (b ≡ encoding r) → reading b ≡ Read r
    back h = ap reading h.1 ∙ encoding_reads r h.0
