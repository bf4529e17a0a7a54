-- The record of 32 bytes (document 01, "The record"): its reading and its encoding. Assumes nothing.
use Rattle.std.specs.Prelude.{ℕ, ◌+◌, ◌-◌, ◌/◌, ◌%◌, ◌<◌, ◌≤◌, ◌^◌, Bool, cond, List, [], ◌∷◌, ◌↔◌, ◌≡◌, eqb, ltb, leb, length, Option}
use Rattle.std.specs.Prelude.{Some, None}
use Rattle.ledgers.specs.Ledgers.{kind_at, kind_byte, ledger_at, ledger_byte, ledger_of}
use Rattle.ledgers.specs.Limits.{max_amount}
use Rattle.records.specs.Fields.{field_bytes}
use Rattle.wire.specs.BigEndian.{Bytes, every, field}
pub use Rattle.records.specs.declared.Record.{Record}
pub use Rattle.records.specs.declared.Words.{Words}

-- ## Words

-- the four words of 32 bytes, eight bytes each: 0-7, the number, the amount, 24-31
abbrev pub words_of : List ℕ → Words
words_of b = record { head = field 0 8 b; number = field 8 8 b; amount = field 16 8 b; tail = field 24 8 b }

-- the number in the n bytes from byte i on of a word
abbrev pub within : ℕ → ℕ → ℕ → ℕ
within i n w = w / 256 ^ (8 - (i + n)) % 256 ^ n

-- ## Reading

-- what refusal 21 asks of a record's words: kind, ledger, verdict and zero bytes right; an amount that is not 0 and not above
-- 2^63-1. All 2^64 numbers of transfers are right, 0 too
unfoldable pub formed : Words → Bool
formed w =
    every
    (ltb 0 (within 0 1 w.head)
    ∷ leb (within 0 1 w.head) 3
    ∷ leb (within 1 1 w.head) 1
    ∷ eqb (within 6 2 w.head) 0
    ∷ ltb 0 w.amount
    ∷ leb w.amount max_amount
    ∷ leb (within 0 1 w.tail) 1
    ∷ eqb (within 1 7 w.tail) 0
    ∷ []
    )

-- the record in its words: 0 kind, 1 ledger, 2-3 sender, 4-5 receiver; number of the transfer; amount; 24 verdict
unfoldable pub record_in : Words → Record
record_in w =
    record {
      kind = kind_at (within 0 1 w.head) (ledger_at (within 1 1 w.head));
      sender = within 2 2 w.head;
      receiver = within 4 2 w.head;
      number = w.number;
      amount = w.amount;
      verified = eqb (within 0 1 w.tail) 1;
    }

-- what words or bytes read as
pub data Reading : Type 0 where
  Read : Record → Reading
  Unreadable : Reading

-- the reading that a result of the code is
abbrev pub read_as : Option Record → Reading
read_as (Some r) = Read r
read_as None = Unreadable

-- what four words read as
unfoldable pub reading_words : Words → Reading
reading_words w = cond (formed w) (Read (record_in w)) Unreadable

-- what bytes read as: 32 of them as their words do (21: not 32 bytes long)
unfoldable pub reading : List ℕ → Reading
reading b = cond (eqb (length b) 32) (reading_words (words_of b)) Unreadable

-- document 01's number of each case: 21 of what does not read, and of a record the number that it is given (0: none)
abbrev pub reading_refusal : (Record → ℕ) → Reading → ℕ
reading_refusal given Unreadable = 21
reading_refusal given (Read r) = given r

-- ## Encoding

-- the 32 bytes of a record
unfoldable pub encoding : Record → List ℕ
encoding r =
    field_bytes (kind_byte r.kind) (ledger_byte (ledger_of r.kind)) r.sender r.receiver r.number r.amount
    (cond r.verified 1 0)

-- ## Reading and encoding

-- a record whose fields fit in their bytes, as those of the code's struct always do
pub record Encodable (r : Record) : Type 0 where
  pub sender_fits : r.sender < 2 ^ 16
  pub receiver_fits : r.receiver < 2 ^ 16
  pub number_fits : r.number < 2 ^ 64
  pub amount_fits : r.amount < 2 ^ 64

-- one that can be read: its amount is right too
pub record Readable (r : Record) : Type 0 where
  pub fits : Encodable r
  pub amount_some : 0 < r.amount
  pub amount_most : r.amount ≤ max_amount

-- bytes read as a record exactly when it can be read and they are its encoding
unfoldable pub ReadsExactly : Type 0
ReadsExactly = (b : List ℕ) → Bytes b → (r : Record) → (reading b ≡ Read r) ↔ (Readable r × (b ≡ encoding r))

-- the encoding of a record that can be read reads as it
unfoldable pub EncodingReads : Type 0
EncodingReads = (r : Record) → Readable r → reading (encoding r) ≡ Read r

-- no two records have one encoding
unfoldable pub EncodedOnce : Type 0
EncodedOnce = (r q : Record) → Encodable r → Encodable q → encoding r ≡ encoding q → r ≡ q
