-- What words and bytes that refusal 21 lets pass show, fact by fact. Assumes nothing.
use Rattle.std.specs.Prelude.{Err, None, Ok, Result, Some}
use Rattle.std.specs.Result.{result_ok}
use Rattle.std.specs.Int.{to_be_bytes, w64}
use Rattle.wire.proofs.Prelude.{Bool, List, get_or, ◌*◌, ◌%◌, ◌+◌, ◌-◌, ◌/◌, ◌<◌, ◌^◌, ◌∙◌, ◌≡◌, ◌≤◌, ap, ap₂, arith, eq-eqb, eqb, eqb-true}
use Rattle.wire.proofs.Prelude.{false, le-leb, leb-true, length, lt-ltb, ltb-true, refl, sym, true, ℕ}
use Rattle.ledgers.specs.Ledgers.{LedgerRead, kind_at, ledger_at}
use Rattle.ledgers.specs.declared.Ledger.{Ledger}
use Rattle.ledgers.specs.declared.NoLedger.{NoLedger}
use Rattle.ledgers.specs.Limits.{max_amount}
use Rattle.records.specs.Records.{Read, Record, Unreadable, Words, formed, reading, reading_words, record_in, within, words_of}
use Rattle.wire.proofs.Lists.{every_hold, hold_every, not_held}
use Rattle.wire.proofs.Numbers.{field_high, field_low}
use Rattle.wire.specs.BigEndian.{All, Bytes, field}

-- ## Words

-- the facts, one for each test
pub record FormedWords (w : Words) : Type 0 where
  pub kind_some : 0 < within 0 1 w.head
  pub kind_most : within 0 1 w.head ≤ 3
  pub ledger_most : within 1 1 w.head ≤ 1
  pub zeros_first : within 6 2 w.head ≡ 0
  pub amount_some : 0 < w.amount
  pub amount_most : w.amount ≤ max_amount
  pub verdict_most : within 0 1 w.tail ≤ 1
  pub zeros_last : within 1 7 w.tail ≡ 0

-- from the tests to the facts
pub formed_facts : (w : Words) → formed w ≡ true → FormedWords w
unfolding formed All
formed_facts w h = let k = every_hold _ h in omega (arith, ltb-true, leb-true, eqb-true)

-- and back
pub facts_formed : (w : Words) → FormedWords w → formed w ≡ true
unfolding formed All
facts_formed w f = hold_every _ (omega (arith, lt-ltb, le-leb, eq-eqb))

-- words that are not formed do not read
pub unreadable : (w : Words) → (FormedWords w → ⊥) → Unreadable ≡ reading_words w
unfolding reading_words
unreadable w h = rw (← not_held (formed w) (λ f. h (formed_facts w f)))

-- and others read as the record in them
pub readable : (w : Words) (r : Record) → FormedWords w → r ≡ record_in w → Read r ≡ reading_words w
unfolding reading_words
readable w r f e = rw (facts_formed w f, e)

-- a ledger's byte is 0 or 1
pub no_ledger : (n : ℕ) (r : Result Ledger NoLedger) → LedgerRead n r → result_ok r ≡ None → 1 < n
no_ledger n (Ok l) h e = cc
no_ledger n (Err x) h e = h.0

-- and the ledger is that with the byte
pub one_ledger : (n : ℕ) (r : Result Ledger NoLedger) (l : Ledger) → LedgerRead n r → result_ok r ≡ Some l → (n ≤ 1) × (l ≡ ledger_at n)
one_ledger n (Ok m) l h e = let k : m ≡ l = cc in (h.0, sym k ∙ h.1)
one_ledger n (Err x) l h e = let k : None ≡ Some l = e in (cc, cc)

-- the bytes of a word
module _ (w : ℕ) (b : List ℕ) (e : b ≡ to_be_bytes w64 w) where
  -- the first, and the second
  pub byte_zero : get_or b 0 0 ≡ within 0 1 w
  byte_zero = rw e

  pub byte_one : get_or b 1 0 ≡ within 1 1 w
  byte_one = rw e

  -- two together
  pub two_at_two : get_or b 2 0 * 256 + get_or b 3 0 ≡ within 2 2 w
  two_at_two = rw e (omega arith)

  pub two_at_four : get_or b 4 0 * 256 + get_or b 5 0 ≡ within 4 2 w
  two_at_four = rw e (omega arith)

  -- the last two are zero together
  pub word_zeros : get_or b 6 0 ≡ 0 → get_or b 7 0 ≡ 0 → within 6 2 w ≡ 0
  word_zeros p q = let k = rw e at p in let l = rw e at q in omega arith

  pub byte_zeros : within 6 2 w ≡ 0 → (get_or b 6 0 ≡ 0) × (get_or b 7 0 ≡ 0)
  byte_zeros h = (rw e (omega arith), rw e (omega arith))

-- ## Bytes

-- what reads has 32 bytes, whose words were formed and are of the record
pub read_formed : (b : List ℕ) (r : Record) → reading b ≡ Read r
    → (length b ≡ 32) × (formed (words_of b) ≡ true) × (record_in (words_of b) ≡ r)
unfolding reading reading_words
read_formed b r h = go (eqb (length b) 32) (formed (words_of b)) refl refl
  where
    go : (t u : Bool) → eqb (length b) 32 ≡ t → formed (words_of b) ≡ u
        → (length b ≡ 32) × (formed (words_of b) ≡ true) × (record_in (words_of b) ≡ r)
    go true true q p = let k : Read (record_in (words_of b)) ≡ Read r = rw (q, p) at h in (eqb-true _ _ q, p, cc)
    go true false q p = let k : Unreadable ≡ Read r = rw (q, p) at h in (cc, cc, cc)
    go false u q p = let k : Unreadable ≡ Read r = rw q at h in (cc, cc, cc)

-- such bytes read as the record in their words
pub formed_reads : (b : List ℕ) → length b ≡ 32 → formed (words_of b) ≡ true → reading b ≡ Read (record_in (words_of b))
unfolding reading reading_words
formed_reads b l h = rw (eq-eqb (length b) 32 l, h)

-- ## Field by field

-- the n bytes from byte i on of the word at byte k are those of the bytes
within_field : (k i n m : ℕ) (b : List ℕ) → Bytes b → i + n + m ≡ 8 → k + 8 ≤ length b → within i n (field k 8 b) ≡ field (k + i) n b
within_field k i n m b y e h =
    let z : 8 - (i + n) ≡ m = omega arith in
    ap₂ (λ (u v : ℕ). field k u b / 256 ^ v % 256 ^ n) (sym e) z
    ∙ ap (λ (u : ℕ). u % 256 ^ n) (field_high k (i + n) m b y (omega arith))
    ∙ field_low k i n b y (omega arith)

-- the record in the fields of bytes
unfoldable pub fields_in : List ℕ → Record
fields_in b =
    record {
      kind = kind_at (field 0 1 b) (ledger_at (field 1 1 b));
      sender = field 2 2 b;
      receiver = field 4 2 b;
      number = field 8 8 b;
      amount = field 16 8 b;
      verified = eqb (field 24 1 b) 1;
    }

-- the facts of the fields
pub record Formed (b : List ℕ) : Type 0 where
  pub long : length b ≡ 32
  pub kind_some : 0 < field 0 1 b
  pub kind_most : field 0 1 b ≤ 3
  pub ledger_most : field 1 1 b ≤ 1
  pub zeros_first : field 6 2 b ≡ 0
  pub amount_some : 0 < field 16 8 b
  pub amount_most : field 16 8 b ≤ max_amount
  pub verdict_most : field 24 1 b ≤ 1
  pub zeros_last : field 25 7 b ≡ 0

module _ (b : List ℕ) (y : Bytes b) (l : length b ≡ 32) where
  kind_field : within 0 1 (field 0 8 b) ≡ field 0 1 b
  kind_field = within_field 0 0 1 7 b y (omega arith) (omega arith)

  ledger_field : within 1 1 (field 0 8 b) ≡ field 1 1 b
  ledger_field = within_field 0 1 1 6 b y (omega arith) (omega arith)

  zeros_field : within 6 2 (field 0 8 b) ≡ field 6 2 b
  zeros_field = within_field 0 6 2 0 b y (omega arith) (omega arith)

  verdict_field : within 0 1 (field 24 8 b) ≡ field 24 1 b
  verdict_field = within_field 24 0 1 7 b y (omega arith) (omega arith)

  last_field : within 1 7 (field 24 8 b) ≡ field 25 7 b
  last_field = within_field 24 1 7 0 b y (omega arith) (omega arith)

  -- the record in the words is the one in the fields
  pub words_fields : record_in (words_of b) ≡ fields_in b
  unfolding record_in fields_in
  words_fields =
      let k = ap₂ (λ (u v : ℕ). kind_at u (ledger_at v)) kind_field ledger_field in
      let s = within_field 0 2 2 4 b y (omega arith) (omega arith) in
      let r = within_field 0 4 2 2 b y (omega arith) (omega arith) in
      let v = ap (λ (u : ℕ). eqb u 1) verdict_field in
      λ i. record { kind = k i; sender = s i; receiver = r i; number = field 8 8 b; amount = field 16 8 b; verified = v i }

  -- from the words to the fields
  pub fields_formed : FormedWords (words_of b) → Formed b
  fields_formed f = omega (arith, kind_field, ledger_field, zeros_field, verdict_field, last_field)

  -- and back
  pub words_formed_by : Formed b → FormedWords (words_of b)
  words_formed_by f = omega (arith, kind_field, ledger_field, zeros_field, verdict_field, last_field)
