-- The words once a record has passed on a ledger: what they hold of it, and what stays. Assumes nothing.
use Rattle.wire.proofs.Prelude.{List, [], ◌*◌, ◌++◌, ◌+◌, ◌<◌, ◌∙◌, ◌∷◌, ◌≡◌, ◌≤◌, ◌⊎◌, add-one, ap, ap₂, arith, drop, eq-or-lt_of_le, get_or}
use Rattle.wire.proofs.Prelude.{get_or-set_other, get_or-set_same, inl, inr, length, length-set, set, sym, take, true, ℕ, ⊎_elim}
use Rattle.places.proofs.OverPlaces.{all_each, all_ext, all_of, list_ext, list_snoc}
use Rattle.places.proofs.PassedRecord.{Changes, Part, part_kept, part_moved}
use Rattle.places.specs.LedgerBalances.{moved_at}
use Rattle.places.specs.OverPlaces.{all_at}
use Rattle.records.specs.Records.{formed, record_in}
use Rattle.records.specs.declared.Words.{Words}
use Rattle.rules.specs.Rules.{LedgerState, Record, Tariff, held, moved}
use Rattle.table.specs.Table.{ledger_in, number_at, record_at, records_from, stored, with_words, words_at}

-- ## A record's words

module _ (m : List ℕ) (at : ℕ) (w : Words) where
  -- the words with the first of them
  abbrev one : List ℕ
  one = set m at w.head

  -- with two
  abbrev two : List ℕ
  two = set one (at + 1) w.number

  -- with three
  abbrev three : List ℕ
  three = set two (at + 2) w.amount

  -- the length stays
  words_long : length (with_words m at w) ≡ length m
  words_long = simp length-set

  -- other words stay
  words_other : (i : ℕ) → (i < at) ⊎ (at + 4 ≤ i) → get_or (with_words m at w) i 0 ≡ get_or m i 0
  words_other i h =
      let d : (k : ℕ) → k < 4 → i ≡ at + k → ⊥ =
      λ k b q. ⊎_elim (λ (a : i < at). omega arith) (λ (a : at + 4 ≤ i). omega arith) h in
      get_or-set_other three (at + 3) i w.tail 0 (d 3 (omega arith))
      ∙ get_or-set_other two (at + 2) i w.amount 0 (d 2 (omega arith))
      ∙ get_or-set_other one (at + 1) i w.number 0 (d 1 (omega arith))
      ∙ get_or-set_other m at i w.head 0 (λ q. d 0 (omega arith) (omega arith))

  module _ (room : at + 4 ≤ length m) where
    -- the first of its own
    head_there : get_or (with_words m at w) at 0 ≡ w.head
    head_there =
        get_or-set_other three (at + 3) at w.tail 0 (λ q. omega arith)
        ∙ get_or-set_other two (at + 2) at w.amount 0 (λ q. omega arith)
        ∙ get_or-set_other one (at + 1) at w.number 0 (λ q. omega arith)
        ∙ get_or-set_same m at w.head 0 (omega arith)

    -- the second
    number_there : get_or (with_words m at w) (at + 1) 0 ≡ w.number
    number_there =
        get_or-set_other three (at + 3) (at + 1) w.tail 0 (λ q. omega arith)
        ∙ get_or-set_other two (at + 2) (at + 1) w.amount 0 (λ q. omega arith)
        ∙ get_or-set_same one (at + 1) w.number 0 (simp length-set (omega arith))

    -- the third
    amount_there : get_or (with_words m at w) (at + 2) 0 ≡ w.amount
    amount_there =
        get_or-set_other three (at + 3) (at + 2) w.tail 0 (λ q. omega arith)
        ∙ get_or-set_same two (at + 2) w.amount 0 (simp length-set (omega arith))

    -- the fourth
    tail_there : get_or (with_words m at w) (at + 3) 0 ≡ w.tail
    tail_there = get_or-set_same three (at + 3) w.tail 0 (simp length-set (omega arith))

-- ## What a stored record leaves

-- the words after a store from word `at` on, beside those before it
pub record Stored (t : Tariff) (s : List ℕ) (balances accounts at : ℕ) (w : Words) (r : Record) : Type 0 where
  pub long : length (stored t s balances at w r) ≡ length s
  pub moves : take accounts (drop balances (stored t s balances at w r)) ≡ moved t (take accounts (drop balances s)) r r.kind
  pub head : get_or (stored t s balances at w r) at 0 ≡ w.head
  pub number : get_or (stored t s balances at w r) (at + 1) 0 ≡ w.number
  pub amount : get_or (stored t s balances at w r) (at + 2) 0 ≡ w.amount
  pub tail : get_or (stored t s balances at w r) (at + 3) 0 ≡ w.tail
  pub others : (i : ℕ) → (i < balances) ⊎ (balances + accounts ≤ i) → (i < at) ⊎ (at + 4 ≤ i)
      → get_or (stored t s balances at w r) i 0 ≡ get_or s i 0

module _ (t : Tariff) (s : List ℕ) (balances accounts at : ℕ) (w : Words) (r : Record) where
  -- so it is where the record's words stand before the balances, and its accounts and the charge account are open
  pub stored_of : Changes accounts t.account r r.kind → at + 4 ≤ balances → balances + accounts ≤ length s
      → Stored t s balances accounts at w r
  unfolding stored
  stored_of changes room within =
      let m = moved_at t s balances r in
      let p : Part s m balances accounts _ = part_moved t s balances accounts r changes in
      let f : at + 4 ≤ length m = omega (arith, p.long) in
      record {
        long = words_long m at w ∙ p.long;
        moves =
            part_kept m (with_words m at w) balances accounts (words_long m at w) (omega (arith, p.long))
            (λ i a b. words_other m at w i (inr (omega arith)))
            ∙ p.own;
        head = head_there m at w f;
        number = number_there m at w f;
        amount = amount_there m at w f;
        tail = tail_there m at w f;
        others = λ i a b. words_other m at w i b ∙ p.others i a;
      }

-- ## Words that agree

-- two lists of words agree at the n words from one on
abbrev pub SameWords : List ℕ → List ℕ → ℕ → ℕ → Type 0
SameWords s t from n = (i : ℕ) → from ≤ i → i < from + n → get_or t i 0 ≡ get_or s i 0

module _ (s t : List ℕ) (records n : ℕ) (same : SameWords s t records (4 * n)) where
  -- the words of a place
  pub words_same : (i : ℕ) → i < n → words_at t records i ≡ words_at s records i
  words_same i h =
      rw (
        same (records + 4 * i) (omega arith) (omega arith),
        same (records + 4 * i + 1) (omega arith) (omega arith),
        same (records + 4 * i + 2) (omega arith) (omega arith),
        same (records + 4 * i + 3) (omega arith) (omega arith),
      )

  -- the records
  pub records_same : records_from t records n ≡ records_from s records n
  unfolding records_from
  records_same = list_ext (record_at t records) (record_at s records) 0 n (λ i a b. ap record_in (words_same i (omega arith)))

  -- that they read
  pub formed_same : all_at (λ (i : ℕ). formed (words_at t records i)) 0 n ≡ all_at (λ (i : ℕ). formed (words_at s records i)) 0 n
  formed_same = all_ext _ _ 0 n (λ i a b. ap formed (words_same i (omega arith)))

  -- a number
  pub number_same : (i : ℕ) → i < n → number_at t records i ≡ number_at s records i
  number_same i h = same (records + 4 * i + 1) (omega arith) (omega arith)

  -- the ledger
  pub ledger_same : (x : Tariff) (balances accounts : ℕ) → length t ≡ length s → balances + accounts ≤ length s
      → SameWords s t balances accounts → ledger_in x t balances accounts records n ≡ ledger_in x s balances accounts records n
  unfolding ledger_in
  ledger_same x balances accounts long within e =
      ap₂ {C = LedgerState} (λ (b : List ℕ) (p : List Record). record { balances = b; passed = p; tariff = x })
      (part_kept s t balances accounts long within e) records_same

-- ## The ledger after a store

-- what words t hold that are those after a store below word `top`, beside the words before it
pub record LedgerStored (x : Tariff) (s t : List ℕ) (balances accounts records count top : ℕ) (w : Words) (r : Record) : Type 0 where
  -- other words stay
  pub others : (i : ℕ) → i < top → (i < balances) ⊎ (balances + accounts ≤ i)
      → (i < records + 4 * count) ⊎ (records + 4 * count + 4 ≤ i) → get_or t i 0 ≡ get_or s i 0
  -- the place has the record's number
  pub number : w.number ≡ number_at t records count
  -- the numbers of the places before stay
  pub numbers : (j : ℕ) → j < count → number_at t records j ≡ number_at s records j
  -- all records read where those before and the stored one do
  pub reads : formed w ≡ true → all_at (λ (i : ℕ). formed (words_at s records i)) 0 count ≡ true
      → all_at (λ (i : ℕ). formed (words_at t records i)) 0 (count + 1) ≡ true
  -- the ledger is the rules' ledger on which the record has passed
  pub ledger : record_in w ≡ r
      → ledger_in x t balances accounts records (count + 1) ≡ held (ledger_in x s balances accounts records count) r

module _ (x : Tariff) (s t : List ℕ) (balances accounts records count top : ℕ) (w : Words) (r : Record)
    (changes : Changes accounts x.account r r.kind)
    (room : records + 4 * (count + 1) ≤ balances) (below : balances + accounts ≤ top) (within : top ≤ length s)
    (long : length t ≡ length s)
    (agree : (i : ℕ) → i < top → get_or t i 0 ≡ get_or (stored x s balances (records + 4 * count) w r) i 0) where
  -- the store
  is_stored : Stored x s balances accounts (records + 4 * count) w r
  is_stored = stored_of x s balances accounts (records + 4 * count) w r changes (omega arith) (omega arith)

  -- other words stay
  stored_other : (i : ℕ) → i < top → (i < balances) ⊎ (balances + accounts ≤ i)
      → (i < records + 4 * count) ⊎ (records + 4 * count + 4 ≤ i) → get_or t i 0 ≡ get_or s i 0
  stored_other i h a b = agree i h ∙ is_stored.others i a b

  -- those of the places before
  stored_before : SameWords s t records (4 * count)
  stored_before i a b = stored_other i (omega arith) (inl (omega arith)) (inl (omega arith))

  -- the place has the record's words
  stored_words_lem : words_at t records count ≡ w
  stored_words_lem =
      rw (
        agree (records + 4 * count) (omega arith) ∙ is_stored.head,
        agree (records + 4 * count + 1) (omega arith) ∙ is_stored.number,
        agree (records + 4 * count + 2) (omega arith) ∙ is_stored.amount,
        agree (records + 4 * count + 3) (omega arith) ∙ is_stored.tail,
      )

  -- its number
  number_stored : w.number ≡ number_at t records count
  number_stored = sym (agree (records + 4 * count + 1) (omega arith) ∙ is_stored.number)

  -- the numbers of the places before stay
  number_before : (j : ℕ) → j < count → number_at t records j ≡ number_at s records j
  number_before j h = number_same s t records count stored_before j h

  -- all records read where those before and the stored one do
  formed_stored : formed w ≡ true → all_at (λ (i : ℕ). formed (words_at s records i)) 0 count ≡ true
      → all_at (λ (i : ℕ). formed (words_at t records i)) 0 (count + 1) ≡ true
  formed_stored f h =
      all_of _ 0 (count + 1)
      (λ i a b.
      ⊎_elim
      (λ (q : i ≡ count). ap (λ (j : ℕ). formed (words_at t records j)) q ∙ ap formed stored_words_lem ∙ f)
      (λ (q : i < count). ap formed (words_same s t records count stored_before i q) ∙ all_each _ 0 count h i a (omega arith))
      (eq-or-lt_of_le (let z : i ≤ count = omega arith in z)))

  -- the records are those before it and the stored one
  records_stored : record_in w ≡ r → records_from t records (count + 1) ≡ records_from s records count ++ r ∷ []
  unfolding records_from
  records_stored e =
      let z : 0 + count ≡ count = omega arith in
      rw add-one
      (list_snoc (record_at t records) 0 count
      ∙ ap₂ (λ (l : List Record) (x : Record). l ++ x ∷ []) (records_same s t records count stored_before)
      (ap (record_at t records) z ∙ ap record_in stored_words_lem ∙ e))

  -- the balances are those that the record leaves
  balances_stored : take accounts (drop balances t) ≡ moved x (take accounts (drop balances s)) r r.kind
  balances_stored =
      part_kept (stored x s balances (records + 4 * count) w r) t balances accounts (long ∙ sym is_stored.long)
      (omega (arith, is_stored.long)) (λ i a b. agree i (omega arith))
      ∙ is_stored.moves

  -- the ledger is the rules' ledger on which the record has passed
  ledger_stored : record_in w ≡ r
      → ledger_in x t balances accounts records (count + 1) ≡ held (ledger_in x s balances accounts records count) r
  unfolding ledger_in
  ledger_stored e =
      ap₂ {C = LedgerState} (λ (b : List ℕ) (p : List Record). record { balances = b; passed = p; tariff = x }) balances_stored (records_stored e)

  -- so it is where the records stand before the balances, there is room, and what stands from `top` on is not the ledger's
  pub ledger_stored_of : LedgerStored x s t balances accounts records count top w r
  ledger_stored_of =
      record {
        others = stored_other;
        number = number_stored;
        numbers = number_before;
        reads = formed_stored;
        ledger = ledger_stored;
      }
