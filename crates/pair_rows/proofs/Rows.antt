-- The next row: of a refused record with the figures as they were, of a passed one with the figures moved. Assumes nothing.
use Rattle.wire.proofs.Prelude.{List, ◌+◌, ◌<◌, ◌∙◌, ◌≡◌, ◌≤◌, ap, ap₂, arith, length, refl, subst, suc, sym, zero, ℕ}
use Rattle.answers.proofs.Answers.{or_else_zero}
use Rattle.ledgers.specs.Ledgers.{ledger_byte, ledger_of}
use Rattle.ledgers.specs.Limits.{capacity}
use Rattle.pair_core.proofs.Accept.{sound_of}
use Rattle.pair_core.proofs.Passing.{next_of}
use Rattle.pair_core.specs.Layout.{PairReady, pair_supply_of, pair_view_of, pair_with, pair_words_checker}
use Rattle.pair_rows.specs.Rows.{FiguresReady, Row, RowReady, moved_row, row_of, row_with, total_in}
use Rattle.pair_rows.specs.declared.Figures.{Figures}
use Rattle.places.specs.Amounts.{given_by, taken_by}
use Rattle.records.specs.Records.{reading, words_of}
use Rattle.rules.proofs.Lists.{balance_total, length_lowered, total_lowered, total_raised}
use Rattle.rules.proofs.PairAccepted.{accepts_facts}
use Rattle.rules.proofs.Refusals.{Passable, judge_none}
use Rattle.rules.specs.Calls.{call_one}
use Rattle.rules.specs.Lists.{lowered, total}
use Rattle.rules.specs.PairValidator.{PairView, pair_judge}
use Rattle.rules.specs.Rules.{Far, Home, Kind, Ledger, LedgerState, Local, PairState, Read, Receiving, Record, Sending, Unreadable, after}
use Rattle.rules.specs.Rules.{debit, in_flight, judge, moved, state_of}
use Rattle.tariffs.proofs.Allowing.{allowed_open}
use Rattle.tariffs.specs.Tariffs.{charge}

-- ## A ledger's total

-- a passed record takes from it and gives to it, and takes no more than it has
record TotalMoves (before later taken given : ℕ) : Type 0 where
  adds : later + taken ≡ before + given
  pays : taken ≤ before

-- by the record's kind
total_moves : (own other : LedgerState) (r : Record) (k : Kind) → own.tariff.account < length own.balances → Passable own other r k
    → TotalMoves (total own.balances) (total (moved own.tariff own.balances r k)) (taken_by k r.amount) (given_by k r.amount)
unfolding Passable
total_moves own other r (Local l) o h =
    let a = total_lowered own.balances r.sender r.amount h.0.sender_open h.1 in
    let b = total_raised (lowered own.balances r.sender r.amount) r.receiver r.amount
    (rw (length_lowered own.balances r.sender r.amount) h.0.receiver_open) in
    record { adds = omega (arith, a, b); pays = omega (arith, h.1, balance_total own.balances r.sender) }
total_moves own other r (Sending l) o h =
    let t = own.tariff in
    let whole = debit t r (Sending l) in
    let a = total_lowered own.balances r.sender whole h.0.sender_open h.1 in
    let b = total_raised (lowered own.balances r.sender whole) t.account (charge t.rate r.amount)
    (rw (length_lowered own.balances r.sender whole) o) in
    record { adds = omega (arith, a, b, h.1, balance_total own.balances r.sender); pays = omega (arith, h.1, balance_total own.balances r.sender) }
total_moves own other r (Receiving l) o h =
    let b = total_raised own.balances r.receiver r.amount h.0.receiver_open in
    record { adds = omega (arith, b); pays = omega arith }

-- ## The row

-- what working out the next row rules, and that it is this one
pub record RowMoves (supply : ℕ) (row : Row) (l : Ledger) (taken given : ℕ) (later : Row) : Type 0 where
  pub pays : taken ≤ total_in row l
  pub fits : row.home + row.far + given ≤ supply + taken
  pub moves : moved_row supply row l taken given ≡ later

-- rows with the same figures are the same
same_row : {h i f g x y : ℕ} → h ≡ i → f ≡ g → x ≡ y
    → ◌≡◌ {A = Row} (record { refusal = 0; home = h; far = f; flight = x }) (record { refusal = 0; home = i; far = g; flight = y })
same_row p q w = λ j. record { refusal = 0; home = p j; far = q j; flight = w j }

-- on home
home_moved : (supply n h f x h' f' x' taken given : ℕ) → TotalMoves h h' taken given → f' ≡ f → h' + f' + x' ≡ supply
    → RowMoves supply (record { refusal = n; home = h; far = f; flight = x }) Home taken given
    (record { refusal = 0; home = h'; far = f'; flight = x' })
home_moved supply n h f x h' f' x' taken given m e s =
    record {
      pays = m.pays;
      fits = omega (arith, m.adds);
      moves = same_row (omega (arith, m.adds, m.pays)) (sym e) (omega (arith, m.adds, m.pays));
    }

-- on far
far_moved : (supply n h f x h' f' x' taken given : ℕ) → TotalMoves f f' taken given → h' ≡ h → h' + f' + x' ≡ supply
    → RowMoves supply (record { refusal = n; home = h; far = f; flight = x }) Far taken given
    (record { refusal = 0; home = h'; far = f'; flight = x' })
far_moved supply n h f x h' f' x' taken given m e s =
    record {
      pays = m.pays;
      fits = omega (arith, m.adds);
      moves = same_row (sym e) (omega (arith, m.adds, m.pays)) (omega (arith, m.adds, m.pays));
    }

-- of the rules' state, for a record that the rules pass, where the state after shares out the supply
row_after_lem : (p : PairState) (r : Record) (supply n : ℕ) → ((l : Ledger) → (state_of l p).tariff.account < length (state_of l p).balances)
    → judge p r ≡ 0
    → total (after p r).home.balances + total (after p r).far.balances + in_flight (after p r) ≡ supply
    → RowMoves supply (row_of n (record { pair = p; supply = supply })) (ledger_of r.kind) (taken_by r.kind r.amount)
    (given_by r.kind r.amount) (row_of 0 (record { pair = after p r; supply = supply }))
unfolding after
row_after_lem p r supply n o j s = go (ledger_of r.kind) refl s
  where
    moves : TotalMoves (total (state_of (ledger_of r.kind) p).balances)
        (total (moved (state_of (ledger_of r.kind) p).tariff (state_of (ledger_of r.kind) p).balances r r.kind))
        (taken_by r.kind r.amount) (given_by r.kind r.amount)
    moves = total_moves _ _ r r.kind (o (ledger_of r.kind)) (judge_none p r r.kind refl j)

    go : (m : Ledger) → ledger_of r.kind ≡ m
        → total (after p r).home.balances + total (after p r).far.balances + in_flight (after p r) ≡ supply
        → RowMoves supply (row_of n (record { pair = p; supply = supply })) (ledger_of r.kind) (taken_by r.kind r.amount)
        (given_by r.kind r.amount) (row_of 0 (record { pair = after p r; supply = supply }))
    go Home q s = rw q (home_moved supply n _ _ _ _ _ _ _ _ (rw q at moves) refl (rw q at s))
    go Far q s = rw q (far_moved supply n _ _ _ _ _ _ _ _ (rw q at moves) refl (rw q at s))

-- by equations of both rows
moves_same : {supply taken given : ℕ} {l : Ledger} {row x later y : Row} → row ≡ x → later ≡ y → RowMoves supply row l taken given later
    → RowMoves supply x l taken given y
moves_same p q m = rw (← p, ← q) m

-- ## The state in words

-- the row that the contract asks for
abbrev pub row_after : List ℕ → List ℕ → Row
row_after s b = row_of (pair_words_checker.judge s b) (pair_view_of (call_one pair_words_checker s b).state)

module _ (s index b : List ℕ) (last : Row) (h : RowReady s index last) where
  -- of a refused record
  pub row_refused : (n : ℕ) → n ≡ pair_words_checker.judge s b → (n ≡ 0 → ⊥)
      → record { refusal = n; home = last.home; far = last.far; flight = last.flight } ≡ row_after s b
  unfolding call_one
  row_refused zero q z = absurd (z refl)
  row_refused (suc n) q z =
      rw (← q) (ap (λ (x : Row). record { refusal = suc n; home = x.home; far = x.far; flight = x.flight }) h.row_is)

  -- none passes that does not read
  pub read_or_refused : {A : Type 0} → reading b ≡ Unreadable → 0 ≡ pair_words_checker.judge s b → A
  read_or_refused q j = let e : ◌≡◌ {A = ℕ} 0 21 = j ∙ ap (pair_judge capacity (pair_view_of s).pair) q in absurd (omega (arith, e))

  -- of a passed one
  pub row_passed : (r : Record) → reading b ≡ Read r → 0 ≡ pair_words_checker.judge s b
      → RowMoves (pair_supply_of s) last (ledger_of r.kind) (taken_by r.kind r.amount) (given_by r.kind r.amount) (row_after s b)
  unfolding call_one
  row_passed r q j =
      let k : pair_judge capacity (pair_view_of s).pair (Read r) ≡ 0 = rw q at (sym j) in
      let x = next_of s h.ready.accepted b r q k in
      let t : (call_one pair_words_checker s b).state ≡ pair_with s (words_of b) r (ledger_byte (ledger_of r.kind)) = rw (q, k) in
      let g = (accepts_facts capacity _ (sound_of _ x.accepted).accepted).sums in
      let v = x.view in
      let f = accepts_facts capacity _ (sound_of s h.ready.accepted).accepted in
      let m = row_after_lem (pair_view_of s).pair r (pair_supply_of s) last.refusal (λ l. allowed_open _ _ (f.ledgers l).tariff_allowed) (or_else_zero (judge (pair_view_of s).pair r) _ k).0
      (subst (λ (y : PairView). total y.pair.home.balances + total y.pair.far.balances + in_flight y.pair ≡ y.supply) v g) in
      let e : row_of 0 (record { pair = after (pair_view_of s).pair r; supply = pair_supply_of s }) ≡ row_after s b =
      ap₂ row_of j (sym v ∙ ap pair_view_of (sym t)) in
      moves_same (sym h.row_is) e m

-- figures that make the row after a record are those of the state after it
pub figures_ready : (s b : List ℕ) {t i : List ℕ} {n : ℕ} {f : Figures} → row_with n f ≡ row_after s b
    → t ≡ (call_one pair_words_checker s b).state → PairReady t i → FiguresReady t i f
figures_ready s b e q h =
    record {
      ready = h;
      row_is = rw q (ap (λ (x : Row). record { refusal = 0; home = x.home; far = x.far; flight = x.flight }) e);
    }
