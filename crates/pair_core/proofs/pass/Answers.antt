-- A record without a refusal has room for its words and its amounts. Assumes nothing.
use Rattle.std.proofs.Common.{List, ◌+◌, ap, arith, slice_set, ℕ}
use Rattle.ledgers.specs.Ledgers.{ledger_byte}
use Rattle.pair_core.proofs.Accept.{sound_of}
use Rattle.pair_core.proofs.Ledgers.{byte_below, tariff_fits_lem}
use Rattle.pair_core.proofs.Passing.{PairPasses, paid_fits, passes_of}
use Rattle.pair_core.proofs.pass.Goals as goal
use Rattle.pair_core.specs.Layout.{count_on, pair_count_word, pair_with}
use Rattle.table.proofs.Records.{amount_fits}
use Rattle.tariffs.proofs.Allowing.{allowed_rate}

-- the record passes on its ledger
passes_at : (c : goal.After-records_word) → PairPasses c.args.state.now c.args.item.fields c.args.item.fields.kind (ledger_byte c.ledger-l.result)
passes_at c =
    let a = c.args in
    rw c.ledger-l.ensures (passes_of a.state.now (sound_of a.state.now c.requires.0) a.item.fields c.requires.1)

pub overflow_mul-count : goal.overflow_mul-count
overflow_mul-count c = omega (arith, (passes_at c).room, c.count_on-count.ensures)

pub overflow_add-records_word : goal.overflow_add-records_word
overflow_add-records_word c = omega (arith, (passes_at c).room, c.count_on-count.ensures, c.records_word.ensures.1)

pub store-requires : goal.store-requires
store-requires c =
    let a = c.args in
    let s = a.state.now in
    let h = sound_of s c.requires.0 in
    let l = ledger_byte c.ledger-l.result in
    let b = byte_below c.ledger-l.result in
    let p : PairPasses s a.item.fields a.item.fields.kind l =
    rw c.ledger-l.ensures (passes_of s h a.item.fields c.requires.1) in
    let m = amount_fits a.item.words a.item.fields a.item.read.0 a.item.read.1 in
    let f = paid_fits s h a.item.fields l b p m in
    let y = allowed_rate _ _ (tariff_fits_lem s h.bounds l b) in
    rw (c.tariff_on-tariff.ensures, c.balances_word.ensures.0, c.records_word.ensures.0, c.count_on-count.ensures)
    (omega (arith, h.long, p.room, p.sender, p.payee, p.pays, b, f, y, m))

pub overflow_add-state : goal.overflow_add-state
overflow_add-state c =
    let a = c.args in
    let p : PairPasses a.state.now a.item.fields a.item.fields.kind (ledger_byte c.ledger-l.result) =
    rw c.ledger-l.ensures (passes_of a.state.now (sound_of a.state.now c.requires.0) a.item.fields c.requires.1) in
    omega (arith, p.room, c.count_on-count.ensures)

pub returns : goal.returns
unfolding pair_with
returns c =
    let l = ledger_byte c.ledger-l.result in
    rw (← c.ledger-l.ensures, c.ledger_index.ensures.0, c.count_on-count.ensures)
    (ap (λ (x : List ℕ). slice_set x (pair_count_word l) (count_on c.args.state.now l + 1))
    (rw (c.tariff_on-tariff.ensures, c.balances_word.ensures.0, c.records_word.ensures.0, c.count_on-count.ensures) at c.store.ensures))
