-- `Held::is_backed_first` meets its contract. Assumes nothing.
use Rattle.wire.proofs.Prelude.{◌-◌, ◌∙◌, ap, arith, eq-eqb, ne_eqb, sym, ℕ}
use Rattle.ledgers.specs.Ledgers.{ledger_byte}
use Rattle.places.proofs.Backing.{not_asked}
use Rattle.table.proofs.Crossings.{asked}
use Rattle.table.proofs.Walking.{WalkFor, walk_first, walk_found}
use Rattle.table.specs.Sought.{sent_numbered}
use Rattle.table.specs.Table.{backed_by, sending_head, sent_at}
use Rattle.table.proofs.Held.is_backed_first.Goals as goal

pub returns-then-kind-ne-RECEIVING : goal.returns-then-kind-ne-RECEIVING
unfolding backed_by
returns-then-kind-ne-RECEIVING c = λ _. not_asked _ _ (ne_eqb _ _ c.if-kind-ne-RECEIVING.true)

-- what is found at the head of the chain is among the records
pub returns : goal.returns
unfolding backed_by
returns c =
    let h = c.args.self in
    let w = c.args.w in
    let s = h.words.now in
    let only = sent_numbered w.number (sending_head (ledger_byte c.args.o) w.head) w.amount s h.from in
    let p = sent_at w.number (sending_head (ledger_byte c.args.o) w.head) w.amount s h.from in
    let at = c.from-at.result in
    let walk : WalkFor s h.from h.count p w.number at =
    walk_first s h.from h.index.now h.base h.count h.indexed.2 p w.number only at _ c.low_bits.ensures c.from-at.ensures in
    let e = ap (λ (x : ℕ). sent_at w.number x w.amount s h.from (at - 1)) c.sending_head.ensures in
    λ t.
    asked _ _ (eq-eqb _ _ c.if-kind-ne-RECEIVING.false)
    ∙ walk_found s h.from h.index.now h.base h.count h.indexed.2 p w.number only at walk (omega arith) (sym e ∙ sym c.is_at.ensures ∙ t)
