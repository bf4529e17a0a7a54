-- Words of no arrival are backed by themselves. Assumes nothing.
use Rattle.wire.proofs.Prelude.{◌∙◌, ap, eqb, ne_eqb, sym, ℕ}
use Rattle.ledgers.specs.Ledgers.{ledger_byte}
use Rattle.places.proofs.Backing.{not_asked}
use Rattle.table.specs.Table.{backed_by}
use Rattle.table.proofs.Held.crossed.Goals as goal

pub returns-then-byte-ne-RECEIVING-clause-backed : goal.returns-then-byte-ne-RECEIVING-clause-backed
unfolding backed_by
returns-then-byte-ne-RECEIVING-clause-backed c =
    let h = c.args.self in
    let f = backed_by h.words.now (ledger_byte c.args.o) h.from h.count in
    sym (sym (ap f c.words_at-w.ensures) ∙ not_asked _ _ (ne_eqb _ _ c.if-byte-ne-RECEIVING.true))

pub returns-then-byte-eq-SENDING-clause-backed : goal.returns-then-byte-eq-SENDING-clause-backed
unfolding backed_by
returns-then-byte-eq-SENDING-clause-backed c =
    let h = c.args.self in
    let f = backed_by h.words.now (ledger_byte c.args.o) h.from h.count in
    sym (sym (ap f c.words_at-w.ensures) ∙ not_asked _ _ (ap (λ (x : ℕ). eqb x 3) c.if-byte-eq-SENDING.true))
