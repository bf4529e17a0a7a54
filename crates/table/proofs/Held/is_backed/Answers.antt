-- `Held::is_backed` meets its contract. Assumes nothing.
use Rattle.wire.proofs.Prelude.{◌∙◌, ap, eq-eqb, ne_eqb, sym, ℕ}
use Rattle.places.proofs.Backing.{not_asked}
use Rattle.places.specs.OverPlaces.{any_at}
use Rattle.table.proofs.Crossings.{asked}
use Rattle.table.specs.Table.{backed_by, sent_at}
use Rattle.table.proofs.Held.is_backed.Goals as goal

pub returns-then-w-ne-RECEIVING : goal.returns-then-w-ne-RECEIVING
unfolding backed_by
returns-then-w-ne-RECEIVING c = sym (not_asked _ _ (ne_eqb _ _ c.if-w-ne-RECEIVING.true))

pub returns : goal.returns
unfolding backed_by
returns c =
    let a = c.args in
    c.is_sent.ensures
    ∙ ap (λ (h : ℕ). any_at (sent_at a.w.number h a.w.amount a.self.words.now a.self.from) 0 a.self.count) c.sending_head-head.ensures
    ∙ sym (asked _ _ (eq-eqb _ _ c.if-w-ne-RECEIVING.false))
