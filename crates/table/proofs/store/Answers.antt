-- `store` meets its contract. Assumes nothing.
use Rattle.wire.proofs.Prelude.{List, ◌∙◌, ap, arith, ℕ}
use Rattle.places.proofs.PassedRecord.{debit_most, taken_given}
use Rattle.table.specs.Table.{stored, with_words}
use Rattle.table.proofs.store.Goals as goal

pub overflow_add-taken : goal.overflow_add-taken
overflow_add-taken c =
    let a = c.args in
    let most = debit_most a.tariff.rate c.requires.5 a.r.kind a.r.amount in
    record { fits = omega (arith, c.taken_by.ensures, c.charge_by-charge.ensures, c.requires.6, most) }

pub move_amounts-requires : goal.move_amounts-requires
move_amounts-requires c =
    rw (
      c.given_by.ensures,
      c.taken_by.ensures,
      c.payee_by.ensures,
      c.from.ensures,
      c.charge_by-charge.ensures,
    )
    (c.requires.0, c.requires.1, c.requires.3, c.requires.4)

pub returns : goal.returns
unfolding stored
returns c =
    let a = c.args in
    let e = rw (
      c.given_by.ensures,
      c.taken_by.ensures,
      c.payee_by.ensures,
      c.from.ensures,
      c.charge_by-charge.ensures,
    ) at c.move_amounts.ensures in
    c.put_words.ensures
    ∙ ap (λ (x : List ℕ). with_words x a.at a.w) (e ∙ taken_given a.tariff a.words.now a.balances a.r)
