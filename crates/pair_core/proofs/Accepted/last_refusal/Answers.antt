-- 25 or 31 is the rules' last refusal. Assumes nothing.
use Rattle.std.proofs.Common.{Bool, ◌∙◌, ap, arith, refl, sym, not}
use Rattle.answers.specs.Answers.{refuse}
use Rattle.ledgers.specs.Ledgers.{ledger_byte}
use Rattle.pair_core.proofs.Accept.{sound_of}
use Rattle.pair_core.proofs.Accepted.last_refusal.Goals as goal
use Rattle.pair_core.proofs.Judging.{last_matched, last_paid}
use Rattle.pair_core.proofs.Ledgers.{accounts_fit, byte_below, other_byte, tariff_fits_lem}
use Rattle.tariffs.proofs.Allowing.{allowed_rate}

pub returns-then-is_receiving : goal.returns-then-is_receiving
returns-then-is_receiving c =
    let a = c.args in
    let s = a.self.words.now in
    let h = c.held.ensures in
    c.refuse_if.ensures
    ∙ ap (λ (t : Bool). refuse (not t) 31 0)
    (rw (h.words, h.records.0, h.records.1, c.counterpart-o.ensures, c.ledger-l.ensures) at c.is_backed-backed.ensures)
    ∙ last_matched s a.item.fields (sound_of s a.self.ready.0.accepted) a.self.ready.1.small a.item.words a.item.read.0 a.item.read.1 a.item.fields.kind refl
    (sym c.is_receiving.ensures ∙ c.if-is_receiving.true) _ (sym (other_byte _))

pub funds_refusal-requires : goal.funds_refusal-requires
funds_refusal-requires c =
    let s = c.args.self.words.now in
    let h = sound_of s c.args.self.ready.0.accepted in
    let l = ledger_byte c.ledger-l.result in
    let p = byte_below c.ledger-l.result in (
      omega (arith, h.long, (accounts_fit s h.bounds l p).1, c.balances_word.ensures.1, c.accounts_on.ensures),
      rw c.tariff_on.ensures (allowed_rate _ _ (tariff_fits_lem s h.bounds l p)),
    )

pub returns : goal.returns
returns c =
    let a = c.args in
    (rw (c.balances_word.ensures.0, c.accounts_on.ensures, c.tariff_on.ensures, c.ledger-l.ensures) at c.funds_refusal.ensures)
    ∙ last_paid a.self.words.now a.item.fields a.item.fields.kind refl (sym c.is_receiving.ensures ∙ c.if-is_receiving.false)
