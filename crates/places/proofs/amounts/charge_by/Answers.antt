-- `places::amounts::charge_by`: no kind costs anything at rate 0. Assumes nothing.
use Rattle.wire.proofs.Prelude.{◌∙◌, ◌≡◌, ap, refl, sym, ℕ}
use Rattle.ledgers.specs.declared.Kind.{Kind}
use Rattle.ledgers.specs.declared.Kind.TheVariants.{Local, Receiving, Sending}
use Rattle.places.specs.Amounts.{charge_by}
use Rattle.tariffs.proofs.Charges.{charge_free}
use Rattle.places.proofs.amounts.charge_by.Goals as goal

-- no kind costs anything at rate 0
none_at_0 : (k : Kind) (amount : ℕ) → charge_by 0 k amount ≡ 0
none_at_0 (Local l) amount = refl
none_at_0 (Sending l) amount = charge_free amount
none_at_0 (Receiving l) amount = refl

pub returns-then-rate-eq0 : goal.returns-then-rate-eq0
returns-then-rate-eq0 c =
    sym (ap (λ (n : ℕ). charge_by n c.args.k c.args.amount) c.if-rate-eq0.true ∙ none_at_0 c.args.k c.args.amount)
