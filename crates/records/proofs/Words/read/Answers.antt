-- `records::Words::read`: what each test refuses is not formed, and what is left is the record in the words. Assumes nothing.
use Rattle.std.proofs.lemmas.Bool.Decides.{nat_tests}
use Rattle.wire.proofs.Prelude.{arith, get_or, sym, true, ◌≤◌, ◌∙◌, ◌≡◌}
use Rattle.ledgers.specs.Ledgers.{kind_at, ledger_at}
use Rattle.ledgers.specs.Limits.{max_amount}
use Rattle.records.proofs.Formed.{byte_one, byte_zero, byte_zeros, no_ledger, one_ledger, readable, two_at_four, two_at_two, unreadable}
use Rattle.records.proofs.Formed.{word_zeros}
use Rattle.records.specs.Records.{record_in, within}
use Rattle.records.proofs.Words.read.Goals as goal
use Rattle.records.proofs.Words.read.Goals.{in_default-via-in-0+in_default, in_default-via-in_default}

pub returns-in_default : goal.returns-in_default
returns-in_default c =
    unreadable c.args.self
    (λ f. let z = byte_zeros _ _ c.to_be_bytes.ensures f.zeros_first in
    elim c.in_default.branch [
      | in_default-via-in-0+in_default w ↦ absurd (omega arith)
      | in_default-via-in_default w ↦ absurd (omega arith)
    ])

pub returns-in_err-ledger : goal.returns-in_err-ledger
returns-in_err-ledger c =
    rw c.from_residual.ensures
    (unreadable c.args.self
    (λ f. let y = byte_one _ _ c.to_be_bytes.ensures in
    let l = no_ledger _ c.try_from.result c.try_from.ensures (sym c.ok.ensures.value ∙ c.in_err-ledger.was) in
    absurd (omega arith)))

pub returns-in_err-kind : goal.returns-in_err-kind
returns-in_err-kind c =
    rw c.from_residual-in_err-kind.ensures
    (unreadable c.args.self (λ f. let b = byte_zero _ _ c.to_be_bytes.ensures in c.in_err-kind.ensures (omega arith, omega arith)))

pub returns-in_err-verified : goal.returns-in_err-verified
returns-in_err-verified c =
    rw c.from_residual-in_err-verified.ensures
    (unreadable c.args.self (λ f. c.in_err-verified.ensures (f.verdict_most, f.zeros_last)))

pub returns-then-not-contains : goal.returns-then-not-contains
returns-then-not-contains c =
    let n = c.new.ensures in
    unreadable c.args.self
    (λ f. let k : c.contains.result ≡ true = rw (c.contains.ensures.value, n.start, n.end, n.exhausted) (grind (arith, nat_tests)) in cc)

pub returns : goal.returns
unfolding record_in
returns c =
    let b = c.to_be_bytes.ensures in
    let z = byte_zero _ _ b in
    let y = byte_one _ _ b in
    let p : get_or c.to_be_bytes.result 6 0 ≡ 0 = omega arith in
    let q : get_or c.to_be_bytes.result 7 0 ≡ 0 = omega arith in
    let e = word_zeros _ _ b p q in
    let l = one_ledger _ c.try_from.result _ c.try_from.ensures (sym c.ok.ensures.value ∙ c.in_ok-ledger.was) in
    let k = c.in_ok-kind.ensures in
    let d : c.in_ok-kind.kind ≡ kind_at (within 0 1 c.args.self.head) (ledger_at (within 1 1 c.args.self.head)) = cc k.1 in
    let s = c.from_be_bytes.ensures ∙ two_at_two _ _ b in
    let r = c.from_be_bytes-2.ensures ∙ two_at_four _ _ b in
    let v = c.in_ok-verified.ensures in
    let n = c.new.ensures in
    let a : (1 ≤ c.args.self.amount) × (c.args.self.amount ≤ max_amount) =
    grind (arith, nat_tests, rw (n.start, n.end, n.exhausted) at c.contains.ensures.value) in
    readable c.args.self _ (omega arith)
    (λ i. record { kind = d i; sender = s i; receiver = r i; number = c.args.self.number; amount = c.args.self.amount; verified = v.1 i })
