-- `PairCore::step`: a refusal leaves the state, and a pass the state after it. Assumes nothing.
use Rattle.calls.proofs.Handing.{refusal_some}
use Rattle.ledgers.specs.Ledgers.{ledger_byte}
use Rattle.ledgers.specs.Limits.{capacity}
use Rattle.pair_core.proofs.Accept.{in_bounds_of}
use Rattle.pair_core.proofs.PairCoreCore.step.Goals as goal
use Rattle.pair_core.proofs.Stepping.{number_room, step_leaves}
use Rattle.pair_core.specs.Layout.{PairReady, pair_view_of, pair_words_checker}
use Rattle.records.proofs.Formed.{read_formed}
use Rattle.rules.proofs.Parts.{formed_as, step_refused}
use Rattle.rules.specs.PairValidator.{pair_judge}
use Rattle.wire.proofs.Prelude.{◌∙◌, ap, arith, sym}

pub returns-in_default-clause-leaves : goal.returns-in_default-clause-leaves
returns-in_default-clause-leaves c =
    let s = c.args.words.now in
    (step_refused pair_words_checker PairReady s c.args.bytes.now 21 c.requires
    (ap (pair_judge capacity (pair_view_of s).pair) (sym (rw c.in_default.is at c.read.ensures)))
    (λ q. omega (arith, q))).1.0

pub of-requires : goal.of-requires
of-requires c = (read_formed _ _ (sym (rw c.in-Some.is at c.read.ensures))).0

pub invariant_of-item : goal.invariant_of-item
invariant_of-item c =
    record { read = formed_as (record { reads = sym (rw c.in-Some.is at c.read.ensures); words = c.of.ensures }) }

pub invariant_of-accepted : goal.invariant_of-accepted
invariant_of-accepted c =
    record { ready = (c.requires, in_bounds_of c.args.words.now c.requires.accepted (λ i. c.fits-words i)) }

pub returns-in_err-judge-clause-leaves : goal.returns-in_err-judge-clause-leaves
returns-in_err-judge-clause-leaves c =
    let s = c.args.words.now in
    (step_refused pair_words_checker PairReady s c.args.bytes.now _ c.requires
    (ap (pair_judge capacity (pair_view_of s).pair) (sym (rw c.in-Some.is at c.read.ensures)) ∙ sym c.in_err-judge.ensures)
    (λ q. omega (arith, q, refusal_some c.in_err-judge.field-0.0))).1.0

pub pass-requires : goal.pass-requires
pass-requires c = (c.requires.accepted, sym c.in_ok-judge.ensures)

pub add_number-requires : goal.add_number-requires
add_number-requires c =
    rw (c.index_start.ensures.0, c.count_on-count.ensures)
    (number_room c.requires (record { reads = sym (rw c.in-Some.is at c.read.ensures); words = c.of.ensures }) (sym c.in_ok-judge.ensures)
    (ap ledger_byte c.ledger-l.ensures))

pub returns-clause-leaves : goal.returns-clause-leaves
returns-clause-leaves c =
    (step_leaves c.requires (record { reads = sym (rw c.in-Some.is at c.read.ensures); words = c.of.ensures })
    (sym c.in_ok-judge.ensures) (ap ledger_byte c.ledger-l.ensures) c.pass.ensures
    (rw (c.index_start.ensures.0, c.count_on-count.ensures) at c.add_number.ensures)).1.0

pub returns-clause-keeps : goal.returns-clause-keeps
returns-clause-keeps c =
    (step_leaves c.requires (record { reads = sym (rw c.in-Some.is at c.read.ensures); words = c.of.ensures })
    (sym c.in_ok-judge.ensures) (ap ledger_byte c.ledger-l.ensures) c.pass.ensures
    (rw (c.index_start.ensures.0, c.count_on-count.ensures) at c.add_number.ensures)).1.1
