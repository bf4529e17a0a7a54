-- `HomeCore::step`: a refusal leaves the state, and a pass the state after it. Assumes nothing.
use Rattle.home_core.proofs.Stepping.{number_room, step_leaves}
use Rattle.home_core.specs.Layout.{HomeReady, home_view_of, home_words_checker}
use Rattle.calls.proofs.Handing.{refusal_some}
use Rattle.ledgers.specs.Limits.{capacity}
use Rattle.records.proofs.Formed.{read_formed}
use Rattle.rules.proofs.Parts.{formed_as, step_refused}
use Rattle.rules.specs.HomeValidator.{home_judge}
use Rattle.wire.proofs.Prelude.{◌∙◌, ap, arith, sym}
use Rattle.home_core.proofs.HomeCoreCore.step.Goals as goal

pub returns-in_default-clause-leaves : goal.returns-in_default-clause-leaves
returns-in_default-clause-leaves c =
    let s = c.args.words.now in
    (step_refused home_words_checker HomeReady s c.args.bytes.now 21 c.requires
    (ap (home_judge capacity (home_view_of s)) (sym (rw c.in_default.is at c.read.ensures)))
    (λ q. omega (arith, q))).1.0

pub returns-in_err-judge-clause-leaves : goal.returns-in_err-judge-clause-leaves
returns-in_err-judge-clause-leaves c =
    let s = c.args.words.now in
    (step_refused home_words_checker HomeReady s c.args.bytes.now _ c.requires
    (ap (home_judge capacity (home_view_of s)) (sym (rw c.in-Some.is at c.read.ensures)) ∙ sym c.in_err-judge.ensures)
    (λ q. omega (arith, q, refusal_some c.in_err-judge.field-0.0))).1.0

pub of-requires : goal.of-requires
of-requires c = (read_formed _ _ (sym (rw c.in-Some.is at c.read.ensures))).0

pub pass-requires : goal.pass-requires
pass-requires c =
    let f = formed_as (record { reads = sym (rw c.in-Some.is at c.read.ensures); words = c.of.ensures }) in
    (c.requires.accepted, f.0, f.1, sym c.in_ok-judge.ensures)

pub add_number-requires : goal.add_number-requires
add_number-requires c =
    number_room c.requires (record { reads = sym (rw c.in-Some.is at c.read.ensures); words = c.of.ensures }) (sym c.in_ok-judge.ensures)

pub returns-clause-leaves : goal.returns-clause-leaves
returns-clause-leaves c =
    (step_leaves c.requires (record { reads = sym (rw c.in-Some.is at c.read.ensures); words = c.of.ensures })
    (sym c.in_ok-judge.ensures) c.pass.ensures c.add_number.ensures).1.0

pub returns-clause-keeps : goal.returns-clause-keeps
returns-clause-keeps c =
    (step_leaves c.requires (record { reads = sym (rw c.in-Some.is at c.read.ensures); words = c.of.ensures })
    (sym c.in_ok-judge.ensures) c.pass.ensures c.add_number.ensures).1.1
