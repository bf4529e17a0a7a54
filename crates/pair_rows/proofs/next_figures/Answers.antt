-- A refused record leaves the figures as they were, and a passed one moves them. Assumes nothing.
use Rattle.answers.specs.Refusals.{refused_by}
use Rattle.calls.proofs.Handing.{refusal_some}
use Rattle.pair_core.specs.Layout.{pair_words_checker}
use Rattle.pair_rows.proofs.Rows.{figures_ready, row_passed, row_refused}
use Rattle.pair_rows.proofs.next_figures.Goals as goal
use Rattle.pair_rows.specs.Rows.{row_with}
use Rattle.std.proofs.Common.{arith, rules, ◌∙◌, ◌≡◌, sym}

pub returns-in_err-step-clause-tells : goal.returns-in_err-step-clause-tells
returns-in_err-step-clause-tells c =
    let a = c.args in
    let e = c.in_err-step.ensures.answers in
    let q : refused_by c.from_residual.result ≡ pair_words_checker.judge a.state.now a.bytes.now = search rules in
    row_refused a.state.now a.index.now a.bytes.now (row_with 0 a.figures.now) c.requires _ q
    (λ z. omega (arith, z, q, e, refusal_some c.in_err-step.field-0.0))

pub returns-in_err-step-clause-keeps : goal.returns-in_err-step-clause-keeps
returns-in_err-step-clause-keeps c =
    let a = c.args in
    let e = c.in_err-step.ensures.answers in
    figures_ready a.state.now a.bytes.now {f = a.figures.now}
    (row_refused a.state.now a.index.now a.bytes.now (row_with 0 a.figures.now) c.requires _ e
    (λ z. omega (arith, z, refusal_some c.in_err-step.field-0.0)))
    c.step.ensures.leaves c.step.ensures.keeps

pub move_figures-requires : goal.move_figures-requires
move_figures-requires c =
    let a = c.args in
    let m = row_passed a.state.now a.index.now a.bytes.now (row_with 0 a.figures.now) c.requires c.in-Some.r (sym (rw c.in-Some.is at c.read.ensures))
    c.in_ok-step.ensures.answers in
    rw (c.given_by.ensures, c.taken_by.ensures, c.ledger.ensures) (m.pays, m.fits)

pub returns-clause-tells : goal.returns-clause-tells
returns-clause-tells c =
    let a = c.args in
    let m = row_passed a.state.now a.index.now a.bytes.now (row_with 0 a.figures.now) c.requires c.in-Some.r (sym (rw c.in-Some.is at c.read.ensures))
    c.in_ok-step.ensures.answers in
    c.move_figures.ensures ∙ rw (c.given_by.ensures, c.taken_by.ensures, c.ledger.ensures) m.moves

pub returns-clause-keeps : goal.returns-clause-keeps
returns-clause-keeps c =
    let a = c.args in
    let m = row_passed a.state.now a.index.now a.bytes.now (row_with 0 a.figures.now) c.requires c.in-Some.r (sym (rw c.in-Some.is at c.read.ensures))
    c.in_ok-step.ensures.answers in
    figures_ready a.state.now a.bytes.now {f = c.move_figures.new.figures}
    (c.move_figures.ensures ∙ rw (c.given_by.ensures, c.taken_by.ensures, c.ledger.ensures) m.moves)
    c.step.ensures.leaves c.step.ensures.keeps
