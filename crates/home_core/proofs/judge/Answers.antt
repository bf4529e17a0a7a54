-- `home_core::judge`: its refusals in order are those of the rules. Assumes nothing.
use Rattle.answers.specs.Answers.{refuse}
use Rattle.home_core.proofs.Judging.{judge_by}
use Rattle.home_core.specs.Layout.{home_count_of, home_view_of}
use Rattle.places.specs.OverPlaces.{any_at}
use Rattle.rules.specs.HomeValidator.{home_accounts, is_far}
use Rattle.table.specs.Table.{used_at}
use Rattle.wire.proofs.Prelude.{Bool, ◌∙◌, ◌≡◌, ap}
use Rattle.home_core.proofs.judge.Goals.{in-Far, in_default}
use Rattle.home_core.proofs.judge.Goals as goal

pub returns : goal.returns
returns c =
    let a = c.args in
    let s = a.s.now in
    let far : c.match-matches.matches ≡ is_far c.ledger.result = elim c.match-matches.branch [ in-Far w ↦ rw w.in-Far.is w.matches-is | in_default w ↦ rw w.in_default.is w.matches-is ] in
    let h = c.held-held.ensures in
    judge_by s a.r
    (c.refuse_if-far.ensures ∙ ap (λ (t : Bool). refuse t 33 0) (far ∙ ap is_far c.ledger.ensures))
    (c.accounts_on-senders.ensures ∙ ap (home_accounts (home_view_of s)) c.sender_ledger.ensures)
    (c.accounts_on-receivers.ensures ∙ ap (home_accounts (home_view_of s)) c.receiver_ledger.ensures)
    c.last_refusal-last.ensures
    (rw h.2 at c.refuse_if-full.ensures)
    c.first_refusal.ensures
    ((rw (h.0, h.1, h.2) at c.is_used-used.ensures) ∙ ap (λ (t : Bool). any_at (used_at t a.r.number s 0) 0 (home_count_of s)) c.is_receiving.ensures)
    c.first_refusals-rest.ensures
    c.first_refusal-2.ensures
