-- The goals of `refusals::record::first_refusals`. Assumes nothing.
use Rattle.wire.proofs.Prelude.{Bool, ◌≡◌, false, leb, not, rules, true, ℕ}
use Rattle.answers.specs.Answers.{refuse}
use Rattle.answers.specs.Refusals.{refusal_number, refused_by}
use Rattle.answers.specs.declared.refusal.Refusal.{Refusal}
use Rattle.places.specs.LedgerBalances.{first_by}
use Rattle.refusals.proofs.record.first_refusals.Goals as goal

-- what a test refuses stays whatever the later tests say
refused_later : (t : Bool) (n later : ℕ) (e : Refusal) → refusal_number e ≡ refuse t n 0 → refusal_number e ≡ refuse t n later
refused_later true n later e h = h
refused_later false n later e h = search rules

pub returns-in_err-refuse_if-3 : goal.returns-in_err-refuse_if-3
unfolding first_by
returns-in_err-refuse_if-3 c =
    let s : leb c.args.senders c.args.r.sender ≡ false = search rules in
    let r : leb c.args.receivers c.args.r.receiver ≡ false = search rules in
    let later = refuse c.args.is_used 24 (refused_by c.args.later) in
    let v = refused_later (not c.args.r.verified) 23 later c.in_err-refuse_if-3.field-0.0 c.in_err-refuse_if-3.ensures in
    rw (s, r) (search rules)
