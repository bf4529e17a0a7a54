-- The refusals in order are the pair validator's. Assumes nothing.
use Rattle.std.proofs.Common.{◌∙◌, ap}
use Rattle.ledgers.specs.Ledgers.{ledger_byte}
use Rattle.pair_core.proofs.Accept.{sound_of}
use Rattle.pair_core.proofs.Accepted.judge.Goals as goal
use Rattle.pair_core.proofs.Judging.{judge_by}
use Rattle.pair_core.proofs.Ledgers.{accounts_on_lem}
use Rattle.rules.specs.Rules.{accounts_of}
use Rattle.pair_core.specs.Layout.{pair_view_of}
use Rattle.wire.proofs.Prelude.{sym}

pub returns : goal.returns
returns c =
    let s = c.args.self.words.now in
    let r = c.args.item.fields in
    let b = sound_of s c.args.self.ready.0.accepted in
    let h = c.held-held.ensures in
    let p = (pair_view_of s).pair in
    judge_by s r
    (ap ledger_byte c.ledger.ensures)
    (c.accounts_on-senders.ensures ∙ sym (accounts_on_lem s b.long b.bounds c.sender_ledger.result) ∙ ap (accounts_of p) c.sender_ledger.ensures)
    (c.accounts_on-receivers.ensures ∙ sym (accounts_on_lem s b.long b.bounds c.receiver_ledger.result) ∙ ap (accounts_of p) c.receiver_ledger.ensures)
    c.last_refusal-last.ensures
    (rw h.records.1 at c.refuse_if-full.ensures)
    c.first_refusal.ensures
    (rw (h.words, h.records.0, h.records.1, c.is_receiving-arrival.ensures) at c.is_used-used.ensures)
    c.first_refusals.ensures
