-- The goals of `journal_reader::opening_balances`. Assumes nothing.
use Rattle.std.specs.Prelude.{Err}
use Rattle.wire.proofs.Prelude.{◌∙◌, ◌≡◌, ap, replicate, rules, sym, ℕ}
use Rattle.answers.proofs.Answers.{passed_zero, refused_instead}
use Rattle.answers.specs.Answers.{Passed, answer}
use Rattle.journal_blocks.specs.Blocks.{balance_table, stated_count, tariff_in}
use Rattle.journal_reader.proofs.Judging.{balances_facts}
use Rattle.journal_reader.specs.Judged.{balances_refusal, opening_of}
use Rattle.ledgers.specs.Limits.{account_limit}
use Rattle.tariffs.specs.Tariffs.{free}
use Rattle.journal_reader.proofs.opening_balances.Goals as goal

pub returns-in_err-answer_at : goal.returns-in_err-answer_at
unfolding opening_of
returns-in_err-answer_at c =
    let a = c.args in
    let b = a.block.now in
    let n : ℕ = balances_refusal b a.k a.before in
    let told = c.in_err-answer_at.ensures ∙ ap (λ (m : ℕ). answer m a.k) c.balances_refusal.ensures in
    let count = refused_instead n a.k _ _ (stated_count b) 0 (sym told) in
    let tariff = refused_instead n a.k _ _ (tariff_in b) free (sym told) in
    let table = refused_instead n a.k _ _ (balance_table b) (replicate account_limit 0) (sym told) in
    let r : c.from_residual.result ≡ Err c.in_err-answer_at.field-0.0 = search rules in
    rw r (λ i. record { answer = told i; count = sym count i; tariff = sym tariff i; balances = sym table i })

pub tariff_in-requires : goal.tariff_in-requires
tariff_in-requires c =
    let z = passed_zero _ c.args.k (sym (c.in_ok-answer_at.ensures ∙ ap (λ (m : ℕ). answer m c.args.k) c.balances_refusal.ensures)) in
    (balances_facts _ _ _ z).0

pub judged_balances-requires : goal.judged_balances-requires
judged_balances-requires c =
    balances_facts _ _ _ (passed_zero _ c.args.k (sym (c.in_ok-answer_at.ensures ∙ ap (λ (m : ℕ). answer m c.args.k) c.balances_refusal.ensures)))

pub returns : goal.returns
unfolding opening_of
returns c =
    let z = passed_zero _ c.args.k (sym (c.in_ok-answer_at.ensures ∙ ap (λ (m : ℕ). answer m c.args.k) c.balances_refusal.ensures)) in
    let count = c.judged_balances.ensures.count in
    let tariff = c.tariff_in.ensures in
    let table = c.judged_balances.ensures.table in
    rw z (λ i. record { answer = Passed; count = count i; tariff = tariff i; balances = table i })
