-- The goals of `journal_reader::item_count`. Assumes nothing.
use Rattle.std.specs.Prelude.{Err}
use Rattle.wire.proofs.Prelude.{◌∙◌, ◌≡◌, ap, rules, sym, ℕ}
use Rattle.answers.proofs.Answers.{passed_zero, refused_instead}
use Rattle.answers.specs.Answers.{unless_refused}
use Rattle.journal_blocks.specs.Blocks.{stated_count}
use Rattle.journal_blocks.specs.Checked.{block_refusal}
use Rattle.journal_reader.specs.Judged.{count_of}
use Rattle.journal_reader.proofs.item_count.Goals as goal

pub returns-in_err-judge : goal.returns-in_err-judge
unfolding count_of
returns-in_err-judge c =
    let a = c.args in
    let b = a.block.now in
    let r : c.from_residual.result ≡ Err c.in_err-judge.field-0.0 = search rules in
    let n = refused_instead (block_refusal b a.k a.before) a.k _ _ (stated_count b) 0 (sym c.in_err-judge.ensures) in
    rw r (λ i. record { answer = c.in_err-judge.ensures i; count = sym n i })

pub returns : goal.returns
unfolding count_of
returns c =
    let a = c.args in
    let b = a.block.now in
    let z = passed_zero (block_refusal b a.k a.before) a.k (sym c.in_ok-judge.ensures) in
    let n = c.stated_count.ensures ∙ ap (λ (m : ℕ). unless_refused m (stated_count b) 0) (sym z) in
    λ i. record { answer = c.in_ok-judge.ensures i; count = n i }
