-- The goals of `journal_blocks::checks::block_refusal`. Assumes nothing.
use Rattle.wire.proofs.Prelude.{Bool, List, ◌∙◌, ◌≡◌, ap, arith, eq-eqb, eqb, false, length, ltb, not, not-false, rules, sym, true, ℕ}
use Rattle.answers.proofs.Answers.{refuse_zero}
use Rattle.answers.specs.Answers.{refuse}
use Rattle.journal_blocks.proofs.Checking.{refused_later}
use Rattle.journal_blocks.specs.Blocks.{block_formed, block_number, max_block}
use Rattle.journal_blocks.specs.Checked.{block_refusal, checked, tariff_refusal}
use Rattle.journal_blocks.proofs.checks.block_refusal.Goals as goal

pub returns-in_err-refuse_if-3 : goal.returns-in_err-refuse_if-3
unfolding block_refusal
returns-in_err-refuse_if-3 c =
    let a = c.args in
    let b = a.block.now in
    let same = c.in-Ok.ensures.1.same in
    let long : eqb (length b) 512 ≡ true = eq-eqb _ _ c.in-Ok.ensures.1.long in
    let low : ltb max_block a.k ≡ false = (refuse_zero _ 11 0 (omega arith) (sym c.in_ok-refuse_if.ensures)).0 in
    let judged = not-false _ (refuse_zero _ 12 0 (omega arith) (sym c.in_ok-refuse_if-2.ensures)).0 in
    let sealed : checked b ≡ true = sym (c.is_checked.ensures ∙ ap checked same) ∙ judged in
    let number = c.from.ensures ∙ c.at.ensures ∙ ap block_number same in
    let test = c.in_err-refuse_if-3.ensures ∙ ap (λ (n : ℕ). refuse (not (eqb n a.k)) 13 0) number in
    let later = refuse (not (block_formed b a.k a.before)) 14 (tariff_refusal b a.k) in
    let v = refused_later (not (eqb (block_number b) a.k)) 13 later _ test in
    rw (long, low, sealed) (search rules)

pub returns-in_err-refuse_if-4 : goal.returns-in_err-refuse_if-4
unfolding block_refusal
returns-in_err-refuse_if-4 c =
    let a = c.args in
    let b = a.block.now in
    let same = c.in-Ok.ensures.1.same in
    let long : eqb (length b) 512 ≡ true = eq-eqb _ _ c.in-Ok.ensures.1.long in
    let low : ltb max_block a.k ≡ false = (refuse_zero _ 11 0 (omega arith) (sym c.in_ok-refuse_if.ensures)).0 in
    let judged = not-false _ (refuse_zero _ 12 0 (omega arith) (sym c.in_ok-refuse_if-2.ensures)).0 in
    let sealed : checked b ≡ true = sym (c.is_checked.ensures ∙ ap checked same) ∙ judged in
    let is_number = not-false _ (refuse_zero _ 13 0 (omega arith) (sym c.in_ok-refuse_if-3.ensures)).0 in
    let number = c.from.ensures ∙ c.at.ensures ∙ ap block_number same in
    let numbered : eqb (block_number b) a.k ≡ true = ap (λ (n : ℕ). eqb n a.k) (sym number) ∙ is_number in
    let formed = c.is_block_formed.ensures ∙ ap (λ (s : List ℕ). block_formed s a.k a.before) same in
    let test = c.in_err-refuse_if-4.ensures ∙ ap (λ (t : Bool). refuse (not t) 14 0) formed in
    let v = refused_later (not (block_formed b a.k a.before)) 14 (tariff_refusal b a.k) _ test in
    rw (long, low, sealed, numbered) (search rules)
