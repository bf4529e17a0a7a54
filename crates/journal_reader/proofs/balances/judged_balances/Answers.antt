-- The goals of `journal_reader::balances::judged_balances`. Assumes nothing.
use Rattle.wire.proofs.Prelude.{List, ◌++◌, ◌-◌, ◌∙◌, ◌≡◌, ap, arith, refl, replicate, set, ℕ}
use Rattle.journal_blocks.proofs.Items.{table_on}
use Rattle.journal_blocks.specs.Blocks.{first_balances, stated_count}
use Rattle.journal_reader.proofs.balances.judged_balances.Goals as goal

pub loop-i-init : goal.loop-i-init
unfolding first_balances
loop-i-init c = (omega arith, omega (arith, c.stated_count-count.ensures), refl)

pub loop-i-preserved : goal.loop-i-preserved
loop-i-preserved c =
    let l = c.loop-i in
    let v = c.at in
    let e = ap (λ (o : List ℕ). set o l.i v.result) l.invariant.2 in
    (omega arith, omega arith, e ∙ table_on c.args.block.now l.i v.result (omega arith) v.ensures)

pub returns-clause-table : goal.returns-clause-table
returns-clause-table c =
    let b = c.args.block.now in
    let z : c.loop-i.i ≡ stated_count b = omega (arith, c.stated_count-count.ensures) in
    c.loop-i.invariant.2 ∙ ap (λ (i : ℕ). first_balances i b ++ replicate (56 - i) 0) z
