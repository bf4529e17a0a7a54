-- `sha256::whole_blocks` meets its contract. Assumes nothing.
use Rattle.wire.proofs.Prelude.{[], ◌+◌, ◌∙◌, ◌∷◌, ◌≡◌, ◌++◌, arith, length, length-append, rules, sym}
use Rattle.sha256.specs.Sha256.{hashed}
use Rattle.sha256.proofs.Padding.{hashed_next, next_block}
use Rattle.sha256.proofs.whole_blocks.Goals as goal

pub loop-block-init : goal.loop-block-init
unfolding hashed
loop-block-init c = record { size = search rules; within = omega arith; rest = search rules; hash = search rules }

pub loop-block-preserved : goal.loop-block-preserved
loop-block-preserved c =
    let i = c.loop-block.invariant in
    let s = c.in-Some.ensures.steps in
    let count : length (c.loop-block.yielded ++ c.in-Some.block ∷ []) ≡ length c.loop-block.yielded + 1 =
    omega (arith, length-append c.loop-block.yielded (c.in-Some.block ∷ [])) in
    let n = next_block c.args.message.now (length c.loop-block.yielded) i.within (sym i.rest ∙ s.1.0) (s.1.1 ∙ i.size) in
    rw count record { size = s.0 ∙ i.size; within = n.0; rest = n.1; hash = hashed_next _ _ i.hash n.2 c.compress-s.ensures }
