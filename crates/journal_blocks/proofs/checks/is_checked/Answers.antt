-- The goals of `journal_blocks::checks::is_checked`. Assumes nothing.
use Rattle.wire.proofs.Prelude.{◌∙◌, ap₂, arith, drop, length-drop, take_all}
use Rattle.journal_blocks.specs.Checked.{checked}
use Rattle.wire.specs.BigEndian.{same}
use Rattle.journal_blocks.proofs.checks.is_checked.Goals as goal

pub returns : goal.returns
unfolding checked
returns c =
    let b = c.args.block.now in
    let fits = c.fits-block in
    c.equal.ensures ∙ ap₂ same c.digest-d.ensures (take_all 32 (drop 480 b) (omega (arith, length-drop 480 b)))
