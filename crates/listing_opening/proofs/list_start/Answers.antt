-- The first two parts of the bytes are blocks 0 and 1. Assumes nothing.
use Rattle.listing_opening.proofs.OpeningText.{halves}
use Rattle.listing_opening.proofs.list_start.Goals as goal
use Rattle.std.proofs.Common.{ap, drop, take, ◌∙◌, ◌≡◌}

pub returns : goal.returns
returns g c =
    let b = c.args.bytes.now in
    let s = c.split_at in
    let h = halves b c.part_end.ensures in
    let home : s.result.0.now ≡ take 512 b = s.ensures.front ∙ h.0 in
    let far : take c.part_end-2.result s.result.1.now ≡ take 512 (drop 512 b) =
    (halves s.result.1.now c.part_end-2.ensures).0 ∙ ap (take 512) (s.ensures.back ∙ h.1) in
    rw (home, far) at c.list_opening.ensures
