-- `journal_writer::seal` meets its contract. Assumes nothing.
use Rattle.wire.proofs.Prelude.{List, ◌++◌, ◌∙◌, ap, arith, length-take, take, ℕ}
use Rattle.journal_writer.proofs.Laying.{sealed}
use Rattle.journal_writer.proofs.seal.Goals as goal

-- src/lib.rt:106:28
pub slice_bounds-digest-end-2 : goal.slice_bounds-digest-end-2
slice_bounds-digest-end-2 c = omega (arith, length-take 480 c.args.out.now)

-- src/lib.rt:102:1
pub returns : goal.returns
returns c =
    let o = c.args.out.now in
    sealed o c.copy_from_slice.new.self c.requires
    ∙ ap (λ (y : List ℕ). take 480 o ++ y) (c.copy_from_slice.ensures.after ∙ c.digest-d.ensures)
