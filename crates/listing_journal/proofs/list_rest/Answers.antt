-- Each turn goes on from where the ones before led, and after as many as there are chunks none can go on.
use Rattle.listing_journal.proofs.Turning.{turns_last, turns_next, turns_start}
use Rattle.listing_journal.proofs.list_rest.Goals as goal

pub loop-init : goal.loop-init
loop-init g c =
    let f = c.first_cursor-cursor.ensures in
    turns_start c.first_cursor-cursor.result (f.stands c.args.state.now) c.requires.0 (rw f.figures c.requires.1)

pub turn-requires : goal.turn-requires
turn-requires g c = let v = c.loop.invariant in (v.input_long, v.ready)

pub loop-preserved : goal.loop-preserved
loop-preserved g c = turns_next c.loop.invariant (rw c.in-Continue.is at c.turn.ensures) c.turn.auto.input

pub returns-in-Break : goal.returns-in-Break
returns-in-Break g c = turns_last c.loop.invariant (rw c.in-Break.is at c.turn.ensures)
