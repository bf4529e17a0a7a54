-- After so many turns the listing stands where they led.
use Rattle.listing.specs.Listing.{opened_progress}
use Rattle.listing_journal.proofs.Turning.{Turns}
use Rattle.listing_journal.proofs.list_rest.Given as goal

abbrev pub invariant-loop : goal.invariant-loop
invariant-loop g l = Turns (opened_progress l.fn.state l.fn.start.before) l.input l.state l.index l.cursor l.counter
