-- What the listing of the opening leaves, alone or with the turns after it.
use Rattle.wire.proofs.Prelude.{arith, refl, sym, take, ◌∙◌, ap}
use Rattle.std.proofs.Common.{is_some}
use Rattle.listing_journal.proofs.Begun.{Begun, listed_from, long_as, started}
use Rattle.rules.proofs.Lists.{never_both_tests}
use Rattle.listing_journal.proofs.list.Given.{Over}
use Rattle.listing_journal.proofs.list.Goals.{After-list_start-start, in-Some, in_default, in_default-2}
use Rattle.listing_journal.proofs.list.Goals as goal

-- what the listing of the opening leaves
begun-at : (g : Over) (c : After-list_start-start g) → let f = c.read_full-first in let r = c.list_start-start in
    Begun f.result (take f.result f.new.buffer) r.new.out.items r.result r.new.state
begun-at g c =
    let f = c.read_full-first in
    let r = c.list_start-start in
    record {
      long = sym f.ensures.part;
      most = omega (arith, long_as 1024 f.new.buffer f.auto.buffer, f.ensures.fits);
      text_is = rw c.new-out.ensures at r.ensures.puts;
      opens = r.ensures.opens;
      stops = r.ensures.stops;
    }

pub list_opened-requires : goal.list_opened-requires
list_opened-requires g c = started _ _ _ _ (rw c.in-Some.is at c.list_start-start.ensures.opens)

pub returns : goal.returns
returns g c =
    let r = c.list_start-start in
    let b = begun-at g (goal.at.returns g c).After-list_start-start in
    let printed = c.write_all-printed.result in
    elim c.match-start.branch [
      | in-Some w ↦
          rw (c.is_some.ensures ∙ ap is_some (w.start-is ∙ sym w.in-Some.is), w.last-is)
          (listed_from r.result printed _ b c.len-end.ensures.value (λ e. absurd (never_both_tests (sym w.if-printed.true ∙ e)))
          (rw w.in-Some.is tt) (λ p. rw w.in-Some.is (_, refl, w.list_opened.ensures)))
      | in_default-2 w ↦
          rw (c.is_some.ensures ∙ ap is_some (w.start-is ∙ sym w.in-Some.is), w.last-is)
          (listed_from r.result printed _ b c.len-end.ensures.value (λ e. refl)
          (rw w.in-Some.is tt) (λ p. absurd (never_both_tests (sym p ∙ w.if-printed.false))))
      | in_default w ↦
          rw (c.is_some.ensures ∙ ap is_some w.start-is, w.last-is)
          (listed_from r.result printed _ b c.len-end.ensures.value (λ e. refl) (rw w.in_default.is refl) (λ p. rw w.in_default.is tt))
    ]
