-- A whole listing from its parts: what the opening leaves, alone or with the turns after it. Assumes nothing.
use Rattle.std.proofs.Common.{IfNone, IfSome, None, Option, Some, is_some}
use Rattle.wire.proofs.Prelude.{Bool, List, [], ◌*◌, ◌++◌, ◌∙◌, ◌≡◌, ◌≤◌, ap, ap₂, arith, drop, false, length, length-replicate, replicate}
use Rattle.wire.proofs.Prelude.{subst, sym, take, take_all, true, ℕ}
use Rattle.journal_blocks.specs.Blocks.{balances_of, tariff_in}
use Rattle.listing.specs.Listing.{Progress, opened_progress}
use Rattle.listing_journal.specs.Turns.{HasLastTurn, JournalListed, start_text}
use Rattle.listing_journal.specs.declared.TurnResult.{TurnResult}
use Rattle.listing_lines.specs.Lines.{header_line}
use Rattle.listing_opening.specs.Opened.{OpenedIn}
use Rattle.listing_opening.specs.declared.Start.{Start}
use Rattle.pair_core.proofs.Opened.{opened_ready, opened_view}
use Rattle.pair_core.specs.Layout.{pair_view_of}
use Rattle.pair_rows.specs.Rows.{FiguresReady, row_of}
use Rattle.rules.proofs.Lists.{never_both_tests}
use Rattle.table.specs.Table.{index_length}

-- a list that is as long as n zeros
pub long_as : (n : ℕ) (xs : List ℕ) → length xs ≡ length (replicate {A = ℕ} n 0) → length xs ≡ n
long_as n xs q = q ∙ length-replicate {A = ℕ} n 0

-- the state of an accepted opening, with nothing held yet, is ready for the first record
pub started : (home far : List ℕ) (start : Start) (state : List ℕ) → OpenedIn home far start state
    → FiguresReady state (replicate (2 * index_length) 0) start.figures
started home far start state o =
    let v = opened_view (tariff_in home) (balances_of home) (balances_of far) o.unrefused in
    record {
      ready = rw o.state_is (opened_ready (tariff_in home) (balances_of home) (balances_of far) o.unrefused);
      row_is = o.row_is ∙ ap (row_of 0) (sym (ap pair_view_of o.state_is ∙ v));
    }

-- what the listing of the opening leaves: the bytes that were read for it, their text, and the state
pub record Begun (first : ℕ) (bytes out : List ℕ) (start : Option Start) (state : List ℕ) : Type 0 where
  pub long : length bytes ≡ first
  pub most : first ≤ 1024
  pub text_is : out ≡ header_line ++ start_text bytes []
  pub opens : IfSome start (λ s. OpenedIn (take 512 bytes) (take 512 (drop 512 bytes)) s state)
  pub stops : IfNone start ((rest : List ℕ) → start_text bytes rest ≡ start_text bytes [])

-- all of a text
all_text : (out : List ℕ) {end : ℕ} → end ≡ length out → (end ≤ length out) × (take end out ≡ out)
all_text out e = rw e (omega arith, take_all (length out) out (omega arith))

-- the listing by what the opening left, whether its text was written, and the last turn, which there is where both allow it
pub listed_from : {first : ℕ} {bytes out state : List ℕ} (start : Option Start) (printed : Bool) (last : Option TurnResult) {end : ℕ}
    → Begun first bytes out start state → end ≡ length out → (printed ≡ false → last ≡ None) → IfNone start (last ≡ None)
    → (printed ≡ true → IfSome start (λ s. HasLastTurn (opened_progress state s.before) last))
    → JournalListed (record { first = first; end = end; printed = printed; opened = is_some start; last = last })
listed_from {bytes = bytes} {out} None printed last b e u v w =
    let text = all_text out e in
    record {
      bytes = bytes;
      bytes_long = b.long;
      bytes_fit = b.most;
      out = out;
      text_fits = text.0;
      text_is = text.1 ∙ b.text_is;
      unprinted = u;
      refused = λ g. (v, b.stops);
      accepted = λ g. absurd (never_both_tests (sym g));
      lists = λ p g. absurd (never_both_tests (sym g));
    }
listed_from {bytes = bytes} {out} (Some s) printed last b e u v w =
    let text = all_text out e in
    record {
      bytes = bytes;
      bytes_long = b.long;
      bytes_fit = b.most;
      out = out;
      text_fits = text.0;
      text_is = text.1 ∙ b.text_is;
      unprinted = u;
      refused = λ g. absurd (never_both_tests g);
      accepted = λ g. b.opens.continues;
      lists = λ p g. subst (λ (q : Progress (List ℕ)). HasLastTurn q last) (ap₂ opened_progress b.opens.state_is b.opens.before_is) (w p);
    }
