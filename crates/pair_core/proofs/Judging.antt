-- What the functions on words say of a record is what the rules say. Assumes nothing.
use Rattle.wire.proofs.Prelude.{Bool, List, ◌-◌, ◌<◌, ◌^◌, ◌∙◌, ◌≡◌, ap, false, get_or, leb, not, refl, sym, true, ℕ}
use Rattle.answers.specs.Answers.{or_else, refuse}
use Rattle.ledgers.specs.Ledgers.{counterpart, ledger_byte, ledger_of, receiver_ledger, sender_ledger}
use Rattle.ledgers.specs.Limits.{capacity}
use Rattle.pair_core.proofs.Accept.{PairSound, standing_on}
use Rattle.pair_core.proofs.Ledgers.{length_held, other_byte, state_on}
use Rattle.pair_core.specs.Layout.{accounts_on, balances_start, count_on, ledger_on, pair_view_of, records_start, tariff_on}
use Rattle.places.proofs.Refusals.{funds_at_lem, judged_by}
use Rattle.places.specs.LedgerBalances.{first_by, funds_at}
use Rattle.places.specs.OverPlaces.{any_at}
use Rattle.records.specs.Records.{formed, record_in}
use Rattle.records.specs.declared.Words.{Words}
use Rattle.rules.proofs.Lists.{never_both_tests}
use Rattle.rules.specs.Lists.{any}
use Rattle.rules.specs.PairValidator.{matched, pair_judge, room_refusal}
use Rattle.rules.specs.Rules.{Kind, LedgerState, Local, Read, Receiving, Record, Sending, accounts_of, funds_refusal, is_receiving, judge}
use Rattle.rules.specs.Rules.{Ledger, last_refusal, match_refusal, matches, state_of}
use Rattle.table.proofs.Crossings.{asked, backed_is}
use Rattle.table.proofs.Numbers.{clash_records}
use Rattle.table.specs.Table.{backed_by, ledger_in, used_at}

module _ (s : List ℕ) (r : Record) where
  -- a local or sending is paid
  paid_by : (l : Ledger) → funds_refusal (state_of l (pair_view_of s).pair) r r.kind
      ≡ funds_at s (balances_start (ledger_byte l)) (accounts_on s (ledger_byte l)) (tariff_on s (ledger_byte l)).rate r
  unfolding ledger_in
  paid_by l =
      ap (λ (x : LedgerState). funds_refusal x r r.kind) (state_on s l)
      ∙ funds_at_lem (ledger_on s (ledger_byte l)) s (balances_start (ledger_byte l)) (accounts_on s (ledger_byte l)) r refl

  -- as the refusals have it by its kind
  pub last_paid : (k : Kind) → r.kind ≡ k → is_receiving k ≡ false
      → funds_at s (balances_start (ledger_byte (ledger_of k))) (accounts_on s (ledger_byte (ledger_of k))) (tariff_on s (ledger_byte (ledger_of k))).rate r
      ≡ last_refusal (pair_view_of s).pair r k
  last_paid (Local l) q h = rw (← q) (sym (paid_by l))
  last_paid (Sending l) q h = rw (← q) (sym (paid_by l))
  last_paid (Receiving l) q h = absurd (never_both_tests h)

  -- an arrival is matched
  pub last_matched : PairSound s → ((i : ℕ) → get_or s i 0 < 2 ^ 64) → (w : Words) → formed w ≡ true → record_in w ≡ r
      → (k : Kind) → r.kind ≡ k → is_receiving k ≡ true → (o : ℕ) → o ≡ 1 - ledger_byte (ledger_of k)
      → refuse (not (backed_by s o (records_start o) (count_on s o) w)) 31 0 ≡ last_refusal (pair_view_of s).pair r k
  unfolding ledger_in matched match_refusal
  last_matched d small w f e (Local l) q h o p = absurd (never_both_tests (sym h))
  last_matched d small w f e (Sending l) q h o p = absurd (never_both_tests (sym h))
  last_matched d small w f e (Receiving l) q h o p =
      let c = ledger_byte (counterpart l) in
      let b = backed_is s (records_start c) (count_on s c) (counterpart l) (standing_on s d small (counterpart l)) w f in
      let a = asked (is_receiving r.kind) (any (matches r) (ledger_on s c).passed) (rw q h) in
      rw (p ∙ other_byte l, ← b, e, a, state_on s (counterpart l))

  -- the refusals in order are the pair validator's
  pub judge_by : {l senders receivers last full later n : ℕ} {taken : Bool} → l ≡ ledger_byte (ledger_of r.kind)
      → senders ≡ accounts_of (pair_view_of s).pair (sender_ledger r.kind)
      → receivers ≡ accounts_of (pair_view_of s).pair (receiver_ledger r.kind)
      → last ≡ last_refusal (pair_view_of s).pair r r.kind → full ≡ refuse (leb capacity (count_on s l)) 41 0 → later ≡ or_else last full
      → taken ≡ any_at (used_at (is_receiving r.kind) r.number s (records_start l)) 0 (count_on s l)
      → n ≡ first_by senders receivers r taken later
      → n ≡ pair_judge capacity (pair_view_of s).pair (Read r)
  unfolding judge room_refusal ledger_in
  judge_by {l} eb es ev el eu ea et h =
      let p = (pair_view_of s).pair in
      judged_by (accounts_of p) (ledger_on s l).passed r (last_refusal p r r.kind) es ev el (rw (length_held s l) eu) ea
      (rw (clash_records s (records_start l) r (count_on s l)) et) h
      ∙ rw (eb, state_on s (ledger_of r.kind))
