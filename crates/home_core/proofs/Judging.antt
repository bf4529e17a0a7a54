-- What the functions on words say of a record is what the rules say. Assumes nothing.
use Rattle.wire.proofs.Prelude.{Bool, List, ◌∙◌, ◌≡◌, false, leb, refl, sym, true, ℕ}
use Rattle.answers.proofs.Answers.{refuse_later}
use Rattle.answers.specs.Answers.{or_else, refuse}
use Rattle.home_core.proofs.Accept.{length_held}
use Rattle.home_core.specs.Layout.{home_balances_word, home_count_of, home_tariff_of, home_view_of, home_accounts_of, pool_of}
use Rattle.ledgers.specs.Ledgers.{ledger_of, receiver_ledger, sender_ledger}
use Rattle.ledgers.specs.Limits.{capacity}
use Rattle.places.proofs.Refusals.{funds_at_lem, judged_by}
use Rattle.places.specs.LedgerBalances.{first_by, funds_at}
use Rattle.places.specs.OverPlaces.{any_at}
use Rattle.rules.proofs.Lists.{never_both_tests}
use Rattle.rules.specs.HomeValidator.{home_accounts, home_judge, home_judge_record, home_last_refusal, is_far, pool_refusal}
use Rattle.rules.specs.PairValidator.{room_refusal}
use Rattle.rules.specs.Rules.{Kind, Local, Read, Receiving, Record, Sending, first_refusal, funds_refusal, is_receiving}
use Rattle.table.proofs.Numbers.{clash_records}
use Rattle.table.specs.Table.{ledger_in, used_at}

module _ (s : List ℕ) (r : Record) where
  -- an arrival is within the pool
  pub last_pooled : (k : Kind) → is_receiving k ≡ true → pool_refusal (pool_of s) r ≡ home_last_refusal (home_view_of s) r k
  last_pooled (Local l) h = absurd (never_both_tests (sym h))
  last_pooled (Sending l) h = absurd (never_both_tests (sym h))
  last_pooled (Receiving l) h = refl

  -- a local or sending is paid
  pub last_paid : is_receiving r.kind ≡ false
      → funds_at s home_balances_word (home_accounts_of s) (home_tariff_of s).rate r ≡ home_last_refusal (home_view_of s) r r.kind
  unfolding ledger_in
  last_paid h = sym (funds_at_lem (home_view_of s).home s home_balances_word (home_accounts_of s) r refl) ∙ go r.kind h
    where
      go : (k : Kind) → is_receiving k ≡ false → funds_refusal (home_view_of s).home r k ≡ home_last_refusal (home_view_of s) r k
      go (Local l) q = refl
      go (Sending l) q = refl
      go (Receiving l) q = absurd (never_both_tests q)

  -- the refusals in order are the home validator's
  pub judge_by : {far senders receivers last full later rest n : ℕ} {taken : Bool} → far ≡ refuse (is_far (ledger_of r.kind)) 33 0
      → senders ≡ home_accounts (home_view_of s) (sender_ledger r.kind)
      → receivers ≡ home_accounts (home_view_of s) (receiver_ledger r.kind)
      → last ≡ home_last_refusal (home_view_of s) r r.kind → full ≡ refuse (leb capacity (home_count_of s)) 41 0 → later ≡ or_else last full
      → taken ≡ any_at (used_at (is_receiving r.kind) r.number s 0) 0 (home_count_of s) → rest ≡ first_by senders receivers r taken later
      → n ≡ or_else far rest → n ≡ home_judge capacity (home_view_of s) (Read r)
  unfolding home_judge_record room_refusal ledger_in
  judge_by ef es ev el eu ea et er h =
      let v = home_view_of s in
      let x = home_last_refusal v r r.kind in
      let e = judged_by (home_accounts v) v.home.passed r x es ev el (rw (length_held s) eu) ea (rw (clash_records s 0 r (home_count_of
      s)) et) er in
      h
      ∙ rw (ef, e) (refuse_later (is_far (ledger_of r.kind)) 32 0 _)
      ∙ sym (refuse_later (is_far (ledger_of r.kind)) 32 (first_refusal (home_accounts v) v.home.passed r x) _)
