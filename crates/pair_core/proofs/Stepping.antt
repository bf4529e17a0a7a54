-- What a record asks that passes in a state with the indexes of its numbers, and what it leaves. Assumes nothing.
use Rattle.wire.proofs.Prelude.{List, ◌+◌, ◌<◌, ◌≡◌, arith, length, ℕ}
use Rattle.ledgers.specs.Ledgers.{ledger_byte, ledger_of}
use Rattle.ledgers.specs.Limits.{capacity}
use Rattle.pair_core.proofs.Accept.{sound_of}
use Rattle.pair_core.proofs.Ledgers.{byte_below}
use Rattle.pair_core.proofs.Passing.{next_of, passes_of}
use Rattle.pair_core.specs.Layout.{PairReady, count_on, index_on, pair_view_of, pair_with, pair_words_checker}
use Rattle.places.specs.NumberIndex.{chain_count}
use Rattle.records.specs.declared.Words.{Words}
use Rattle.rules.proofs.Parts.{ReadsAs, Stepped, step_passed}
use Rattle.rules.specs.PairValidator.{pair_judge}
use Rattle.rules.specs.Rules.{Read, Record}
use Rattle.table.specs.Table.{with_number}

module _ {s index b : List ℕ} {w : Words} {r : Record} (h : PairReady s index) (x : ReadsAs b w r)
    (j : pair_judge capacity (pair_view_of s).pair (Read r) ≡ 0) {l : ℕ} (e : l ≡ ledger_byte (ledger_of r.kind)) where
  -- its ledger has room for it, and its index for its number
  pub number_room : (index_on l + chain_count + count_on s l < length index) × (count_on s l < capacity)
  number_room =
      let m : count_on s l < capacity = rw e (passes_of s (sound_of s h.accepted) r j).room in
      let z : l < 2 = rw e (byte_below (ledger_of r.kind)) in
      (omega (arith, h.index_long), m)

  -- what it leaves
  pub step_leaves : {t i : List ℕ} → t ≡ pair_with s w r (ledger_byte (ledger_of r.kind))
      → i ≡ with_number index (index_on l) (count_on s l) r.number → Stepped pair_words_checker PairReady s b 0 t i
  step_leaves q g =
      let n = next_of s h.accepted b r x.reads j in
      step_passed pair_words_checker PairReady s b (rw x.reads j) (rw (x.reads, ← x.words) q) (rw (q, g, e, x.words) (n.ready index h))
