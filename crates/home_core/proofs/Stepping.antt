-- What a record asks that passes in a state with the index of its numbers, and what it leaves. Assumes nothing.
use Rattle.wire.proofs.Prelude.{List, ◌+◌, ◌<◌, ◌≡◌, arith, length, ℕ}
use Rattle.home_core.proofs.Accept.{sound_of}
use Rattle.home_core.proofs.Passing.{next_of, passes_of}
use Rattle.home_core.specs.Layout.{HomeReady, home_count_of, home_view_of, home_with, home_words_checker}
use Rattle.ledgers.specs.Limits.{capacity}
use Rattle.places.specs.NumberIndex.{chain_count}
use Rattle.records.specs.declared.Words.{Words}
use Rattle.rules.proofs.Parts.{ReadsAs, Stepped, step_passed}
use Rattle.rules.specs.HomeValidator.{home_judge}
use Rattle.rules.specs.Rules.{Read, Record}
use Rattle.table.specs.Table.{with_number}

module _ {s index b : List ℕ} {w : Words} {r : Record} (h : HomeReady s index) (x : ReadsAs b w r)
    (j : home_judge capacity (home_view_of s) (Read r) ≡ 0) where
  -- there is room for it, and in the index for its number
  pub number_room : (0 + chain_count + home_count_of s < length index) × (home_count_of s < capacity)
  number_room = let m = (passes_of s (sound_of s h.accepted) r j).room in (omega (arith, h.index_long), m)

  -- what it leaves
  pub step_leaves : {t i : List ℕ} → t ≡ home_with s w r → i ≡ with_number index 0 (home_count_of s) r.number
      → Stepped home_words_checker HomeReady s b 0 t i
  step_leaves q g =
      let n = next_of s h.accepted b r x.reads j in
      step_passed home_words_checker HomeReady s b (rw x.reads j) (rw (x.reads, ← x.words) q) (rw (q, g, x.words) (n.ready index h))
