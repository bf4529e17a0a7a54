-- The numbers of a table's records, and the index of none. Assumes nothing.
use Rattle.wire.proofs.Prelude.{Bool, List, [], ◌&&◌, ◌+◌, ◌∙◌, ◌∷◌, ◌≡◌, ap₂, arith, false, not, refl, replicate, suc, sym, true, zero, ℕ}
use Rattle.places.proofs.Chains.{chains_of_none}
use Rattle.places.proofs.NumberIndex.{zero_at}
use Rattle.places.proofs.OverPlaces.{any_list}
use Rattle.places.specs.OverPlaces.{any_at, apart_at, list_at}
use Rattle.records.specs.Records.{record_in}
use Rattle.rules.specs.Lists.{any}
use Rattle.rules.specs.PairValidator.{unshared}
use Rattle.rules.proofs.Lists.{eqb_turned, truth_turned}
use Rattle.rules.specs.Rules.{Record, clashes, is_receiving}
use Rattle.table.specs.Table.{EmptyIndex, IndexOf, arrival_in, head_at, number_at, record_at, records_from, shared_at, used_at}
use Rattle.wire.specs.BigEndian.{every}

-- ## Records that share a number

-- two tests
every_two : (a b : Bool) → every (a ∷ b ∷ []) ≡ (a && b)
unfolding every
every_two true true = refl
every_two true false = refl
every_two false b = refl

module _ (s : List ℕ) (from : ℕ) where
  -- a record clashes with those at places where its number is used in its class
  clash_places : (r : Record) (i n : ℕ)
      → any (clashes r) (list_at (record_at s from) i n) ≡ any_at (used_at (is_receiving r.kind) r.number s from) i n
  unfolding clashes record_in
  clash_places r i n = any_list (record_at s from) (clashes r) i n

  -- with those of a table
  pub clash_records : (r : Record) (n : ℕ)
      → any (clashes r) (records_from s from n) ≡ any_at (used_at (is_receiving r.kind) r.number s from) 0 n
  unfolding records_from
  clash_records r n = clash_places r 0 n

  -- two places share a number either way round
  pub shared_turned : (j k : ℕ) → shared_at s from j k ≡ shared_at s from k j
  shared_turned j k =
      ap₂ ◌&&◌ (truth_turned (arrival_in (head_at s from j)) (arrival_in (head_at s from k)))
      (eqb_turned (number_at s from j) (number_at s from k))

  -- numbers that are apart are of records that share none
  apart_places : (i n : ℕ) → apart_at (shared_at s from) i n ≡ unshared (list_at (record_at s from) i n)
  unfolding list_at apart_at unshared record_in
  apart_places i zero = refl
  apart_places i (suc n) =
      ap₂ (λ (a b : Bool). not a && b) (sym (clash_places (record_at s from i) (suc i) n)) (apart_places (suc i) n)
      ∙ sym (every_two (not (any (clashes (record_at s from i)) (list_at (record_at s from) (suc i) n)))
      (unshared (list_at (record_at s from) (suc i) n)))

  -- so with those of a table
  pub apart_records : (n : ℕ) → apart_at (shared_at s from) 0 n ≡ unshared (records_from s from n)
  unfolding records_from
  apart_records n = apart_places 0 n

-- ## The index of none

-- zeros are empty
pub empty_zeros : (k base : ℕ) → EmptyIndex (replicate k 0) base
empty_zeros k base j p = zero_at k (base + j)

-- an empty one is it
pub index_empty : (s : List ℕ) (from : ℕ) (index : List ℕ) (base : ℕ) → EmptyIndex index base → IndexOf s from index base 0
index_empty s from index base e = chains_of_none _ _ _ (λ h b. e h (omega arith))

-- zeros are one
pub index_none : (s : List ℕ) (from k base : ℕ) → IndexOf s from (replicate k 0) base 0
index_none s from k base = index_empty s from (replicate k 0) base (empty_zeros k base)
