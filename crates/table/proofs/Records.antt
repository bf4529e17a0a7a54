-- What is asked of a table place by place is what the rules ask of its records. Assumes nothing.
use Rattle.wire.proofs.Prelude.{List, ◌∙◌, ◌≡◌, ◌≤◌, ap, arith, length, sym, true, ℕ}
use Rattle.ledgers.specs.Limits.{max_amount}
use Rattle.places.proofs.OverPlaces.{all_each, all_list, all_of, length_list}
use Rattle.places.specs.OverPlaces.{all_at}
use Rattle.records.proofs.Formed.{formed_facts}
use Rattle.records.specs.Records.{formed, record_in}
use Rattle.records.specs.declared.Words.{Words}
use Rattle.rules.specs.Lists.{all}
use Rattle.rules.specs.PairValidator.{held_allowed, stands_under}
use Rattle.rules.specs.Rules.{Ledger, Record}
use Rattle.table.proofs.Holding.{Holds, holds_of, of_holds}
use Rattle.table.specs.Table.{may_hold_at, record_at, records_from, words_at}

-- as many records as places
pub length_held_records : (s : List ℕ) (from n : ℕ) → length (records_from s from n) ≡ n
unfolding records_from
length_held_records s from n = length_list (record_at s from) 0 n

-- all records of a table read, stand under the ledger, and are ones that 21, 22, 51 and 23 would not refuse
pub record AllHeld (s : List ℕ) (from n : ℕ) (l : Ledger) (accounts : Ledger → ℕ) : Type 0 where
  pub read : all_at (λ (i : ℕ). formed (words_at s from i)) 0 n ≡ true
  pub stand : all (stands_under l) (records_from s from n) ≡ true
  pub allowed : all (held_allowed accounts) (records_from s from n) ≡ true

module _ (s : List ℕ) (from n : ℕ) (l : Ledger) (accounts : Ledger → ℕ) where
  -- where the ledger may hold each
  pub all_held : all_at (may_hold_at s from l accounts) 0 n ≡ true → AllHeld s from n l accounts
  unfolding records_from
  all_held h =
      let at : (i : ℕ) → _ → _ → Holds l accounts (words_at s from i) =
      λ i a b. holds_of l accounts (words_at s from i) (all_each _ 0 n h i a b) in
      record {
        read = all_of _ 0 n (λ i a b. (at i a b).reads);
        stand = all_list (record_at s from) (stands_under l) 0 n ∙ all_of _ 0 n (λ i a b. (at i a b).stands);
        allowed = all_list (record_at s from) (held_allowed accounts) 0 n ∙ all_of _ 0 n (λ i a b. (at i a b).allowed);
      }

  -- and back
  pub held_all : AllHeld s from n l accounts → all_at (may_hold_at s from l accounts) 0 n ≡ true
  unfolding records_from
  held_all r =
      let x = sym (all_list (record_at s from) (stands_under l) 0 n) ∙ r.stand in
      let y = sym (all_list (record_at s from) (held_allowed accounts) 0 n) ∙ r.allowed in
      all_of _ 0 n
      (λ i a b.
      of_holds l accounts (words_at s from i)
      (record { reads = all_each _ 0 n r.read i a b; stands = all_each _ 0 n x i a b; allowed = all_each _ 0 n y i a b }))

-- the amount of a record that was read
pub amount_fits : (w : Words) (r : Record) → formed w ≡ true → record_in w ≡ r → r.amount ≤ max_amount
unfolding record_in
amount_fits w r f e =
    let q : w.amount ≡ r.amount = ap (λ (x : Record). x.amount) e in
    omega (arith, q, (formed_facts w f).amount_most)
