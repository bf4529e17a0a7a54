-- Demand 3, second half, whole: a call of the home validator passes exactly when some far list makes it possible.
-- Assumes nothing.
use Rattle.wire.proofs.Prelude.{List, [], ◌*◌, ◌++◌, ◌+◌, ◌-◌, ◌/◌, ◌<◌, ◌^◌, ◌∙◌, ◌∷◌, ◌≡◌, ◌≤◌, arith, drop, eqb, eqb-false, false, get_or}
use Rattle.wire.proofs.Prelude.{leb-true, length, length-append, length-map, ltb-true, map, refl, subst, sym, ℕ}
use Rattle.ledgers.specs.Limits.{account_limit, max_amount}
use Rattle.rules.proofs.Clashes.{used}
use Rattle.rules.proofs.FarList.{gather}
use Rattle.rules.proofs.HomeAccepted.{home_run_accepted}
use Rattle.rules.proofs.HomePool.{all_home}
use Rattle.rules.proofs.HomeSound.{Sound, interleaving_sound, sound_opened}
use Rattle.rules.proofs.Lacking.{is_in, lacking}
use Rattle.rules.proofs.Lists.{every_all, or_neither}
use Rattle.rules.proofs.PairConserved.{opening_none}
use Rattle.rules.proofs.RunBytes.{handed_bytes, passed_bytes}
use Rattle.rules.proofs.Runs.{call_in_turn, in_turn_append, in_turn_call, in_turn_split, reached_run}
use Rattle.rules.specs.Calls.{InTurn, call, handed, passed_records, run}
use Rattle.rules.specs.HomeValidator.{HomeRecord, Possible, home_opened, home_validator, most_capacity, received, sent}
use Rattle.rules.specs.HomeValidator.{ExactlyWhenPossible}
use Rattle.rules.specs.Lists.{any, sum, total}
use Rattle.rules.specs.PairValidator.{count_allowed, supply_allowed}
use Rattle.rules.specs.Rules.{Tariff, new_ledger, opened}
use Rattle.tariffs.specs.Tariffs.{free}
use Rattle.wire.proofs.Lists.{all_append}
use Rattle.wire.specs.BigEndian.{All, Bytes, field}

-- ## A block of numbers that no home record uses

-- the block of a record's number
block_of : List ℕ → ℕ
block_of b = field 8 8 b / 2 ^ 32

-- a block that is not in the list of blocks
clear_block : (block : ℕ) (bs : List (List ℕ)) → is_in block (map block_of bs) ≡ false
    → All (λ (b : List ℕ). field 8 8 b / 2 ^ 32 ≡ block → ⊥) bs
unfolding is_in any All block_of
clear_block block [] h = tt
clear_block block (b ∷ bs) h =
    let u = or_neither (eqb block (field 8 8 b / 2 ^ 32)) (is_in block (map block_of bs)) h in
    ((λ q. eqb-false block (field 8 8 b / 2 ^ 32) u.0 (sym q)), clear_block block bs u.1)

-- ## From the opening

-- the first account and the others
first_and_rest : (fars : List ℕ) → 0 < length fars → get_or fars 0 0 + total (drop 1 fars) ≡ total fars
unfolding sum
first_and_rest [] h = absurd (omega arith)
first_and_rest (f ∷ fars) h = refl

-- home records that pass in turn from the opening have a far list beside them, for every split of the far total
pub complete : (tariff : Tariff) (homes fars : List ℕ) (far_accounts far_total capacity : ℕ) (bs : List (List ℕ)) → 0 < far_accounts
    → far_accounts ≤ account_limit → far_total ≤ max_amount → length fars ≡ far_accounts → total fars ≡ far_total → length bs ≤ capacity
    → capacity ≤ most_capacity → All Bytes bs → InTurn (home_validator capacity) (home_opened tariff homes far_accounts far_total) bs
    → Possible (opened tariff homes fars) bs
unfolding used any
complete tariff homes fars far_accounts far_total capacity bs some few small ln tot len most by it =
    let l = lacking (map block_of bs) in
    let block = l.0 in
    let le : block ≤ length bs = omega (arith, l.1, length-map bs block_of) in
    let top : block * 2 ^ 32 + 2 ^ 32 ≤ 2 ^ 64 = omega arith in
    gather far_accounts (total homes + far_total) block some (omega arith) top bs capacity far_total (new_ledger tariff homes) small (λ arrival n i. refl)
    (clear_block block bs l.2) by it (far_accounts - 1) 1 0 (new_ledger free fars)
    (omega arith) (omega arith) (omega arith) refl ln (first_and_rest fars (omega arith) ∙ tot) (λ arrival n i u. refl)

-- ## The theorem

-- demand 3, the "exactly when" of its second half
pub exactly_when_possible : ExactlyWhenPossible
unfolding ExactlyWhenPossible count_allowed supply_allowed sent received sum All
exactly_when_possible capacity most tariff homes far_accounts far_total ok ds by d byd hm fit fars ln tot =
    let c = home_validator capacity in
    let v₀ = home_opened tariff homes far_accounts far_total in
    let v = run c v₀ ds in
    let done = passed_records c v₀ ds in
    let reached = reached_run c v₀ ds in
    let len : length (done ++ handed d) ≤ capacity = rw length-append fit in
    let opening = opening_none tariff (length homes) far_accounts (total homes + far_total) ok in
    let count = every_all _ opening.far_count in
    let small = leb-true (total homes + far_total) max_amount opening.supply_fits in (
      (λ h.
          complete tariff homes fars far_accounts far_total capacity (done ++ handed d) (ltb-true 0 far_accounts count.0)
          (leb-true far_accounts account_limit count.1.0) (omega arith) ln tot len most
          (all_append Bytes done (handed d) (passed_bytes c v₀ ds by) (handed_bytes d byd))
          (in_turn_append c v₀ done (handed d) reached.in_turn (rw (← reached.state) (call_in_turn c v d h)))),
      (λ p.
          let it : InTurn c v₀ (done ++ handed d) =
          interleaving_sound p.interleaved capacity far_accounts far_total (total homes + far_total) far_total
          (new_ledger tariff homes) (new_ledger free fars) ln
          (subst (Sound (new_ledger tariff homes) (new_ledger free fars)) tot (sound_opened tariff homes fars (omega (arith, ltb-true 0 far_accounts count.0)))) refl
          (omega (arith, len)) (all_append HomeRecord done (handed d) (all_home capacity v₀ done reached.in_turn) hm)
          p.are_far p.passes in
          in_turn_call c v d (home_run_accepted capacity tariff homes far_accounts far_total ok ds)
          (rw reached.state (in_turn_split c v₀ done (handed d) it).1)),
    )
