-- The goals of `refusals::opening::opening`. Assumes nothing.
use Rattle.wire.proofs.Prelude.{◌+◌, ◌<◌, ◌∙◌, ◌≤◌, arith, sym}
use Rattle.ledgers.specs.Limits.{max_amount}
use Rattle.places.proofs.ExactSums.{added_after, added_value, wide_fits, wide_passes}
use Rattle.places.proofs.Openings.{count_facts, far_refused, home_refused, low_is_wide, none_refused, supply_refused, tariff_refused}
use Rattle.places.proofs.Openings.{total_sum}
use Rattle.rules.specs.Lists.{total}
use Rattle.refusals.proofs.opening.opening.Goals.{then-not-is_count_allowed-via-then-not-is_count_allowed, then-not-is_count_allowed-via-else-not-is_count_allowed+then-not-is_count_allowed-2}
use Rattle.refusals.proofs.opening.opening.Goals as goal

pub returns-then-not-is_count_allowed-clause-refuses : goal.returns-then-not-is_count_allowed-clause-refuses
returns-then-not-is_count_allowed-clause-refuses c =
    elim c.then-not-is_count_allowed.branch [
      | then-not-is_count_allowed-via-then-not-is_count_allowed w ↦
          home_refused _ _ _ _ (sym c.is_count_allowed.ensures ∙ w.if-not-is_count_allowed.true)
      | then-not-is_count_allowed-via-else-not-is_count_allowed+then-not-is_count_allowed-2 w ↦
          far_refused _ _ _ _ (sym w.is_count_allowed-else-not-is_count_allowed.ensures ∙ w.if-not-is_count_allowed-2.true)
    ]

pub add_balances-home_total-requires : goal.add_balances-home_total-requires
add_balances-home_total-requires c =
    let home = sym c.is_count_allowed.ensures ∙ c.if-not-is_count_allowed.false in
    (omega arith, omega (arith, (count_facts _ home).1))

pub add_balances-supply-requires : goal.add_balances-supply-requires
add_balances-supply-requires c =
    let e = c.add_balances-home_total.ensures in
    let home = sym c.is_count_allowed.ensures ∙ c.if-not-is_count_allowed.false in
    let far = sym c.is_count_allowed-else-not-is_count_allowed.ensures ∙ c.if-not-is_count_allowed-2.false in
    (omega arith, omega (arith, (count_facts _ home).1, c.requires far, e.high_most))

pub returns-then-supply-ne0-clause-refuses : goal.returns-then-supply-ne0-clause-refuses
returns-then-supply-ne0-clause-refuses c =
    let home = sym c.is_count_allowed.ensures ∙ c.if-not-is_count_allowed.false in
    let far = sym c.is_count_allowed-else-not-is_count_allowed.ensures ∙ c.if-not-is_count_allowed-2.false in
    let w = c.add_balances-supply in
    let e = added_value c.default-zero.ensures (added_after c.add_balances-home_total.ensures w.ensures) in
    let s : max_amount < total c.args.homes.now + total c.args.fars.now =
    omega (arith, e, wide_passes w.result c.if-supply-ne0.true, total_sum c.args.homes.now, total_sum c.args.fars.now) in
    supply_refused _ _ _ _ home far s

pub returns-then-not-is_allowed-clause-refuses : goal.returns-then-not-is_allowed-clause-refuses
returns-then-not-is_allowed-clause-refuses c =
    let home = sym c.is_count_allowed.ensures ∙ c.if-not-is_count_allowed.false in
    let far = sym c.is_count_allowed-else-not-is_count_allowed.ensures ∙ c.if-not-is_count_allowed-2.false in
    let w = c.add_balances-supply in
    let e = added_value c.default-zero.ensures (added_after c.add_balances-home_total.ensures w.ensures) in
    let m = wide_fits w.result w.ensures.low_fits c.if-supply-ne0.false in
    let s : total c.args.homes.now + total c.args.fars.now ≤ max_amount =
    omega (arith, e, m, total_sum c.args.homes.now, total_sum c.args.fars.now) in
    tariff_refused _ _ _ _ home far s (sym c.is_allowed.ensures ∙ c.if-not-is_allowed.true)

pub returns-clause-refuses : goal.returns-clause-refuses
returns-clause-refuses c =
    let home = sym c.is_count_allowed.ensures ∙ c.if-not-is_count_allowed.false in
    let far = sym c.is_count_allowed-else-not-is_count_allowed.ensures ∙ c.if-not-is_count_allowed-2.false in
    let w = c.add_balances-supply in
    let e = added_value c.default-zero.ensures (added_after c.add_balances-home_total.ensures w.ensures) in
    let m = wide_fits w.result w.ensures.low_fits c.if-supply-ne0.false in
    let s : total c.args.homes.now + total c.args.fars.now ≤ max_amount =
    omega (arith, e, m, total_sum c.args.homes.now, total_sum c.args.fars.now) in
    none_refused _ _ _ _ home far s (sym c.is_allowed.ensures ∙ c.if-not-is_allowed.false)

pub returns-clause-supplies : goal.returns-clause-supplies
returns-clause-supplies c =
    let w = c.add_balances-supply in
    let e = added_value c.default-zero.ensures (added_after c.add_balances-home_total.ensures w.ensures) in
    let m = wide_fits w.result w.ensures.low_fits c.if-supply-ne0.false in
    omega (arith, e, low_is_wide w.result m, total_sum c.args.homes.now, total_sum c.args.fars.now)
