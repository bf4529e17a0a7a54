-- Balances with what was sent, and the supply with what arrived, are summed exactly and compared limb by limb. Assumes nothing.
use Rattle.wire.proofs.Prelude.{List, ◌*◌, ◌+◌, ◌<◌, ◌^◌, ◌≡◌, ◌∙◌, arith, ne_eqb, true, ℕ}
use Rattle.pair_core.proofs.Ledgers.{ledger_fits}
use Rattle.pair_core.proofs.Bounded.adds_up.Goals as goal
use Rattle.pair_core.specs.Layout.{accounts_on, count_on, pair_bounds, pair_supply_of, records_start}
use Rattle.pair_core.specs.Testing.{balance_sum, flow_sum, sums_agree}
use Rattle.places.proofs.ExactSums.{added_after, added_value, halves_added, halves_both, halves_fit}
use Rattle.places.specs.ExactSums.{Added, Halves, wide}
use Rattle.places.specs.declared.exact_sums.Flows.{Flows}
use Rattle.places.specs.declared.exact_sums.Wide.{Wide}
use Rattle.rules.specs.Rules.{Far, Home}
use Rattle.table.proofs.Sums.{high_differs, low_compared}
use Rattle.table.specs.Table.{FlowsAt}

module _ (s : List ℕ) (b : pair_bounds s ≡ true) (home far : Flows) (h : FlowsAt s (records_start 0) (count_on s 0) home)
    (f : FlowsAt s (records_start 1) (count_on s 1) far) where
  -- what both ledgers sent
  sent : Halves (flow_sum 2 s 0 + flow_sum 2 s 1) (count_on s 0 + count_on s 1) (home.sent.high + far.sent.high) (home.sent.low + far.sent.low)
  sent = halves_both h.sent f.sent

  -- what both received
  received : Halves (flow_sum 3 s 0 + flow_sum 3 s 1) (count_on s 0 + count_on s 1) (home.received.high + far.received.high)
      (home.received.low + far.received.low)
  received = halves_both h.received f.received

  -- they are few, so that their sums fit
  few : 256 + 2 * (count_on s 0 + count_on s 1) < 65535
  few = omega (arith, (ledger_fits s b Home).room, (ledger_fits s b Far).room)

  -- what was sent fits, beside a high limb
  sent_fits : (high : ℕ) → high + 2 * (count_on s 0 + count_on s 1) < 65535
      → (home.sent.low + far.sent.low < 2 ^ 63) × (high * 2 ^ 31 + (home.sent.high + far.sent.high) < 65535 * 2 ^ 31)
  sent_fits high p = halves_fit high sent p

  -- and what was received
  received_fits : (high : ℕ) → high + 2 * (count_on s 0 + count_on s 1) < 65535
      → (home.received.low + far.received.low < 2 ^ 63) × (high * 2 ^ 31 + (home.received.high + far.received.high) < 65535 * 2 ^ 31)
  received_fits high p = halves_fit high received p

  -- balances and what was sent, where both ledgers' balances were added to a sum
  sent_is : {z first second v : Wide} → Added z (balance_sum s 0) (2 * accounts_on s 0) first
      → Added first (balance_sum s 1) (2 * accounts_on s 1) second
      → wide v ≡ wide second + ((home.sent.high + far.sent.high) * 2 ^ 32 + (home.sent.low + far.sent.low))
      → Added z (balance_sum s 0 + balance_sum s 1 + (flow_sum 2 s 0 + flow_sum 2 s 1))
      (2 * accounts_on s 0 + 2 * accounts_on s 1 + 2 * (count_on s 0 + count_on s 1)) v
  sent_is p q e = added_after (added_after p q) (halves_added _ _ sent e)

  -- the supply and what was received
  received_is : {z first v : Wide} → Added z (pair_supply_of s) 2 first
      → wide v ≡ wide first + ((home.received.high + far.received.high) * 2 ^ 32 + (home.received.low + far.received.low))
      → Added z (pair_supply_of s + (flow_sum 3 s 0 + flow_sum 3 s 1)) (2 + 2 * (count_on s 0 + count_on s 1)) v
  received_is p e = added_after p (halves_added _ _ received e)

pub add_balances-home_total-requires : goal.add_balances-home_total-requires
add_balances-home_total-requires c =
    let f = ledger_fits c.args.self.words.now c.args.self.in_bounds.bounded Home in (
      omega (arith, c.args.self.in_bounds.long, f.accounts, c.balances_word.ensures.0, c.accounts_on.ensures),
      omega (arith, f.accounts, c.accounts_on.ensures, c.default-zero.ensures.0),
    )

pub add_balances-balances-requires : goal.add_balances-balances-requires
add_balances-balances-requires c =
    let f = ledger_fits c.args.self.words.now c.args.self.in_bounds.bounded Home in
    let g = ledger_fits c.args.self.words.now c.args.self.in_bounds.bounded Far in
    let a = c.add_balances-home_total.ensures in (
      omega (arith, c.args.self.in_bounds.long, g.accounts, c.balances_word-2.ensures.0, c.accounts_on-2.ensures),
      omega (arith, a.high_most, f.accounts, g.accounts, c.accounts_on.ensures, c.accounts_on-2.ensures, c.default-zero.ensures.0),
    )

pub overflow_add-home : goal.overflow_add-home
overflow_add-home c =
    let b = c.args.self.in_bounds.bounded in
    let few = few c.args.self.words.now b c.args.home c.args.far c.requires.0 c.requires.1 in
    let h = sent_fits c.args.self.words.now b c.args.home c.args.far c.requires.0 c.requires.1 256 few in
    omega (arith, h.1)

pub overflow_add-home-2 : goal.overflow_add-home-2
overflow_add-home-2 c =
    let b = c.args.self.in_bounds.bounded in
    let few = few c.args.self.words.now b c.args.home c.args.far c.requires.0 c.requires.1 in
    let h = sent_fits c.args.self.words.now b c.args.home c.args.far c.requires.0 c.requires.1 256 few in
    omega (arith, h.0)

pub add_halves-sent-requires : goal.add_halves-sent-requires
add_halves-sent-requires c =
    let b = c.args.self.in_bounds.bounded in
    let f = ledger_fits c.args.self.words.now b Home in
    let g = ledger_fits c.args.self.words.now b Far in
    let held = added_after c.add_balances-home_total.ensures c.add_balances-balances.ensures in
    let h = sent_fits c.args.self.words.now b c.args.home c.args.far c.requires.0 c.requires.1 c.add_balances-balances.result.high
    (omega (arith, held.high_most, f.accounts, g.accounts, f.room, g.room, c.accounts_on.ensures, c.accounts_on-2.ensures, c.default-zero.ensures.0)) in
    (h.0, h.1)

pub overflow_add-home-3 : goal.overflow_add-home-3
overflow_add-home-3 c =
    let b = c.args.self.in_bounds.bounded in
    let few = few c.args.self.words.now b c.args.home c.args.far c.requires.0 c.requires.1 in
    let h = received_fits c.args.self.words.now b c.args.home c.args.far c.requires.0 c.requires.1 256 few in
    omega (arith, h.1)

pub overflow_add-home-4 : goal.overflow_add-home-4
overflow_add-home-4 c =
    let b = c.args.self.in_bounds.bounded in
    let few = few c.args.self.words.now b c.args.home c.args.far c.requires.0 c.requires.1 in
    let h = received_fits c.args.self.words.now b c.args.home c.args.far c.requires.0 c.requires.1 256 few in
    omega (arith, h.0)

pub add_halves-received-requires : goal.add_halves-received-requires
add_halves-received-requires c =
    let b = c.args.self.in_bounds.bounded in
    let a = c.add.ensures in
    let h = received_fits c.args.self.words.now b c.args.home c.args.far c.requires.0 c.requires.1 c.add.result.high
    (omega (arith, a.high_most, c.default-zero.ensures.0, few c.args.self.words.now b c.args.home c.args.far c.requires.0 c.requires.1)) in
    (h.0, h.1)

pub returns-then-sent-received : goal.returns-then-sent-received
unfolding sums_agree
returns-then-sent-received c =
    let s = c.args.self.words.now in
    let b = c.args.self.in_bounds.bounded in
    let homes = rw (c.balances_word.ensures.0, c.accounts_on.ensures) at c.add_balances-home_total.ensures in
    let fars = rw (c.balances_word-2.ensures.0, c.accounts_on-2.ensures) at c.add_balances-balances.ensures in
    let v = sent_is s b c.args.home c.args.far c.requires.0 c.requires.1 homes fars c.add_halves-sent.ensures in
    let w = received_is s b c.args.home c.args.far c.requires.0 c.requires.1 c.add.ensures c.add_halves-received.ensures in
    let z = c.default-zero.ensures in
    low_compared _ _ _ _ v.low_fits w.low_fits (added_value z v) (added_value z w) c.if-sent-received.true

pub returns-else-sent-received : goal.returns-else-sent-received
unfolding sums_agree
returns-else-sent-received c =
    let s = c.args.self.words.now in
    let b = c.args.self.in_bounds.bounded in
    let homes = rw (c.balances_word.ensures.0, c.accounts_on.ensures) at c.add_balances-home_total.ensures in
    let fars = rw (c.balances_word-2.ensures.0, c.accounts_on-2.ensures) at c.add_balances-balances.ensures in
    let v = sent_is s b c.args.home c.args.far c.requires.0 c.requires.1 homes fars c.add_halves-sent.ensures in
    let w = received_is s b c.args.home c.args.far c.requires.0 c.requires.1 c.add.ensures c.add_halves-received.ensures in
    let z = c.default-zero.ensures in
    ne_eqb _ _ c.if-sent-received.false
    ∙ high_differs _ _ _ _ v.low_fits w.low_fits (added_value z v) (added_value z w) c.if-sent-received.false
