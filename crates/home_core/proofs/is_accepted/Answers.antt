-- `home_core::is_accepted`: the tests in the order of the code are what refusal 3 asks. Assumes nothing.
use Rattle.home_core.proofs.Accept.{bounds_facts, tests_are, tests_home, tests_refused}
use Rattle.home_core.specs.Layout.{accepts_home}
use Rattle.wire.proofs.Lists.{every_not, every_one, every_skip}
use Rattle.wire.proofs.Prelude.{◌∙◌, ◌≡◌, arith, eq-eqb, ne_eqb, sym}
use Rattle.home_core.proofs.is_accepted.Goals as goal

pub returns-in_default-clause-accepts : goal.returns-in_default-clause-accepts
unfolding tests_home
returns-in_default-clause-accepts c = (tests_refused c.args.s.now c.args.index.now (every_not 0 _ (ne_eqb _ _ c.in_default.ensures.cases))).0

pub returns-then-not-is_bounded-clause-accepts : goal.returns-then-not-is_bounded-clause-accepts
unfolding tests_home
returns-then-not-is_bounded-clause-accepts c =
    let bounded = rw c.in-Some.ensures.cases.same at c.is_bounded.ensures in
    (tests_refused c.args.s.now c.args.index.now (every_not 1 _ (sym bounded ∙ c.if-not-is_bounded.true))).0

pub overflow_add-accounts : goal.overflow_add-accounts
overflow_add-accounts c = omega (arith, (bounds_facts c.in-Some.words.now (sym c.is_bounded.ensures ∙ c.if-not-is_bounded.false)).home_fits)

pub overflow_sub-accounts : goal.overflow_sub-accounts
overflow_sub-accounts c = (bounds_facts c.in-Some.words.now (sym c.is_bounded.ensures ∙ c.if-not-is_bounded.false)).home_fits

pub are_zero-requires : goal.are_zero-requires
are_zero-requires c =
    let b = bounds_facts c.in-Some.words.now (sym c.is_bounded.ensures ∙ c.if-not-is_bounded.false) in
    omega (arith, b.home_fits, c.in-Some.ensures.cases.long)

pub returns-then-not-are_zero-clause-accepts : goal.returns-then-not-are_zero-clause-accepts
unfolding tests_home
returns-then-not-are_zero-clause-accepts c =
    let zeros = rw c.in-Some.ensures.cases.same at c.are_zero.ensures in
    (tests_refused c.args.s.now c.args.index.now (every_not 2 _ (sym zeros ∙ c.if-not-are_zero.true))).0

-- the limits are those of home and of the numbers of accounts
pub new-limits-requires : goal.new-limits-requires
new-limits-requires c =
    let b = bounds_facts c.in-Some.words.now (sym c.is_bounded.ensures ∙ c.if-not-is_bounded.false) in
    (b.home_fits, b.far_fits)

pub hold_indexed-requires : goal.hold_indexed-requires
hold_indexed-requires c =
    let b = bounds_facts c.in-Some.words.now (sym c.is_bounded.ensures ∙ c.if-not-is_bounded.false) in (
      omega (arith, b.room, c.in-Some.ensures.cases.long),
      omega (arith, b.room, c.requires.0),
      b.room,
      c.requires.1,
    )

pub returns-then-not-hold_indexed-clause-accepts : goal.returns-then-not-hold_indexed-clause-accepts
unfolding tests_home
returns-then-not-hold_indexed-clause-accepts c =
    let limits = c.new-limits.ensures in
    let holds = rw (limits.0, limits.1, limits.2, c.in-Some.ensures.cases.same) at c.hold_indexed.ensures.holds in
    (tests_refused c.args.s.now c.args.index.now (every_not 3 _ (sym holds ∙ c.if-not-hold_indexed.true))).0

pub returns-clause-accepts : goal.returns-clause-accepts
unfolding tests_home
returns-clause-accepts c =
    let k = c.in-Some.ensures.cases in
    let limits = c.new-limits.ensures in
    let bounded = rw k.same at c.is_bounded.ensures in
    let zeros = rw k.same at c.are_zero.ensures in
    let holds = rw (limits.0, limits.1, limits.2, k.same) at c.hold_indexed.ensures.holds in
    (rw k.same at c.adds_up.ensures)
    ∙ sym
    (every_skip _ _ (eq-eqb _ _ k.long)
    ∙ every_skip _ _ (sym bounded ∙ c.if-not-is_bounded.false)
    ∙ every_skip _ _ (sym zeros ∙ c.if-not-are_zero.false)
    ∙ every_skip _ _ (sym holds ∙ c.if-not-hold_indexed.false)
    ∙ every_one _)
    ∙ tests_are c.args.s.now

pub returns-clause-ready : goal.returns-clause-ready
unfolding tests_home
returns-clause-ready c q =
    let e : c.adds_up.result ≡ accepts_home c.args.s.now = returns-clause-accepts c in
    record {
      accepted = sym e ∙ q;
      index_long = c.hold_indexed.ensures.others.long ∙ c.requires.0;
      indexed = rw c.in-Some.ensures.cases.same at c.hold_indexed.ensures.indexed c.if-not-hold_indexed.false;
    }
