-- The tests in the order of the code are what refusal 3 asks. Assumes nothing.
use Rattle.std.proofs.Common.{Bool, List, ◌∙◌, ◌≡◌, arith, sym, true, ℕ}
use Rattle.pair_core.proofs.Accept.{accepts_is, both_indexed, second_empty, tests_of, tests_refused}
use Rattle.pair_core.proofs.Bounded.is_accepted.Goals as goal
use Rattle.pair_core.proofs.Ledgers.{bounds_of}
use Rattle.pair_core.specs.Layout.{InBounds, accepts_pair, zero_beyond}
use Rattle.pair_core.specs.Testing.{backed_on, held_on, sums_agree}
use Rattle.wire.proofs.Lists.{every_not, every_one, every_skip}
use Rattle.wire.proofs.Prelude.{eq-eqb}

pub returns-then-not-is_zero_beyond-clause-accepts : goal.returns-then-not-is_zero_beyond-clause-accepts
unfolding tests_of
returns-then-not-is_zero_beyond-clause-accepts c =
    tests_refused c.args.self.words.now c.args.self.in_bounds.small (every_not 2 _ (sym c.is_zero_beyond.ensures ∙ c.if-not-is_zero_beyond.true))

pub returns-then-not-is_zero_beyond-2-clause-accepts : goal.returns-then-not-is_zero_beyond-2-clause-accepts
unfolding tests_of
returns-then-not-is_zero_beyond-2-clause-accepts c =
    tests_refused c.args.self.words.now c.args.self.in_bounds.small (every_not 3 _ (sym c.is_zero_beyond-2.ensures ∙ c.if-not-is_zero_beyond-2.true))

pub returns-then-not-is_held-clause-accepts : goal.returns-then-not-is_held-clause-accepts
unfolding tests_of
returns-then-not-is_held-clause-accepts c =
    tests_refused c.args.self.words.now c.args.self.in_bounds.small (every_not 4 _ (sym c.is_held.ensures.holds ∙ c.if-not-is_held.true))

pub is_held-requires-2 : goal.is_held-requires-2
is_held-requires-2 c = second_empty c.is_held.ensures.others (c.requires 1 (omega arith))

pub returns-then-not-is_held-2-clause-accepts : goal.returns-then-not-is_held-2-clause-accepts
unfolding tests_of
returns-then-not-is_held-2-clause-accepts c =
    tests_refused c.args.self.words.now c.args.self.in_bounds.small (every_not 5 _ (sym c.is_held-2.ensures.holds ∙ c.if-not-is_held-2.true))

pub returns-in_default-clause-accepts : goal.returns-in_default-clause-accepts
unfolding tests_of
returns-in_default-clause-accepts c =
    tests_refused c.args.self.words.now c.args.self.in_bounds.small (every_not 6 _ (sym c.in_default.ensures.backed))

pub crossings-requires-2 : goal.crossings-requires-2
crossings-requires-2 c =
    both_indexed c.args.self.words.now (bounds_of c.args.self.words.now c.args.self.in_bounds.bounded) c.is_held-2.ensures.others
    (c.is_held.ensures.indexed c.if-not-is_held.false) (c.is_held-2.ensures.indexed c.if-not-is_held-2.false) 0 (omega arith)

pub returns-in_default-crossings-clause-accepts : goal.returns-in_default-crossings-clause-accepts
unfolding tests_of
returns-in_default-crossings-clause-accepts c =
    tests_refused c.args.self.words.now c.args.self.in_bounds.small (every_not 7 _ (sym c.in_default-crossings.ensures.backed))

-- where all tests but the last hold, the last one decides
last_decides : {s : List ℕ} → InBounds s → zero_beyond s 0 ≡ true → zero_beyond s 1 ≡ true → held_on s 0 ≡ true → held_on s 1 ≡ true
    → backed_on s 0 ≡ true → backed_on s 1 ≡ true → {t : Bool} → t ≡ sums_agree s → t ≡ accepts_pair s
unfolding tests_of
last_decides {s} b z y h f m o e =
    e
    ∙ sym
    (every_skip _ _ (eq-eqb _ _ b.long)
    ∙ every_skip _ _ b.bounded
    ∙ every_skip _ _ z
    ∙ every_skip _ _ y
    ∙ every_skip _ _ h
    ∙ every_skip _ _ f
    ∙ every_skip _ _ m
    ∙ every_skip _ _ o
    ∙ every_one _)
    ∙ accepts_is s b.small

pub returns-clause-accepts : goal.returns-clause-accepts
returns-clause-accepts c =
    last_decides c.args.self.in_bounds (sym c.is_zero_beyond.ensures ∙ c.if-not-is_zero_beyond.false)
    (sym c.is_zero_beyond-2.ensures ∙ c.if-not-is_zero_beyond-2.false) (sym c.is_held.ensures.holds ∙ c.if-not-is_held.false)
    (sym c.is_held-2.ensures.holds ∙ c.if-not-is_held-2.false) (sym c.in-Some.ensures.backed) (sym c.in-Some-crossings.ensures.backed)
    c.adds_up.ensures

pub returns-clause-ready : goal.returns-clause-ready
returns-clause-ready c =
    let b = c.args.self.in_bounds in
    let s = c.args.self.words.now in
    let e : c.adds_up.result ≡ accepts_pair s = last_decides b (sym c.is_zero_beyond.ensures ∙ c.if-not-is_zero_beyond.false)
    (sym c.is_zero_beyond-2.ensures ∙ c.if-not-is_zero_beyond-2.false) (sym c.is_held.ensures.holds ∙ c.if-not-is_held.false)
    (sym c.is_held-2.ensures.holds ∙ c.if-not-is_held-2.false) (sym c.in-Some.ensures.backed) (sym c.in-Some-crossings.ensures.backed)
    c.adds_up.ensures in
    λ q. record {
      accepted = sym e ∙ q;
      index_long = c.is_held-2.ensures.others.long ∙ c.is_held.ensures.others.long ∙ c.told-index;
      indexed = both_indexed s (bounds_of s b.bounded) c.is_held-2.ensures.others (c.is_held.ensures.indexed c.if-not-is_held.false)
          (c.is_held-2.ensures.indexed c.if-not-is_held-2.false);
    }
