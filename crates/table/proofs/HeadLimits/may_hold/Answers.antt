-- `HeadLimits::may_hold` meets its contract: the tests by limits are the ledger's own. Assumes nothing.
use Rattle.wire.proofs.Prelude.{◌%◌, ◌+◌, ◌-◌, ◌/◌, ◌<◌, ◌^◌, ◌∙◌, ◌≡◌, ap, arith, get_or, le-leb, le-ltb, lt-leb, lt-ltb, sym, ℕ}
use Rattle.ledgers.specs.Limits.{max_amount}
use Rattle.records.specs.Records.{reading_words}
use Rattle.records.specs.declared.Words.{Words}
use Rattle.table.proofs.Holding.{below, below_at}
use Rattle.table.specs.Table.{accounts_by, may_hold}
use Rattle.table.specs.declared.HeadLimits.{HeadLimits}
use Rattle.wire.proofs.Lists.{every_not, every_one, every_skip}
use Rattle.table.proofs.HeadLimits.may_hold.Goals as goal

-- a number taken from another round 2^64, and added again
round : (h b : ℕ) → h < 2 ^ 64 → b < 2 ^ 64 → ((h + (2 ^ 64 - b)) % 2 ^ 64 + b) % 2 ^ 64 ≡ h
round h b p q = omega arith

-- the tests, with how far the head is above the base of its kind
tests : (x : HeadLimits) (w : Words) (k : ℕ) → k ≡ w.head / 2 ^ 56 % 4 → w.head < 2 ^ 64 → get_or x.bases k 0 < 2 ^ 64 → w.tail < 2 ^ 64
    → below ((w.head + (2 ^ 64 - get_or x.bases k 0)) % 2 ^ 64) x.senders x.receivers w
    ≡ may_hold x.ledger (accounts_by x.ledger x.own x.other) (reading_words w)
tests x w k q hh hb ht =
    let p = x.made in
    let d : ℕ = (w.head + (2 ^ 64 - get_or x.bases k 0)) % 2 ^ 64 in
    below_at x.ledger x.own x.other x.bases x.senders x.receivers w d p.0 p.1 p.2 p.3 p.4 hh ht (omega arith)
    (ap (λ (n : ℕ). (d + get_or x.bases n 0) % 2 ^ 64) (sym q) ∙ round w.head (get_or x.bases k 0) hh hb)

pub returns-then-self-kind : goal.returns-then-self-kind
unfolding below
returns-then-self-kind c =
    let x = c.args.self.now in
    let q = c.kind_in-kind.ensures in
    let t = tests x c.args.w _ q (omega arith) (omega arith) (omega arith) in
    let s = ap (λ (n : ℕ). get_or x.senders n 0) q in
    sym (every_not 0 _ (le-ltb _ _ (omega (arith, s)))) ∙ t

pub returns-then-self-kind-2 : goal.returns-then-self-kind-2
unfolding below
returns-then-self-kind-2 c =
    let x = c.args.self.now in
    let q = c.kind_in-kind.ensures in
    let t = tests x c.args.w _ q (omega arith) (omega arith) (omega arith) in
    let s = ap (λ (n : ℕ). get_or x.receivers n 0) q in
    sym (every_not 1 _ (le-ltb _ _ (omega (arith, s)))) ∙ t

pub returns-then-w-eq0 : goal.returns-then-w-eq0
unfolding below
returns-then-w-eq0 c =
    let t = tests c.args.self.now c.args.w _ c.kind_in-kind.ensures (omega arith) (omega arith) (omega arith) in
    sym (every_not 2 _ (le-ltb 0 c.args.w.amount (omega arith))) ∙ t

pub returns-then-w-gt-MAX_AMOUNT : goal.returns-then-w-gt-MAX_AMOUNT
unfolding below
returns-then-w-gt-MAX_AMOUNT c =
    let t = tests c.args.self.now c.args.w _ c.kind_in-kind.ensures (omega arith) (omega arith) (omega arith) in
    sym (every_not 3 _ (lt-leb c.args.w.amount max_amount (omega arith))) ∙ t

pub returns : goal.returns
unfolding below
returns c =
    let x = c.args.self.now in
    let q = c.kind_in-kind.ensures in
    let t = tests x c.args.w _ q (omega arith) (omega arith) (omega arith) in
    let s = ap (λ (n : ℕ). get_or x.senders n 0) q in
    let r = ap (λ (n : ℕ). get_or x.receivers n 0) q in
    sym
    (every_skip _ _ (lt-ltb _ _ (omega (arith, s)))
    ∙ every_skip _ _ (lt-ltb _ _ (omega (arith, r)))
    ∙ every_skip _ _ (lt-ltb 0 c.args.w.amount (omega arith))
    ∙ every_skip _ _ (le-leb c.args.w.amount max_amount (omega arith))
    ∙ every_one _)
    ∙ t
