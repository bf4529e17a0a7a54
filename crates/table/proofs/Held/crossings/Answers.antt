-- `Held::crossings` meets its contract. Assumes nothing.
use Rattle.wire.proofs.Prelude.{List, ◌%◌, ◌*◌, ◌+◌, ◌-◌, ◌/◌, ◌<◌, ◌^◌, ◌∙◌, ◌≡◌, ap, arith, eqb, false, refl, sym, true, ℕ}
use Rattle.std.proofs.Common.{is_some, rules}
use Rattle.std.specs.Prelude.{None}
use Rattle.ledgers.specs.Ledgers.{ledger_byte}
use Rattle.places.proofs.ExactSums.{counted_most, halves_fit, halves_more, halves_none}
use Rattle.places.proofs.OverPlaces.{all_end, all_here, all_on, sum_more, sum_none}
use Rattle.places.specs.ExactSums.{Halves}
use Rattle.places.specs.OverPlaces.{all_at, sum_at}
use Rattle.records.specs.Records.{within}
use Rattle.records.specs.declared.Words.{Words}
use Rattle.table.specs.Table.{amount_at, backed_at, backed_by, flow_at, flow_by, head_at, words_at}
use Rattle.table.proofs.Held.crossings.Goals as goal

pub loop-i-init : goal.loop-i-init
loop-i-init c =
    let s = c.args.self.words.now in
    let d = c.default-flows.ensures in
    let z : c.args.m ≡ c.args.m - 0 = omega arith in
    record {
      backed = ap (all_at _ 0) z;
      sums = record {
        sent = rw (d.0.0, d.0.1) (halves_none _ _ (sum_none (flow_at 2 s c.args.from) 0));
        received = rw (d.1.0, d.1.1) (halves_none _ _ (sum_none (flow_at 3 s c.args.from) 0));
      };
    }

-- the sum over one place more
one_more : (f : ℕ → ℕ) (i : ℕ) → sum_at f 0 (i + 1) ≡ sum_at f 0 i + f i
one_more f i =
    let a : i + 1 - 0 ≡ i + 1 = omega arith in
    let b : i - 0 ≡ i = omega arith in
    rw (a, b) at (sum_more f 0 i (omega arith))

-- the halves of one flow more
flow_more : (kind : ℕ) (s : List ℕ) (from i h l g k : ℕ) (w : Words) → amount_at s from i < 2 ^ 64 → w ≡ words_at s from i
    → Halves (sum_at (flow_at kind s from) 0 i) i h l
    → (g ≡ h + flow_by kind w / 2 ^ 32) × (k ≡ l + flow_by kind w % 2 ^ 32)
    → Halves (sum_at (flow_at kind s from) 0 (i + 1)) (i + 1) g k
flow_more kind s from i h l g k w b q a e =
    let most = counted_most (eqb (within 0 1 (head_at s from i)) kind) (amount_at s from i) (2 ^ 64) b in
    rw (e.0, e.1, q) (halves_more _ _ h l (flow_at kind s from i) _ _ a most (one_more (flow_at kind s from) i) refl)

pub returns-in_err-flows-clause-backed : goal.returns-in_err-flows-clause-backed
returns-in_err-flows-clause-backed c =
    let l = c.loop-i in
    let e : backed_at c.args.self.words.now c.args.from (ledger_byte c.args.o) c.args.self.from c.args.self.count l.i ≡ false =
    sym c.crossed.ensures.backed ∙ ap is_some c.in_err-flows.was in
    let r : c.from_residual.result ≡ None = search rules in
    ap is_some r ∙ sym (l.invariant.backed ∙ all_here _ l.i c.args.m (omega arith) e)

pub loop-i-preserved : goal.loop-i-preserved
loop-i-preserved c =
    let l = c.loop-i in
    let h = c.args.self in
    let s = h.words.now in
    let from = c.args.from in
    let w = words_at s from l.i in
    let held : backed_at s from (ledger_byte c.args.o) h.from h.count l.i ≡ true =
    sym c.crossed.ensures.backed ∙ ap is_some c.in_ok-flows.was in
    let b : amount_at s from l.i < 2 ^ 64 = c.crossed.ensures.fits in
    let e = c.in_ok-flows.ensures in
    record {
      backed = l.invariant.backed ∙ all_on _ l.i c.args.m (omega arith) held;
      sums = record {
        sent = flow_more 2 s from l.i _ _ _ _ w b refl l.invariant.sums.sent e.sent;
        received = flow_more 3 s from l.i _ _ _ _ w b refl l.invariant.sums.received e.received;
      };
    }

pub returns-clause-backed : goal.returns-clause-backed
returns-clause-backed c = sym (c.loop-i.invariant.backed ∙ all_end _ c.loop-i.i c.args.m (omega arith))
