-- `hold_indexed` meets its contract. Assumes nothing.
use Rattle.wire.proofs.Prelude.{Bool, List, ◌+◌, ◌-◌, ◌∙◌, ◌≡◌, and-false, ap, ap₂, arith, cond, false, rules}
use Rattle.wire.proofs.Prelude.{not-false, not-true, refl, sym, ℕ}
use Rattle.places.proofs.Apart.{apart_every, apart_more, place_fresh, place_twice}
use Rattle.places.proofs.NumberIndex.{kept_twice}
use Rattle.places.proofs.OverPlaces.{all_end, all_here, all_on}
use Rattle.places.specs.NumberIndex.{chain_count}
use Rattle.places.specs.OverPlaces.{all_at, any_at}
use Rattle.records.specs.Records.{reading_words}
use Rattle.records.specs.declared.Words.{Words}
use Rattle.table.proofs.Growing.{grown_else, grown_kept, index_grown}
use Rattle.table.proofs.Numbers.{index_empty, shared_turned}
use Rattle.table.specs.Table.{accounts_by, arrival_in, may_hold, may_hold_at, number_at, shared_at, used_at, with_number, words_at}
use Rattle.table.specs.declared.HeadLimits.{HeadLimits}
use Rattle.table.proofs.hold_indexed.Goals as goal

-- the ledger may hold the record in words
abbrev holding : HeadLimits → Words → Bool
holding x w = may_hold x.ledger (accounts_by x.ledger x.own x.other) (reading_words w)

-- a record before place i shares its number where its number is used in its class
shared_any : (s : List ℕ) (from i : ℕ) (w : Words) {arrival : Bool} → w ≡ words_at s from i → arrival ≡ arrival_in w.head
    → any_at (shared_at s from i) 0 i ≡ any_at (used_at arrival w.number s from) 0 i
shared_any s from i w e a =
    sym
    (ap₂ (λ (t : Bool) (x : ℕ). any_at (used_at t x s from) 0 i) (a ∙ ap (λ (y : Words). arrival_in y.head) e)
    (ap (λ (y : Words). y.number) e))

pub loop-i-init : goal.loop-i-init
loop-i-init c =
    let a = c.args in
    let z : a.n ≡ a.n - 0 = omega arith in
    record {
      held = ap (all_at _ 0) z;
      others = search rules;
      indexed = index_empty a.words.now a.from a.index.now a.base c.requires.3;
      apart = λ j k p q. absurd (omega arith);
      empty = λ k p q.
          let e : a.base + chain_count + k ≡ a.base + (chain_count + k) = omega arith in
          rw e (c.requires.3 (chain_count + k) (omega (arith, c.requires.2, q)));
    }

pub returns-then-not-may_hold-clause-holds : goal.returns-then-not-may_hold-clause-holds
returns-then-not-may_hold-clause-holds c =
    let l = c.loop-i in
    let e = sym (ap (holding c.args.limits) c.words_at-w.ensures) ∙ sym c.may_hold.ensures ∙ c.if-not-may_hold.true in
    let z = l.invariant.held ∙ all_here _ l.i c.args.n (omega arith) e in
    rw z

pub returns-then-not-add_if_unused-clause-holds : goal.returns-then-not-add_if_unused-clause-holds
returns-then-not-add_if_unused-clause-holds c =
    let l = c.loop-i in
    let s = c.args.words.now in
    let from = c.args.from in
    let x = c.args.limits in
    let used = not-false _ (sym c.add_if_unused.ensures.answers ∙ c.if-not-add_if_unused.true) in
    let f = shared_any s from l.i c.words_at-w.result c.words_at-w.ensures c.is_arrival.ensures ∙ used in
    let z = place_twice (shared_at s from) (shared_turned s from) l.i c.args.n (omega arith) f in
    rw z (sym (and-false (all_at (may_hold_at s from x.ledger (accounts_by x.ledger x.own x.other)) 0 c.args.n)))

pub loop-i-preserved : goal.loop-i-preserved
loop-i-preserved c =
    let l = c.loop-i in
    let a = c.args in
    let s = a.words.now in
    let number = c.words_at-w.result.number in
    let x : number ≡ number_at s a.from l.i = ap (λ (y : Words). y.number) c.words_at-w.ensures in
    let e = sym (ap (holding a.limits) c.words_at-w.ensures) ∙ sym c.may_hold.ensures ∙ c.if-not-may_hold.false in
    let r = c.if-not-add_if_unused.false in
    let unused : any_at (used_at c.is_arrival.result number s a.from) 0 l.i ≡ false =
    not-true _ (sym c.add_if_unused.ensures.answers ∙ r) in
    let fresh = shared_any s a.from l.i c.words_at-w.result c.words_at-w.ensures c.is_arrival.ensures ∙ unused in
    let g =
    c.add_if_unused.ensures.leaves ∙ ap (λ (b : Bool). cond b (with_number l.index a.base l.i number) l.index) r in
    record {
      held = l.invariant.held ∙ all_on _ l.i a.n (omega arith) e;
      others = kept_twice l.invariant.others (rw g (grown_kept l.index a.base l.i a.n number (omega arith)));
      indexed = rw g (index_grown s s a.from l.index a.base l.i number l.invariant.indexed
          (omega (arith, c.requires.1, l.invariant.others.long)) (λ h p. refl) x);
      apart = apart_more (shared_at s a.from) l.i l.invariant.apart (place_fresh (shared_at s a.from) (shared_turned s a.from) l.i fresh);
      empty = λ k p q. rw g (grown_else l.index a.base l.i number k (λ z. omega (arith, z, p)) ∙ l.invariant.empty k (omega (arith, p)) q);
    }

pub returns-clause-holds : goal.returns-clause-holds
returns-clause-holds c =
    let l = c.loop-i in
    let z : l.i ≡ c.args.n = omega arith in
    let a = l.invariant.held ∙ all_end _ l.i c.args.n (omega arith) in
    let b = apart_every (shared_at c.args.words.now c.args.from) c.args.n (rw z at l.invariant.apart) in
    rw (a, b)
