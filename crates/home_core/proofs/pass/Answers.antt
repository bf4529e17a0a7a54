-- `home_core::pass`: its stores fit, and leave the words after a pass. Assumes nothing.
use Rattle.wire.proofs.Prelude.{List, ◌*◌, ◌+◌, ◌-◌, ◌∙◌, ◌≡◌, ap, ap₂, arith, get_or, set, sym, true, ℕ}
use Rattle.home_core.proofs.Accept.{sound_of}
use Rattle.home_core.proofs.Passing.{HomePasses, paid_fits, passes_of, pool_moved}
use Rattle.home_core.specs.Layout.{accepts_home, home_balances_word, home_count_of, home_count_word, home_view_of, home_with, pool_of, pool_word}
use Rattle.ledgers.specs.Limits.{capacity}
use Rattle.rules.specs.HomeValidator.{home_judge, pool_after}
use Rattle.rules.specs.Rules.{Read, Record, Tariff}
use Rattle.table.proofs.Records.{amount_fits}
use Rattle.table.specs.Table.{stored}
use Rattle.tariffs.proofs.Allowing.{allowed_rate}
use Rattle.home_core.proofs.pass.Goals as goal

-- the record passes
passes_at : (s : List ℕ) (r : Record) → accepts_home s ≡ true → home_judge capacity (home_view_of s) (Read r) ≡ 0 → HomePasses s r r.kind
passes_at s r h j = passes_of s (sound_of s h) r j

pub overflow_mul-count : goal.overflow_mul-count
overflow_mul-count c = omega (arith, (passes_at c.args.state.now c.args.r c.requires.0 c.requires.3).room)

pub store-requires : goal.store-requires
store-requires c =
    let a = c.args in
    let h = sound_of a.state.now c.requires.0 in
    let p = passes_of a.state.now h a.r c.requires.3 in
    let m = amount_fits a.w a.r c.requires.1 c.requires.2 in
    let y = allowed_rate _ _ h.bounds.tariff_allowed in
    let f = paid_fits a.state.now h a.r p m in
    rw c.tariff_of-tariff.ensures (omega (arith, h.long, p.room, p.sender, p.payee, p.pays, f, y, m))

pub overflow_add-state : goal.overflow_add-state
overflow_add-state c = omega (arith, c.taken_by.ensures, (passes_at c.args.state.now c.args.r c.requires.0 c.requires.3).pool_fits)

pub overflow_sub-state : goal.overflow_sub-state
overflow_sub-state c =
    omega (arith, c.given_by.ensures, c.taken_by.ensures, (passes_at c.args.state.now c.args.r c.requires.0 c.requires.3).pool_has)

pub overflow_add-state-2 : goal.overflow_add-state-2
overflow_add-state-2 c = omega (arith, (passes_at c.args.state.now c.args.r c.requires.0 c.requires.3).room)

pub returns : goal.returns
unfolding home_with
returns c =
    let a = c.args in
    let s = a.state.now in
    let m : get_or s pool_word 0 + c.taken_by.result - c.given_by.result ≡ pool_after (pool_of s) a.r a.r.kind =
    rw (c.given_by.ensures, c.taken_by.ensures) (sym (pool_moved (pool_of s) a.r a.r.kind)) in
    ap₂ (λ (x : List ℕ) (y : ℕ). set (set x pool_word y) home_count_word (home_count_of s + 1))
    (c.store.ensures
    ∙ ap (λ (t : Tariff). stored t s home_balances_word (4 * home_count_of s) a.w a.r) c.tariff_of-tariff.ensures)
    m
