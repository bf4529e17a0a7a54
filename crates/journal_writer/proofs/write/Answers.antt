-- The goals of `journal_writer::write`. Assumes nothing.
use Rattle.wire.proofs.Prelude.{List, ◌++◌, ◌-◌, ◌/◌, ◌∙◌, ◌≡◌, ap, arith, length, replicate, sym, take, ℕ}
use Rattle.journal_blocks.proofs.Sizes.{block_bounds}
use Rattle.journal_writer.proofs.Allowing.{allowed_answer, allowed_facts, allowed_room, allowed_tariff, refused_answer}
use Rattle.journal_writer.specs.Written.{body, header, journal_block, written}
use Rattle.sha256.specs.Sha256.{sha256}
use Rattle.journal_writer.proofs.write.Goals as goal

pub returns-then-not-is_allowed-clause-answers : goal.returns-then-not-is_allowed-clause-answers
returns-then-not-is_allowed-clause-answers c =
    rw (refused_answer _ _ _ _ _ (sym c.is_allowed.ensures ∙ c.if-not-is_allowed.true))

pub returns-then-not-is_allowed-clause-leaves : goal.returns-then-not-is_allowed-clause-leaves
unfolding written
returns-then-not-is_allowed-clause-leaves c =
    rw (refused_answer _ _ _ _ _ (sym c.is_allowed.ensures ∙ c.if-not-is_allowed.true))

pub overflow_cast-count : goal.overflow_cast-count
overflow_cast-count c =
    let a = c.args in
    let f = allowed_facts _ _ _ _ _ (sym c.is_allowed.ensures ∙ c.if-not-is_allowed.false) in
    omega (arith, ap (λ (m : ℕ). length a.items.now / m) c.item_size.ensures, f.fits, block_bounds a.k)

pub overflow_cast-k : goal.overflow_cast-k
overflow_cast-k c = omega (arith, (allowed_facts _ _ _ _ _ (sym c.is_allowed.ensures ∙ c.if-not-is_allowed.false)).low)

pub header_of-head-requires : goal.header_of-head-requires
header_of-head-requires c =
    let f = allowed_facts _ _ _ _ _ (sym c.is_allowed.ensures ∙ c.if-not-is_allowed.false) in
    allowed_tariff _ _ _ _ _ f

pub lay-requires : goal.lay-requires
lay-requires c =
    let f = allowed_facts _ _ _ _ _ (sym c.is_allowed.ensures ∙ c.if-not-is_allowed.false) in
    (f.long, allowed_room _ _ _ _ _ f)

pub seal-requires : goal.seal-requires
seal-requires c =
    omega (arith, c.lay.auto.out, (allowed_facts _ _ _ _ _ (sym c.is_allowed.ensures ∙ c.if-not-is_allowed.false)).long)

pub returns-clause-answers : goal.returns-clause-answers
returns-clause-answers c =
    rw (allowed_answer _ _ _ _ _ (sym c.is_allowed.ensures ∙ c.if-not-is_allowed.false))

pub returns-clause-leaves : goal.returns-clause-leaves
unfolding written journal_block body
returns-clause-leaves c =
    let a = c.args in
    let t = a.items.now in
    let z = allowed_answer _ _ _ _ _ (sym c.is_allowed.ensures ∙ c.if-not-is_allowed.false) in
    let e = c.header_of-head.ensures ∙ ap (λ (m : ℕ). header a.k a.tariff (length t / m)) c.item_size.ensures in
    let h : take 480 c.lay.new.out ≡ body a.k a.tariff t =
    c.lay.ensures ∙ ap (λ (y : List ℕ). y ++ (t ++ replicate (448 - length t) 0)) e in
    rw z (c.seal.ensures ∙ ap (λ (y : List ℕ). y ++ sha256 y) h)
