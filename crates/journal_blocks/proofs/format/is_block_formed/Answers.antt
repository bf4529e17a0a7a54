-- The goals of `journal_blocks::format::is_block_formed`. Assumes nothing.
use Rattle.wire.proofs.Prelude.{◌∙◌, arith, false≢true, sym}
use Rattle.journal_blocks.proofs.Forming.{facts_formed_block, formed_block_facts, head_is, tail_is}
use Rattle.wire.proofs.Lists.{not_held, same_tests}
use Rattle.wire.proofs.Numbers.{field_one}
use Rattle.journal_blocks.proofs.format.is_block_formed.Goals.{else-all_zero, then-all_zero}
use Rattle.journal_blocks.proofs.format.is_block_formed.Goals.{then-block-from-via-then-block-from, then-block-from-via-else-block-from+then-count-eq0, then-block-from-via-else-block-from+else-count-eq0+then-item_limit-count}
use Rattle.journal_blocks.proofs.format.is_block_formed.Goals as goal

pub returns-then-block-from : goal.returns-then-block-from
returns-then-block-from c =
    let b = c.args.block.now in
    let kind = field_one 4 b (omega arith) in
    let count = field_one 5 b (omega arith) in
    not_held _ (λ h.
    let f = formed_block_facts _ _ _ h in
    elim c.then-block-from.branch [
      | then-block-from-via-then-block-from w ↦ omega (arith, w.if-block-from.true, c.from.ensures, c.kind_of_block.ensures, f.kind, kind)
      | then-block-from-via-else-block-from+then-count-eq0 w ↦ omega (arith, c.from-count.ensures, f.some, count)
      | then-block-from-via-else-block-from+else-count-eq0+then-item_limit-count w ↦
          omega (arith, c.from-count.ensures, w.item_limit.ensures, f.fits, count)
    ])

pub returns-then-all_zero-2 : goal.returns-then-all_zero-2
returns-then-all_zero-2 c =
    let a = c.args in
    let b = a.block.now in
    let kind = field_one 4 b (omega arith) in
    let count = c.from-count.ensures ∙ sym (field_one 5 b (omega arith)) in
    let head = sym (c.all_zero.ensures ∙ head_is b a.k _ c.head_end.ensures.0) in
    elim c.if-all_zero.branch [
      | then-all_zero w ↦
          let tail = sym (w.all_zero-then-all_zero.ensures ∙ tail_is b a.k _ _ count w.items_end.ensures.0) in
          c.follows.ensures ∙ same_tests _ _ (λ h. facts_formed_block b a.k a.before (record {
            kind = kind ∙ c.if-block-from.false ∙ c.from.ensures ∙ c.kind_of_block.ensures;
            some = omega (arith, count);
            fits = omega (arith, count, c.item_limit.ensures);
            head = head ∙ w.if-all_zero.true;
            tail = tail ∙ sym w.value-is ∙ c.if-all_zero-2.true;
            follows = h;
          })) (λ h. (formed_block_facts b a.k a.before h).follows)
      | else-all_zero w ↦ absurd (false≢true (sym w.if-all_zero.false ∙ sym w.value-is ∙ c.if-all_zero-2.true))
    ]

pub returns-else-all_zero-2 : goal.returns-else-all_zero-2
returns-else-all_zero-2 c =
    let a = c.args in
    let b = a.block.now in
    let count = c.from-count.ensures ∙ sym (field_one 5 b (omega arith)) in
    let head = c.all_zero.ensures ∙ head_is b a.k _ c.head_end.ensures.0 in
    c.if-all_zero-2.false ∙ not_held _ (λ h.
    let f = formed_block_facts _ _ _ h in
    elim c.if-all_zero.branch [
      | then-all_zero w ↦
          let tail = w.all_zero-then-all_zero.ensures ∙ tail_is b a.k _ _ count w.items_end.ensures.0 in
          false≢true (sym c.if-all_zero-2.false ∙ w.value-is ∙ tail ∙ f.tail)
      | else-all_zero w ↦ false≢true (sym w.if-all_zero.false ∙ head ∙ f.head)
    ])
