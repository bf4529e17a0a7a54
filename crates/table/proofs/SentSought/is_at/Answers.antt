-- `Sent::is_at` meets its contract. Assumes nothing.
use Rattle.wire.proofs.Prelude.{◌∙◌, eq-eqb, ne_eqb, sym}
use Rattle.rules.proofs.Lists.{never_both_tests}
use Rattle.table.specs.Table.{sent_at}
use Rattle.wire.proofs.Lists.{every_not, every_one, every_skip}
use Rattle.table.proofs.SentSought.is_at.Goals as goal
use Rattle.table.proofs.SentSought.is_at.Goals.{else-self-words, then-self-words}

-- the number and the head are the same: the amount decides
pub returns-then-self-words-2 : goal.returns-then-self-words-2
unfolding sent_at
returns-then-self-words-2 c =
    let head = c.if-self-words-2.true in
    elim c.if-self-words.branch [
      | then-self-words w ↦
          sym (every_skip _ _ (eq-eqb _ _ w.if-self-words.true) ∙ every_skip _ _ (sym w.value-is ∙ head) ∙ every_one _)
      | else-self-words w ↦ absurd (never_both_tests (sym head ∙ w.value-is ∙ ne_eqb _ _ w.if-self-words.false))
    ]

-- one of the two is another
pub returns-else-self-words-2 : goal.returns-else-self-words-2
unfolding sent_at
returns-else-self-words-2 c =
    let head = c.if-self-words-2.false in
    elim c.if-self-words.branch [
      | then-self-words w ↦ head ∙ sym (every_not 1 _ (sym w.value-is ∙ head))
      | else-self-words w ↦ let no = ne_eqb _ _ w.if-self-words.false in w.value-is ∙ no ∙ sym (every_not 0 _ no)
    ]
