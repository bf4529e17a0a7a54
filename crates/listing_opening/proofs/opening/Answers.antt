-- What an opening leaves: a refusal of block 0, of block 1 or of the opening itself, or an accepted opening. Assumes nothing.
use Rattle.answers.proofs.Refusals.{numbered}
use Rattle.answers.specs.Refusals.{Numbered, refusal_number, refused_by}
use Rattle.answers.specs.declared.refusal.Refusal.{Refusal}
use Rattle.journal_blocks.specs.Blocks.{balances_of, stated_count, tariff_in}
use Rattle.journal_reader.specs.Judged.{opening_of, opening_told}
use Rattle.answers.specs.declared.refusal.Refused.{Refused}
use Rattle.journal_reader.specs.declared.balances.Opening.{Opening}
use Rattle.listing_opening.proofs.OpeningText.{Handed, at_far, at_home, at_pair, handed, opened_in, refused, same_opening}
use Rattle.listing_opening.proofs.opening.Goals as goal
use Rattle.pair_core.specs.Layout.{pair_opened_words}
use Rattle.pair_rows.specs.Rows.{row_of}
use Rattle.pair_rows.specs.declared.Figures.{Figures}
use Rattle.std.specs.Result.{IsErrAnd, MatchResult, is_ok}
use Rattle.rules.proofs.Lists.{never_both_tests}
use Rattle.rules.specs.PairValidator.{pair_opened, pair_opening_refusal}
use Rattle.rules.specs.Rules.{Tariff}
use Rattle.std.proofs.Common.{Err, List, Ok, Result, arith, rules, sym, ◌∙◌, ◌≡◌, ap, ℕ, refl, subst}

-- what was handed out of both blocks, where they were passed
record Both (home far : List ℕ) (first second : Opening) : Type 0 where
  home_is : Handed home 0 0 (opening_told (Ok first))
  far_is : Handed far 1 (stated_count home) (opening_told (Ok second))

both : (home far : List ℕ) {x y : Result Opening Refused} {first second : Opening} → opening_told x ≡ opening_of home 0 0 → x ≡ Ok first
    → opening_told y ≡ opening_of far 1 first.balances.count → y ≡ Ok second → Both home far first second
both home far p x q y =
    let h = handed home 0 0 (omega arith) (sym (ap opening_told x) ∙ p) refl in
    record {
      home_is = h;
      far_is = handed far 1 _ (omega arith) (sym (ap opening_told y) ∙ q ∙ ap (opening_of far 1) h.count_is) refl;
    }

-- block 0 was refused
pub returns-in_err-first-clause-refuses : goal.returns-in_err-first-clause-refuses
returns-in_err-first-clause-refuses c =
    let home = c.args.home.now in
    let r : c.from_residual.result ≡ Err c.in_err-first.field-0.0 = search rules in
    let f = refused home 0 0 (omega arith) (sym (ap opening_told c.in_err-first.was) ∙ c.opening_balances.ensures) refl in
    rw r (λ rest. rw f.1.1 (at_home home c.args.far.now f.0 f.1.0 rest))

-- block 1 was
pub returns-in_err-second-clause-refuses : goal.returns-in_err-second-clause-refuses
returns-in_err-second-clause-refuses c =
    let home = c.args.home.now in
    let far = c.args.far.now in
    let h = handed home 0 0 (omega arith) (sym (ap opening_told c.in_ok-first.was) ∙ c.opening_balances.ensures) refl in
    let r : c.from_residual-in_err-second.result ≡ Err c.in_err-second.field-0.0 = search rules in
    let f = refused far 1 _ (omega arith)
    (sym (ap opening_told c.in_err-second.was) ∙ c.opening_balances-2.ensures ∙ ap (opening_of far 1) h.count_is) refl in
    rw r (λ rest. rw f.1.1 (at_far home far h.none f.0 f.1.0 rest))

-- what was made of an opening or its refusal, without the block
unplaced : Result Figures Refused → Result Figures Refusal
unplaced (Ok a) = Ok a
unplaced (Err w) = Err w.refusal

-- where what a refusal was made into is an opening, so was what it was made of
opened : (P : Refusal → Refused → Type 0) (x : Result Figures Refusal) {y : Result Figures Refused} {v : Figures}
    → MatchResult x (λ a. y ≡ Ok a) (λ r. IsErrAnd y (P r)) → y ≡ Ok v → x ≡ Ok v
unfolding unplaced
opened P (Ok a) h e = ap unplaced (sym h ∙ e)
opened P (Err r) h e = absurd (subst (λ z. IsErrAnd z (P r)) e h)

-- and where it is a refusal, it is the same one at block 1
placed : (P : Refusal → Refused → Type 0) (x : Result Figures Refusal) {y : Result Figures Refused} {w : Refused}
    → MatchResult x (λ a. y ≡ Ok a) (λ r. IsErrAnd y (P r)) → y ≡ Err w
    → ((r : Refusal) → P r w → w ≡ record { refusal = r; place = 1 })
    → (refusal_number w.refusal ≡ refused_by x) × (w.place ≡ 1)
placed P (Ok a) h e f = absurd (never_both_tests (ap is_ok (sym h ∙ e)))
placed P (Err r) h e f =
    let k = f r (subst (λ z. IsErrAnd z (P r)) e h) in
    (ap (λ (z : Refused). refusal_number z.refusal) k, ap (λ (z : Refused). z.place) k)

-- the opening was
pub returns-in_err-figures-clause-refuses : goal.returns-in_err-figures-clause-refuses
unfolding Numbered
returns-in_err-figures-clause-refuses c =
    let home = c.args.home.now in
    let far = c.args.far.now in
    let r : c.from_residual-in_err-figures.result ≡ Err c.in_err-figures.field-0.0 = search rules in
    let w = c.in_err-figures.field-0.0 in
    let t = placed _ c.first_figures.result c.map_err.ensures.cases c.in_err-figures.was (λ r p. search rules) in
    let b = both home far c.opening_balances.ensures c.in_ok-first.was c.opening_balances-2.ensures c.in_ok-second.was in
    let h = b.home_is in
    let homes = c.as_slice-homes.ensures ∙ h.balances_are in
    let fars = c.as_slice-fars.ensures ∙ b.far_is.balances_are in
    let q : refusal_number w.refusal ≡ pair_opening_refusal (tariff_in home) (balances_of home) (balances_of far) =
    t.0 ∙ c.first_figures.ensures.refuses ∙ same_opening pair_opening_refusal h.tariff_is homes fars in
    rw r (λ rest. rw t.1 (at_pair home far h.none b.far_is.none q (λ z. omega (arith, z, (numbered w.refusal w.refusal).0)) rest))

-- it was accepted
pub returns : goal.returns
returns c =
    let home = c.args.home.now in
    let far = c.args.far.now in
    let b = both home far c.opening_balances.ensures c.in_ok-first.was c.opening_balances-2.ensures c.in_ok-second.was in
    let h = b.home_is in
    let homes = c.as_slice-homes.ensures ∙ h.balances_are in
    let fars = c.as_slice-fars.ensures ∙ b.far_is.balances_are in
    let k = opened _ c.first_figures.result c.map_err.ensures.cases c.in_ok-figures.was in
    let q = (rw k at c.first_figures.ensures.refuses) ∙ same_opening pair_opening_refusal h.tariff_is homes fars in
    let w = rw k at c.first_figures.ensures.opens in
    let row = w.0 ∙ same_opening (λ (u : Tariff) (x y : List ℕ). row_of 0 (pair_opened u x y)) h.tariff_is homes fars in
    let words = w.1 ∙ same_opening pair_opened_words h.tariff_is homes fars in
    let l = opened_in home far c.in_ok-figures.figures h.none b.far_is.none (sym q) row b.far_is.count_is words in
    record { opens = l.0; tells = l.1; refuses = tt }
