-- Laws of answers: the number and the place of an answer, and what follows from the case that came back. Assumes nothing.
use Rattle.wire.proofs.Prelude.{Bool, ◌<◌, ◌∙◌, ◌≡◌, ap, arith, false, refl, suc, sym, true, zero, ℕ}
use Rattle.std.specs.Prelude.{Ok, Err}
use Rattle.answers.specs.Answers.{AnswersTold, Passed, Refused, Tells, answer, number_of, place_of, or_else, refuse, unless_refused}
use Rattle.answers.specs.Refusals.{Numbered, Refusal, refusal_number}
use Rattle.answers.proofs.Refusals.{numbered}

-- an answer tells its number and its place
pub tells : Tells
unfolding Tells
tells zero p = (refl, λ h. absurd (omega arith))
tells (suc n) p = (refl, λ h. refl)

-- one answer has one number
pub same_number : (n m p : ℕ) → answer n p ≡ answer m p → n ≡ m
unfolding Tells
same_number n m p h = sym (tells n p).0 ∙ ap number_of h ∙ (tells m p).0

-- an answer that passed has number 0
pub passed_zero : (n p : ℕ) → answer n p ≡ Passed → n ≡ 0
passed_zero zero p h = refl
passed_zero (suc n) p h = let z : ◌≡◌ {A = ℕ} 0 1 = cc in absurd (omega arith)

-- where a refusal came back nothing is handed out
pub refused_instead : {A : Type 0} (n p m q : ℕ) (given instead : A) → answer n p ≡ Refused m q → unless_refused n given instead ≡ instead
refused_instead zero p m q given instead h = let z : ◌≡◌ {A = ℕ} 0 1 = cc in absurd (omega arith)
refused_instead (suc n) p m q given instead h = refl

-- no refusal at all
pub or_else_zero : (n later : ℕ) → or_else n later ≡ 0 → (n ≡ 0) × (later ≡ 0)
or_else_zero zero later h = (refl, h)
or_else_zero (suc n) later h = absurd (omega arith)

-- a test that does not refuse, before tests that do not
pub refuse_zero : (t : Bool) (n later : ℕ) → 0 < n → refuse t n later ≡ 0 → (t ≡ false) × (later ≡ 0)
refuse_zero false n later l h = (refl, h)
refuse_zero true n later l h = absurd (omega arith)

-- a refusal by a test, and where it does not refuse what the later tests say
pub refuse_else : (t : Bool) (n later : ℕ) → 0 < n → or_else (refuse t n 0) later ≡ refuse t n later
refuse_else true zero later l = absurd (omega arith)
refuse_else true (suc n) later l = refl
refuse_else false n later l = refl

-- any number but 0 is a refusal
pub answer_refused : (n p : ℕ) → (n ≡ 0 → ⊥) → Refused n p ≡ answer n p
answer_refused zero p h = absurd (h refl)
answer_refused (suc n) p h = refl

-- a refusal stays whatever the later tests say
pub else_refused : (n later : ℕ) → (n ≡ 0 → ⊥) → n ≡ or_else n later
else_refused zero later h = absurd (h refl)
else_refused (suc n) later h = refl

-- nothing is handed out with a refusal
pub instead_refused : {A : Type 0} (n : ℕ) (given instead : A) → (n ≡ 0 → ⊥) → instead ≡ unless_refused n given instead
instead_refused zero given instead h = absurd (h refl)
instead_refused (suc n) given instead h = refl

-- later refusals come after a test
pub refuse_later : (s : Bool) (n later x : ℕ) → or_else (refuse s (suc n) later) x ≡ refuse s (suc n) (or_else later x)
refuse_later true n later x = refl
refuse_later false n later x = refl

-- the answer with a refusal's number is that refusal
pub answer_number : (r : Refusal) (p : ℕ) → answer (refusal_number r) p ≡ Refused (refusal_number r) p
unfolding Numbered
answer_number r p = sym (answer_refused (refusal_number r) p (λ h. let l = (numbered r r).0 in absurd (omega arith)))

-- a result is told by the answer that it is
pub answers_told : AnswersTold
unfolding AnswersTold Numbered
answers_told A (Ok x) (Ok y) h = tt
answers_told A (Ok x) (Err e) h = cc
answers_told A (Err d) (Ok y) h = cc
answers_told A (Err d) (Err e) h =
    let r : d.refusal ≡ e.refusal = (numbered d.refusal e.refusal).1 (ap number_of h) in
    let p : d.place ≡ e.place = ap place_of h in
    λ i. record { refusal = r i; place = p i }
