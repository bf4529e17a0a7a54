-- The answer of a call (document 01, "Refusals"): its number and its place. Assumes nothing.
use Rattle.std.specs.Prelude.{ℕ, zero, suc, ◌<◌, ◌≡◌, Bool, true, false, Result, Ok, Err}
use Rattle.answers.specs.Refusals.{Alike, refusal_number}
use Rattle.answers.specs.declared.refusal.Refused.{Refused as RefusedAt}
use Rattle.answers.specs.declared.by_number.ByNumber.{ByNumber}
use Rattle.answers.specs.declared.by_number.ByNumber.TheVariants.{Passed as PassedBy, Refused as RefusedBy}

-- passed, or a refusal with its number and its place
pub data Answer : Type 0 where
  Passed : Answer
  Refused : ℕ → ℕ → Answer

-- the answer that a call's result is
abbrev pub answer_of : {A : Type 0} → Result A RefusedAt → Answer
answer_of (Ok x) = Passed
answer_of (Err r) = Refused (refusal_number r.refusal) r.place

-- the answer that one by its number is
abbrev pub answer_by : ByNumber → Answer
answer_by PassedBy = Passed
answer_by (RefusedBy n p) = Refused n p

-- the documents' number of each case: 0 passed, or the refusal's
abbrev pub number_of : Answer → ℕ
number_of Passed = 0
number_of (Refused n p) = n

-- document 01's place of each case: 0 where it passed
abbrev pub place_of : Answer → ℕ
place_of Passed = 0
place_of (Refused n p) = p

-- ## Which answer

-- the case with the documents' number n and place p: passed for 0, and else that refusal. Every definition that a contract cites
-- makes its answers by it, so that none gives a refusal with number 0; claims name the case that then comes back
abbrev pub answer : ℕ → ℕ → Answer
answer zero p = Passed
answer (suc n) p = Refused (suc n) p

-- it tells its number, and where it is a refusal its place
unfoldable pub Tells : Type 0
Tells = (n p : ℕ) → (number_of (answer n p) ≡ n) × (0 < n → place_of (answer n p) ≡ p)

-- what is said of the answer that a result is says which refusal it is and where, or that it passed
unfoldable pub AnswersTold : Type 1
AnswersTold = (A : Type 0) (x y : Result A RefusedAt) → answer_of x ≡ answer_of y → Alike x y

-- ## The order of refusals

-- refusal n where the test holds, and else what the later tests say; 0 is a pass
abbrev pub refuse : Bool → ℕ → ℕ → ℕ
refuse true n later = n
refuse false n later = later

-- a refusal, and where there is none what the later tests say
abbrev pub or_else : ℕ → ℕ → ℕ
or_else zero later = later
or_else (suc n) later = suc n

-- what a call hands out where it has no refusal, and what it hands out instead
abbrev pub unless_refused : {A : Type 0} → ℕ → A → A → A
unless_refused zero given instead = given
unless_refused (suc n) given instead = instead
