-- Laws of the refusals' numbers: each refusal has its own, and a result is told by it. Assumes nothing.
use Rattle.std.specs.Prelude.{Result, Ok, Err, IfErr}
use Rattle.wire.proofs.Prelude.{◌<◌, ◌∙◌, ◌≡◌, ap, arith, cond, eqb, refl, sym, ℕ}
use Rattle.answers.specs.Refusals.{Numbered, Refusal, RefusalsTold, refusal_number, refused_by}
use Rattle.answers.specs.Refusals.{AccountCount, SupplyTooGreat, StateNotAccepted, NotAllowed, BlockSize, BlockCheck, BlockNumber}
use Rattle.answers.specs.Refusals.{BlockForm, RecordForm, AccountNotOpen, Unverified, NumberUsed, FundsTooLow, NotSent, PoolTooLow}
use Rattle.answers.specs.Refusals.{FarRecord, TableFull, ReceiverNotOpen, TariffNotAllowed, CertificateNumber, KeysNotInForce}
use Rattle.answers.specs.Refusals.{SignersTooFew}

-- the refusal with a number
with_number : ℕ → Refusal
with_number n =
    cond (eqb n 1) AccountCount (cond (eqb n 2) SupplyTooGreat (cond (eqb n 3) StateNotAccepted (cond (eqb n 4) NotAllowed
    (cond (eqb n 11) BlockSize (cond (eqb n 12) BlockCheck (cond (eqb n 13) BlockNumber (cond (eqb n 14) BlockForm
    (cond (eqb n 21) RecordForm (cond (eqb n 22) AccountNotOpen (cond (eqb n 23) Unverified (cond (eqb n 24) NumberUsed
    (cond (eqb n 25) FundsTooLow (cond (eqb n 31) NotSent (cond (eqb n 32) PoolTooLow (cond (eqb n 33) FarRecord
    (cond (eqb n 41) TableFull (cond (eqb n 51) ReceiverNotOpen (cond (eqb n 52) TariffNotAllowed (cond (eqb n 53) CertificateNumber
    (cond (eqb n 54) KeysNotInForce SignersTooFew))))))))))))))))))))

-- it is the refusal
back : (r : Refusal) → (0 < refusal_number r) × (with_number (refusal_number r) ≡ r)
unfolding with_number
back AccountCount = (omega arith, refl)
back SupplyTooGreat = (omega arith, refl)
back StateNotAccepted = (omega arith, refl)
back NotAllowed = (omega arith, refl)
back BlockSize = (omega arith, refl)
back BlockCheck = (omega arith, refl)
back BlockNumber = (omega arith, refl)
back BlockForm = (omega arith, refl)
back RecordForm = (omega arith, refl)
back AccountNotOpen = (omega arith, refl)
back Unverified = (omega arith, refl)
back NumberUsed = (omega arith, refl)
back FundsTooLow = (omega arith, refl)
back NotSent = (omega arith, refl)
back PoolTooLow = (omega arith, refl)
back FarRecord = (omega arith, refl)
back TableFull = (omega arith, refl)
back ReceiverNotOpen = (omega arith, refl)
back TariffNotAllowed = (omega arith, refl)
back CertificateNumber = (omega arith, refl)
back KeysNotInForce = (omega arith, refl)
back SignersTooFew = (omega arith, refl)

-- no refusal has number 0, and no two have one number
pub numbered : Numbered
unfolding Numbered
numbered r s = ((back r).0, λ h. sym (back r).1 ∙ ap with_number h ∙ (back s).1)

-- a result is told by the number of its refusal
pub refusals_told : RefusalsTold
unfolding RefusalsTold Numbered
refusals_told A (Ok x) (Ok y) h = tt
refusals_told A (Ok x) (Err s) h = let p = (back s).0 in omega arith
refusals_told A (Err r) (Ok y) h = let p = (back r).0 in omega arith
refusals_told A (Err r) (Err s) h = (numbered r s).1 h

-- a result with no refusal's number has no refusal
pub never_refused : {A : Type 0} (x : Result A Refusal) → refused_by x ≡ 0 → IfErr x (λ _. ⊥)
never_refused (Ok x) h = tt
never_refused (Err r) h = let p = (back r).0 in omega arith

-- and where there is nothing else to say it passes
pub passes : (x : Result (Unit {0}) Refusal) → refused_by x ≡ 0 → x ≡ Ok tt
passes (Ok tt) h = refl
passes (Err r) h = let p = (back r).0 in absurd (omega arith)
