-- The documents' number of each refusal (document 01, "Refusals"; document 02). Assumes nothing.
use Rattle.std.specs.Prelude.{ℕ, ◌<◌, ◌≡◌, Result, Ok, Err}
pub use Rattle.answers.specs.declared.refusal.Refusal.{Refusal}
pub use Rattle.answers.specs.declared.refusal.Refusal.TheVariants.{AccountCount, SupplyTooGreat, StateNotAccepted, NotAllowed, BlockSize}
pub use Rattle.answers.specs.declared.refusal.Refusal.TheVariants.{BlockCheck, BlockNumber, BlockForm, RecordForm, AccountNotOpen}
pub use Rattle.answers.specs.declared.refusal.Refusal.TheVariants.{Unverified, NumberUsed, FundsTooLow, NotSent, PoolTooLow, FarRecord}
pub use Rattle.answers.specs.declared.refusal.Refusal.TheVariants.{TableFull, ReceiverNotOpen, TariffNotAllowed, CertificateNumber}
pub use Rattle.answers.specs.declared.refusal.Refusal.TheVariants.{KeysNotInForce, SignersTooFew}

-- the number of each
abbrev pub refusal_number : Refusal → ℕ
refusal_number AccountCount = 1
refusal_number SupplyTooGreat = 2
refusal_number StateNotAccepted = 3
refusal_number NotAllowed = 4
refusal_number BlockSize = 11
refusal_number BlockCheck = 12
refusal_number BlockNumber = 13
refusal_number BlockForm = 14
refusal_number RecordForm = 21
refusal_number AccountNotOpen = 22
refusal_number Unverified = 23
refusal_number NumberUsed = 24
refusal_number FundsTooLow = 25
refusal_number NotSent = 31
refusal_number PoolTooLow = 32
refusal_number FarRecord = 33
refusal_number TableFull = 41
refusal_number ReceiverNotOpen = 51
refusal_number TariffNotAllowed = 52
refusal_number CertificateNumber = 53
refusal_number KeysNotInForce = 54
refusal_number SignersTooFew = 55

-- the number of the refusal, and 0 where there is none
abbrev pub refused_by : {A : Type 0} → Result A Refusal → ℕ
refused_by (Ok x) = 0
refused_by (Err r) = refusal_number r

-- no refusal has number 0, and no two have one number
unfoldable pub Numbered : Type 0
Numbered = (r s : Refusal) → (0 < refusal_number r) × (refusal_number r ≡ refusal_number s → r ≡ s)

-- ## Told by their numbers

-- two results both go on, or both refuse and for the same reason
abbrev pub Alike : {A E : Type 0} → Result A E → Result A E → Type 0
Alike (Ok x) (Ok y) = Unit {0}
Alike (Ok x) (Err e) = ⊥
Alike (Err d) (Ok y) = ⊥
Alike (Err d) (Err e) = d ≡ e

-- what is said of the number of a result's refusal says which refusal it is, or that there is none
unfoldable pub RefusalsTold : Type 1
RefusalsTold = (A : Type 0) (x y : Result A Refusal) → refused_by x ≡ refused_by y → Alike x y
