-- The calls of the home validator (document 01: guard) with a record, with a list of records or with a certificate (document 02, U5), and
-- its runs. The calls with records are those of every validator (Calls). Assumes nothing.
use Rattle.std.specs.Prelude.{ℕ, not, List, [], ◌++◌, ◌∷◌}
use Rattle.answers.specs.Answers.{answer, refuse, unless_refused}
use Rattle.answers.specs.Answers.{Answer}
use Rattle.answers.specs.Answers.{Passed, Refused}
use Rattle.certificates.specs.Certificates.{FarCommittee, committee_allowed}
use Rattle.certificates.specs.declared.Certificate.{Certificate}
use Rattle.rules.specs.Calls.{Call, CallBytes, Checker, Result, call, handed, if_accepted, if_passed, list, one}
use Rattle.rules.specs.HomeValidator.{home_opening_refusal}
use Rattle.tariffs.specs.declared.Tariff.{Tariff}

-- ## Calls

-- one record, a list of records, or a certificate
pub data HomeCall : Type 0 where
  one_record : List ℕ → HomeCall
  record_list : List ℕ → HomeCall
  certificate : Certificate → HomeCall

-- a call with records, as one of every validator's; none with a certificate
abbrev pub record_call : HomeCall → List Call
record_call (one_record b) = one b ∷ []
record_call (record_list b) = list b ∷ []
record_call (certificate x) = []

-- a call of every validator, as one of these
abbrev pub of_call : Call → HomeCall
of_call (one b) = one_record b
of_call (list b) = record_list b

-- the calls with records among calls, in order
unfoldable pub record_calls : List HomeCall → List Call
record_calls [] = []
record_calls (d ∷ ds) = record_call d ++ record_calls ds

-- the certificate of a call, where it has one
abbrev pub certificate_in : HomeCall → List Certificate
certificate_in (one_record b) = []
certificate_in (record_list b) = []
certificate_in (certificate x) = x ∷ []

-- the certificates among calls, in order
unfoldable pub certificates_in : List HomeCall → List Certificate
certificates_in [] = []
certificates_in (d ∷ ds) = certificate_in d ++ certificates_in ds

-- the records that a call hands in
abbrev pub handed_in : HomeCall → List (List ℕ)
handed_in (one_record b) = handed (one b)
handed_in (record_list b) = handed (list b)
handed_in (certificate x) = []

-- the bytes of a call are bytes, as those of every slice of u8 are
abbrev pub HomeCallBytes : HomeCall → Type 0
HomeCallBytes (one_record b) = CallBytes (one b)
HomeCallBytes (record_list b) = CallBytes (list b)
HomeCallBytes (certificate x) = Unit {0}

-- ## A validator that takes certificates

-- its judgement of records, its refusal of a certificate (0: none), and the state once one has passed
pub record HomeChecker (S : Type 0) : Type 0 where
  pub records : Checker S
  pub refusal : S → Certificate → ℕ
  pub certified : S → Certificate → S

-- what a call passed: what it handed in, or nothing (Calls: of records)
abbrev pub when_passed : {A : Type 0} → Answer → List A → List A
when_passed Passed xs = xs
when_passed (Refused n place) xs = []

module _ {S : Type 0} where
  -- a certificate in an accepted state: a refusal has place 0 and leaves the state
  unfoldable pub call_certificate : HomeChecker S → S → Certificate → Result S
  call_certificate c s x = record { answer = answer (c.refusal s x) 0; state = unless_refused (c.refusal s x) (c.certified s x) s }

  -- what a call answers and hands back: 3 before all else, with a certificate too
  abbrev pub home_call : HomeChecker S → S → HomeCall → Result S
  home_call c s (one_record b) = call c.records s (one b)
  home_call c s (record_list b) = call c.records s (list b)
  home_call c s (certificate x) = if_accepted (c.records.accepts s) s (call_certificate c s x)

  -- ## Runs

  -- the state after the calls, each with the state of the one before
  unfoldable pub home_run : HomeChecker S → S → List HomeCall → S
  home_run c s [] = s
  home_run c s (d ∷ ds) = home_run c (home_call c s d).state ds

  -- the records of all calls that passed, in order
  unfoldable pub home_passed : HomeChecker S → S → List HomeCall → List (List ℕ)
  home_passed c s [] = []
  home_passed c s (d ∷ ds) = if_passed (home_call c s d).answer (handed_in d) ++ home_passed c (home_call c s d).state ds

  -- the certificates of all calls that passed, in order
  unfoldable pub certificates_passed : HomeChecker S → S → List HomeCall → List Certificate
  certificates_passed c s [] = []
  certificates_passed c s (d ∷ ds) =
      when_passed (home_call c s d).answer (certificate_in d) ++ certificates_passed c (home_call c s d).state ds

  -- the answers to the calls with records, in order
  unfoldable pub record_answers : HomeChecker S → S → List HomeCall → List Answer
  record_answers c s [] = []
  record_answers c s (one_record b ∷ ds) = (home_call c s (one_record b)).answer ∷ record_answers c (home_call c s (one_record b)).state ds
  record_answers c s (record_list b ∷ ds) = (home_call c s (record_list b)).answer ∷ record_answers c (home_call c s (record_list b)).state ds
  record_answers c s (certificate x ∷ ds) = record_answers c (home_call c s (certificate x)).state ds

  -- the answers to the certificates, in order
  unfoldable pub certificate_answers : HomeChecker S → S → List HomeCall → List Answer
  certificate_answers c s [] = []
  certificate_answers c s (one_record b ∷ ds) = certificate_answers c (home_call c s (one_record b)).state ds
  certificate_answers c s (record_list b ∷ ds) = certificate_answers c (home_call c s (record_list b)).state ds
  certificate_answers c s (certificate x ∷ ds) =
      (home_call c s (certificate x)).answer ∷ certificate_answers c (home_call c s (certificate x)).state ds

-- ## The opening

-- the refusal of an opening with a committee or without one: 1 for k outside 1 to 32 too, before 2 and 52
abbrev pub committee_opening_refusal : FarCommittee → Tariff → List ℕ → ℕ → ℕ → ℕ
committee_opening_refusal far tariff homes far_accounts far_total =
    refuse (not (committee_allowed far)) 1 (home_opening_refusal tariff homes far_accounts far_total)
