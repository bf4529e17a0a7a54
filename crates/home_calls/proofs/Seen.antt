-- A validator that takes certificates, seen through a view of its states: where each call is that of another one, each run is. And the bytes
-- of the calls with records. Assumes nothing.
use Rattle.wire.proofs.Prelude.{List, [], ◌++◌, ◌∙◌, ◌∷◌, ◌≡◌, ap, ap₂, refl, ℕ}
use Rattle.answers.specs.Answers.{Answer}
use Rattle.certificates.specs.declared.Certificate.{Certificate}
use Rattle.home_calls.specs.HomeCalls.{HomeCall, HomeCallBytes, HomeChecker, certificate, certificate_in, certificates_passed, handed_in}
use Rattle.home_calls.specs.HomeCalls.{home_call, home_passed, home_run, one_record, record_calls, record_list, when_passed}
use Rattle.rules.specs.Calls.{CallBytes, if_passed}
use Rattle.wire.specs.BigEndian.{All}

module _ {S R : Type 0} (c : HomeChecker S) (d : HomeChecker R) (view : S → R)
    (agrees : (s : S) (x : HomeCall)
    → ((home_call c s x).answer ≡ (home_call d (view s) x).answer) × (view (home_call c s x).state ≡ (home_call d (view s) x).state)) where
  -- the state
  pub run_seen : (xs : List HomeCall) (s : S) → view (home_run c s xs) ≡ home_run d (view s) xs
  unfolding home_run
  run_seen [] s = refl
  run_seen (x ∷ xs) s = run_seen xs (home_call c s x).state ∙ ap (λ (r : R). home_run d r xs) (agrees s x).1

  -- the passed records
  pub records_seen : (xs : List HomeCall) (s : S) → home_passed c s xs ≡ home_passed d (view s) xs
  unfolding home_passed
  records_seen [] s = refl
  records_seen (x ∷ xs) s =
      ap₂ (λ (n : Answer) (l : List (List ℕ)). if_passed n (handed_in x) ++ l) (agrees s x).0
      (records_seen xs (home_call c s x).state ∙ ap (λ (r : R). home_passed d r xs) (agrees s x).1)

  -- and the passed certificates
  pub certificates_seen : (xs : List HomeCall) (s : S) → certificates_passed c s xs ≡ certificates_passed d (view s) xs
  unfolding certificates_passed
  certificates_seen [] s = refl
  certificates_seen (x ∷ xs) s =
      ap₂ (λ (n : Answer) (l : List Certificate). when_passed n (certificate_in x) ++ l) (agrees s x).0
      (certificates_seen xs (home_call c s x).state ∙ ap (λ (r : R). certificates_passed d r xs) (agrees s x).1)

-- the bytes of the calls with records are bytes
pub record_bytes : (xs : List HomeCall) → All HomeCallBytes xs → All CallBytes (record_calls xs)
unfolding All record_calls
record_bytes [] h = tt
record_bytes (one_record b ∷ xs) h = (h.0, record_bytes xs h.1)
record_bytes (record_list b ∷ xs) h = (h.0, record_bytes xs h.1)
record_bytes (certificate x ∷ xs) h = record_bytes xs h.1
