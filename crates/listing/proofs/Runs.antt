-- The claim that a listing's lines are those of a run: the listing calls the pair validator with one record after another.
-- Assumes nothing.
use Rattle.wire.proofs.Prelude.{List, [], ◌++◌, ◌∷◌, ◌≡◌, refl, sym, true, ℕ}
use Rattle.answers.proofs.Answers.{tells}
use Rattle.answers.specs.Answers.{Tells, number_of}
use Rattle.ledgers.specs.Limits.{capacity}
use Rattle.listing.specs.Listing.{state_listed}
use Rattle.listing.specs.Runs.{ListedAsRun, listed, one_by_one}
use Rattle.rules.proofs.PairAccepted.{pair_keeps_accepted}
use Rattle.rules.proofs.PairConserved.{conserved, pair_opened_accepted}
use Rattle.rules.specs.Calls.{Checker, KeepsAccepted, call, call_one, one, run}
use Rattle.rules.specs.PairValidator.{Conserved, ConservedAfter, PairKeepsAccepted, pair_opened, pair_validator}

module _ {S : Type 0} (c : Checker S) where
  -- a call with one record in an accepted state is the listing's step
  pub one_accepted : (s : S) (b : List ℕ) → c.accepts s ≡ true → call c s (one b) ≡ call_one c s b
  unfolding call
  one_accepted s b a = rw a

  -- the answer of such a call has the number that the validator says
  pub one_number : (s : S) (b : List ℕ) → c.accepts s ≡ true → c.judge s b ≡ number_of (call c s (one b)).answer
  unfolding call_one Tells
  one_number s b a = rw (one_accepted s b a) (sym (tells (c.judge s b) 0).0)

  -- from an accepted state the state after records is the one that the run of a call with each reaches
  pub listed_run : KeepsAccepted c → (s : S) → c.accepts s ≡ true → (bs : List (List ℕ)) → state_listed c s bs ≡ run c s (one_by_one bs)
  unfolding KeepsAccepted state_listed run one_by_one
  listed_run k s a [] = refl
  listed_run k s a (b ∷ bs) = rw (← (one_accepted s b a)) (listed_run k (call c s (one b)).state (k s a (one b)) bs)

-- the claim: each line of a listing after an accepted opening has the answer and the figures of the run
pub listed_as_run : ListedAsRun
unfolding ListedAsRun Conserved PairKeepsAccepted
listed_as_run tariff homes fars h bs b =
    record {
      answer_is = rw (same bs) (one_number (pair_validator capacity) _ b (conserved capacity tariff homes fars h (one_by_one bs)).accepted);
      state_is = same (bs ++ b ∷ []);
      flight_is = rw (same (bs ++ b ∷ [])) kept.figure;
      conserved = rw (same (bs ++ b ∷ []), kept.figure) kept.conserved;
    }
  where
    same : (xs : List (List ℕ)) → listed tariff homes fars xs ≡ run (pair_validator capacity) (pair_opened tariff homes fars) (one_by_one xs)
    same =
        listed_run (pair_validator capacity) (pair_keeps_accepted capacity) (pair_opened tariff homes fars)
        (pair_opened_accepted capacity tariff homes fars h)

    kept : ConservedAfter capacity tariff homes fars (one_by_one (bs ++ b ∷ []))
    kept = conserved capacity tariff homes fars h (one_by_one (bs ++ b ∷ []))
