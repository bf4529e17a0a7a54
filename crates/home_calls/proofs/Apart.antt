-- Records and certificates go apart: a run of a validator that takes certificates is, seen by its records, the run of its calls with records
-- alone and, seen by its certificates, these handed in one after another. With it the theorems about runs without certificates hold of
-- runs with them. Assumes nothing.
use Rattle.wire.proofs.Prelude.{List, [], ◌++◌, ◌∙◌, ◌∷◌, ◌≡◌, ap, ap₂, refl, suc, sym, true, zero, ℕ}
use Rattle.answers.specs.Answers.{answer}
use Rattle.answers.specs.Answers.{Answer}
use Rattle.answers.specs.Answers.{Passed, Refused}
use Rattle.certificates.specs.Certificates.{FarCommittee, certificate_refusal, certified}
use Rattle.certificates.specs.declared.Certificate.{Certificate}
use Rattle.certificates.specs.Chains.{after_all, after_one, passed_among}
use Rattle.home_calls.specs.HomeCalls.{HomeCall, HomeChecker, call_certificate, certificate, certificate_answers, certificates_in}
use Rattle.home_calls.specs.HomeCalls.{certificates_passed, home_passed, home_run, one_record, record_answers, record_calls}
use Rattle.home_calls.specs.HomeCalls.{record_list, when_passed}
use Rattle.rules.proofs.Simulation.{Agree, agree_call}
use Rattle.rules.specs.Calls.{Call, Checker, call, handed, if_passed, list, one, passed_records, run}

-- the answers to calls with records alone
unfoldable pub answers_to : {R : Type 0} → Checker R → R → List Call → List Answer
answers_to p r [] = []
answers_to p r (x ∷ xs) = (call p r x).answer ∷ answers_to p (call p r x).state xs

-- the answers to certificates alone
unfoldable pub answers_among : FarCommittee → List Certificate → List Answer
answers_among far [] = []
answers_among far (x ∷ xs) = answer (certificate_refusal far x) 0 ∷ answers_among (after_one far x) xs

-- nothing was handed in, and nothing passed
nothing_passed : (n : Answer) → when_passed {A = Certificate} n [] ≡ []
nothing_passed Passed = refl
nothing_passed (Refused n place) = refl

-- in every state that c accepts it judges records as p does in the state's view and certificates as its committee does; a record that
-- passes leaves the committee, and a certificate the view
pub record Apart {S R : Type 0} (c : HomeChecker S) (p : Checker R) (view : S → R) (committee : S → FarCommittee) : Type 0 where
  pub accepts : (s : S) → c.records.accepts s ≡ true → p.accepts (view s) ≡ true
  pub judges : (s : S) (b : List ℕ) → c.records.accepts s ≡ true → c.records.judge s b ≡ p.judge (view s) b
  pub after_accepted : (s : S) (b : List ℕ) → c.records.accepts s ≡ true → c.records.judge s b ≡ 0
      → c.records.accepts (c.records.after s b) ≡ true
  pub after_view : (s : S) (b : List ℕ) → c.records.accepts s ≡ true → c.records.judge s b ≡ 0
      → view (c.records.after s b) ≡ p.after (view s) b
  pub after_committee : (s : S) (b : List ℕ) → c.records.accepts s ≡ true → c.records.judge s b ≡ 0
      → committee (c.records.after s b) ≡ committee s
  pub refuses : (s : S) (x : Certificate) → c.records.accepts s ≡ true → c.refusal s x ≡ certificate_refusal (committee s) x
  pub certified_accepted : (s : S) (x : Certificate) → c.records.accepts s ≡ true → c.refusal s x ≡ 0
      → c.records.accepts (c.certified s x) ≡ true
  pub certified_view : (s : S) (x : Certificate) → c.records.accepts s ≡ true → c.refusal s x ≡ 0 → view (c.certified s x) ≡ view s
  pub certified_committee : (s : S) (x : Certificate) → c.records.accepts s ≡ true → c.refusal s x ≡ 0
      → committee (c.certified s x) ≡ certified (committee s) x

module _ {S R : Type 0} (c : HomeChecker S) (p : Checker R) (view : S → R) (committee : S → FarCommittee) (a : Apart c p view committee) where
  -- what a run is, seen by its records and by its certificates
  pub record RunsApart (s : S) (ds : List HomeCall) : Type 0 where
    pub accepted : c.records.accepts (home_run c s ds) ≡ true
    pub states : view (home_run c s ds) ≡ run p (view s) (record_calls ds)
    pub records : home_passed c s ds ≡ passed_records p (view s) (record_calls ds)
    pub record_answers_lem : record_answers c s ds ≡ answers_to p (view s) (record_calls ds)
    pub committees : committee (home_run c s ds) ≡ after_all (committee s) (certificates_in ds)
    pub certificates : certificates_passed c s ds ≡ passed_among (committee s) (certificates_in ds)
    pub certificate_answers_lem : certificate_answers c s ds ≡ answers_among (committee s) (certificates_in ds)

  -- ## A call with records

  -- the state is accepted, and its committee is this one
  abbrev Keeps : FarCommittee → S → Type 0
  Keeps far s = (c.records.accepts s ≡ true) × (committee s ≡ far)

  -- one answer and one view; the committee is kept
  abbrev Agrees : FarCommittee → S → Call → Type 0
  Agrees far s x =
      Agree c.records p view (Keeps far) (λ t i. i.0 ∙ sym (a.accepts t i.0)) (λ t b i. a.judges t b i.0)
      (λ t b i j. ((a.after_accepted t b i.0 j, a.after_committee t b i.0 j ∙ i.1), a.after_view t b i.0 j))
      (call c.records s x) (call p (view s) x)

  pub agrees : (s : S) (x : Call) → c.records.accepts s ≡ true → Agrees (committee s) s x
  agrees s x h =
      agree_call c.records p view (Keeps (committee s)) (λ t i. i.0 ∙ sym (a.accepts t i.0)) (λ t b i. a.judges t b i.0)
      (λ t b i j. ((a.after_accepted t b i.0 j, a.after_committee t b i.0 j ∙ i.1), a.after_view t b i.0 j)) s x (h, refl)

  -- ## Runs

  -- what a call with records adds to the run of those after it
  record RecordsFirst (s : S) (x : Call) (ds : List HomeCall) : Type 0 where
    accepted : c.records.accepts (home_run c (call c.records s x).state ds) ≡ true
    states : view (home_run c (call c.records s x).state ds) ≡ run p (view s) (x ∷ record_calls ds)
    records : if_passed (call c.records s x).answer (handed x) ++ home_passed c (call c.records s x).state ds
        ≡ passed_records p (view s) (x ∷ record_calls ds)
    record_answers_lem : (call c.records s x).answer ∷ record_answers c (call c.records s x).state ds
        ≡ answers_to p (view s) (x ∷ record_calls ds)
    committees : committee (home_run c (call c.records s x).state ds) ≡ after_all (committee s) (certificates_in ds)
    certificates : certificates_passed c (call c.records s x).state ds ≡ passed_among (committee s) (certificates_in ds)
    certificate_answers_lem : certificate_answers c (call c.records s x).state ds ≡ answers_among (committee s) (certificates_in ds)

  records_first : (s : S) (x : Call) (ds : List HomeCall) → c.records.accepts s ≡ true
      → ((t : S) → c.records.accepts t ≡ true → RunsApart t ds) → RecordsFirst s x ds
  unfolding run passed_records answers_to
  records_first s x ds h hyp =
      let g = agrees s x h in
      let r = hyp (call c.records s x).state g.invariant.0 in
      record {
        accepted = r.accepted;
        states = r.states ∙ ap (λ (v : R). run p v (record_calls ds)) g.states;
        records =
            ap₂ (λ (n : Answer) (l : List (List ℕ)). if_passed n (handed x) ++ l) g.answers
            (r.records ∙ ap (λ (v : R). passed_records p v (record_calls ds)) g.states);
        record_answers_lem =
            ap₂ (λ (n : Answer) (l : List Answer). n ∷ l) g.answers
            (r.record_answers_lem ∙ ap (λ (v : R). answers_to p v (record_calls ds)) g.states);
        committees = r.committees ∙ ap (λ (f : FarCommittee). after_all f (certificates_in ds)) g.invariant.1;
        certificates = r.certificates ∙ ap (λ (f : FarCommittee). passed_among f (certificates_in ds)) g.invariant.1;
        certificate_answers_lem = r.certificate_answers_lem ∙ ap (λ (f : FarCommittee). answers_among f (certificates_in ds)) g.invariant.1;
      }

  -- what a certificate adds
  certificate_first : (s : S) (x : Certificate) (ds : List HomeCall) → c.records.accepts s ≡ true
      → ((t : S) → c.records.accepts t ≡ true → RunsApart t ds) → RunsApart s (certificate x ∷ ds)
  unfolding home_run home_passed certificates_passed record_answers certificate_answers record_calls certificates_in after_all passed_among answers_among call_certificate
  certificate_first s x ds h hyp = go (c.refusal s x) refl
    where
      go : (n : ℕ) → c.refusal s x ≡ n → RunsApart s (certificate x ∷ ds)
      go zero e =
          let q : certificate_refusal (committee s) x ≡ 0 = sym (a.refuses s x h) ∙ e in
          let r = hyp (c.certified s x) (a.certified_accepted s x h e) in
          let v = a.certified_view s x h e in
          let k = a.certified_committee s x h e in
          record {
            accepted = rw (h, e) r.accepted;
            states = rw (h, e) (r.states ∙ ap (λ (t : R). run p t (record_calls ds)) v);
            records = rw (h, e) (r.records ∙ ap (λ (t : R). passed_records p t (record_calls ds)) v);
            record_answers_lem = rw (h, e) (r.record_answers_lem ∙ ap (λ (t : R). answers_to p t (record_calls ds)) v);
            committees = rw (h, e, q) (r.committees ∙ ap (λ (f : FarCommittee). after_all f (certificates_in ds)) k);
            certificates =
                rw (h, e, q)
                (ap (λ (l : List Certificate). x ∷ l) (r.certificates ∙ ap (λ (f : FarCommittee). passed_among f (certificates_in ds)) k));
            certificate_answers_lem =
                rw (h, e, q)
                (ap (λ (l : List Answer). answer 0 0 ∷ l)
                (r.certificate_answers_lem ∙ ap (λ (f : FarCommittee). answers_among f (certificates_in ds)) k));
          }
      go (suc n) e =
          let q : certificate_refusal (committee s) x ≡ suc n = sym (a.refuses s x h) ∙ e in
          let r = hyp s h in
          record {
            accepted = rw (h, e) r.accepted;
            states = rw (h, e) r.states;
            records = rw (h, e) r.records;
            record_answers_lem = rw (h, e) r.record_answers_lem;
            committees = rw (h, e, q) r.committees;
            certificates = rw (h, e, q) r.certificates;
            certificate_answers_lem = rw (h, e, q) (ap (λ (l : List Answer). answer (suc n) 0 ∷ l) r.certificate_answers_lem);
          }

  -- so every run is
  pub runs_apart : (ds : List HomeCall) (s : S) → c.records.accepts s ≡ true → RunsApart s ds
  unfolding home_run home_passed certificates_passed record_answers certificate_answers record_calls certificates_in run passed_records answers_to after_all passed_among answers_among
  runs_apart [] s h =
      record {
        accepted = h;
        states = refl;
        records = refl;
        record_answers_lem = refl;
        committees = refl;
        certificates = refl;
        certificate_answers_lem = refl;
      }
  runs_apart (one_record b ∷ ds) s h = from (records_first s (one b) ds h (runs_apart ds))
    where
      from : RecordsFirst s (one b) ds → RunsApart s (one_record b ∷ ds)
      from f =
          record {
            accepted = f.accepted;
            states = f.states;
            records = f.records;
            record_answers_lem = f.record_answers_lem;
            committees = f.committees;
            certificates =
                ap (λ (l : List Certificate). l ++ certificates_passed c (call c.records s (one b)).state ds)
                (nothing_passed (call c.records s (one b)).answer)
                ∙ f.certificates;
            certificate_answers_lem = f.certificate_answers_lem;
          }
  runs_apart (record_list b ∷ ds) s h = from (records_first s (list b) ds h (runs_apart ds))
    where
      from : RecordsFirst s (list b) ds → RunsApart s (record_list b ∷ ds)
      from f =
          record {
            accepted = f.accepted;
            states = f.states;
            records = f.records;
            record_answers_lem = f.record_answers_lem;
            committees = f.committees;
            certificates =
                ap (λ (l : List Certificate). l ++ certificates_passed c (call c.records s (list b)).state ds)
                (nothing_passed (call c.records s (list b)).answer)
                ∙ f.certificates;
            certificate_answers_lem = f.certificate_answers_lem;
          }
  runs_apart (certificate x ∷ ds) s h = certificate_first s x ds h (runs_apart ds)
