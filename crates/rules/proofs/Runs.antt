-- Calls and runs of any validator: what each passed record keeps holds after every run, and a call passes exactly when its
-- records pass in turn. Assumes nothing.
use Rattle.wire.proofs.Prelude.{List, [], ◌++◌, ◌∙◌, ◌∷◌, ◌≡◌, append_assoc, append-nil, arith, dichotomy, inl, inr, refl, suc, sym, true}
use Rattle.wire.proofs.Prelude.{ℕ}
use Rattle.answers.specs.Answers.{Passed, Refused}
use Rattle.rules.proofs.ListCalls.{call_list_lem, list_all}
use Rattle.rules.proofs.Lists.{never_both_tests, zero_or_more}
use Rattle.rules.specs.Calls.{Call, Checker, InTurn, Result, call, call_list, call_one, handed, if_passed, one, run, state_after}
use Rattle.rules.specs.Calls.{KeepsAccepted, RefusedUnaltered, passed_records}

-- no answer is both a pass and a refusal
pub never_both : (n place : ℕ) → Passed ≡ Refused n place → ⊥
never_both n place h = let z : ◌≡◌ {A = ℕ} 0 1 = cc in omega arith

module _ {S : Type 0} (c : Checker S) where
  -- ## Records that pass in turn

  -- the state after records and more records
  after_append : (s : S) (xs ys : List (List ℕ)) → state_after c s (xs ++ ys) ≡ state_after c (state_after c s xs) ys
  unfolding state_after
  after_append s [] ys = refl
  after_append s (x ∷ xs) ys = after_append (c.after s x) xs ys

  -- records pass in turn where the first do, and then the others
  pub in_turn_append : (s : S) (xs ys : List (List ℕ)) → InTurn c s xs → InTurn c (state_after c s xs) ys → InTurn c s (xs ++ ys)
  unfolding state_after InTurn
  in_turn_append s [] ys h k = k
  in_turn_append s (x ∷ xs) ys h k = (h.0, in_turn_append (c.after s x) xs ys h.1 k)

  -- and back
  pub in_turn_split : (s : S) (xs ys : List (List ℕ)) → InTurn c s (xs ++ ys) → InTurn c s xs × InTurn c (state_after c s xs) ys
  unfolding state_after InTurn
  in_turn_split s [] ys h = (tt, h)
  in_turn_split s (x ∷ xs) ys h = let t = in_turn_split (c.after s x) xs ys h.1 in ((h.0, t.0), t.1)

  -- ## What a call comes to

  -- a pass of records in turn, or a refusal: of a record in some state, or else of a state that is not accepted
  pub data Outcome (s : S) (bs : List (List ℕ)) (x : Result S) (from : S) : Type 0 where
    passes : InTurn c s bs → x ≡ record { answer = Passed; state = state_after c s bs } → Outcome s bs x from
    refuses : (n place : ℕ) → x ≡ record { answer = Refused n place; state = from }
        → (c.accepts from ≡ true → (t : S) × (y : List ℕ) × (c.judge t y ≡ n)) → Outcome s bs x from

  -- of a list
  list_outcome : (from : S) (i : ℕ) (s : S) (bs : List (List ℕ)) → Outcome s bs (call_list c from i s bs) from
  unfolding call_list InTurn state_after
  list_outcome from i s [] = passes tt refl
  list_outcome from i s (b ∷ bs) =
      elim (zero_or_more (c.judge s b)) [
        | inl q ↦ elim (list_outcome from (suc i) (c.after s b) bs) [
          | passes h e ↦ passes (q, h) (rw q e)
          | refuses n place e w ↦ refuses n place (rw q e) w
        ]
        | inr q ↦ refuses (suc q.0) i (rw q.1) (λ a. (s, b, q.1))
      ]

  -- of any call
  pub outcome : (s : S) (d : Call) → Outcome s (handed d) (call c s d) s
  outcome s d =
      rw (call_list_lem c s d)
      (elim (dichotomy (c.accepts s)) [
        | inl q ↦ rw q (refuses 3 0 refl (λ a. absurd (never_both_tests (sym a ∙ q))))
        | inr q ↦ rw q (list_outcome s 0 s (handed d))
      ])

  -- the records of a call that passes pass in turn
  pub call_in_turn : (s : S) (d : Call) → (call c s d).answer ≡ Passed → InTurn c s (handed d)
  call_in_turn s d h = elim (outcome s d) [ passes it e ↦ it | refuses n place e w ↦ absurd (never_both n place (cc)) ]

  -- and back, in an accepted state
  pub in_turn_call : (s : S) (d : Call) → c.accepts s ≡ true → InTurn c s (handed d) → (call c s d).answer ≡ Passed
  in_turn_call s d a h = rw (call_list_lem c s d, a, list_all c s 0 s (handed d) h)

  -- a refusal hands back the state handed in
  pub refused_unaltered : RefusedUnaltered c
  unfolding RefusedUnaltered
  refused_unaltered s d n place h = elim (outcome s d) [ passes it e ↦ absurd (never_both n place (cc)) | refuses m p e w ↦ rw e ]

  -- ## What each passed record keeps

  -- T holds of a state and the records that led to it, and each passed record keeps it
  module _ (T : S → List (List ℕ) → Type 0)
      (step : (s : S) (b : List ℕ) (done : List (List ℕ)) → c.judge s b ≡ 0 → T s done → T (c.after s b) (done ++ b ∷ [])) where
    -- over records that pass in turn
    pub keep_in_turn : (bs : List (List ℕ)) (s : S) (done : List (List ℕ)) → InTurn c s bs → T s done → T (state_after c s bs) (done ++ bs)
    unfolding InTurn state_after
    keep_in_turn [] s done it t = rw append-nil t
    keep_in_turn (b ∷ bs) s done it t =
        rw (← append_assoc done (b ∷ []) bs) (keep_in_turn bs (c.after s b) (done ++ b ∷ []) it.1 (step s b done it.0 t))

    -- over any call
    keep_call : (s : S) (d : Call) (done : List (List ℕ)) → T s done
        → T (call c s d).state (done ++ if_passed (call c s d).answer (handed d))
    keep_call s d done t =
        elim (outcome s d) [ passes it e ↦ rw e (keep_in_turn (handed d) s done it t) | refuses n place e w ↦ rw (e, append-nil) t ]

    -- over a run
    pub keep_run : (ds : List Call) (s : S) (done : List (List ℕ)) → T s done → T (run c s ds) (done ++ passed_records c s ds)
    unfolding run passed_records
    keep_run [] s done t = rw append-nil t
    keep_run (d ∷ ds) s done t =
        rw (← append_assoc done (if_passed (call c s d).answer (handed d)) (passed_records c (call c s d).state ds))
        (keep_run ds (call c s d).state (done ++ if_passed (call c s d).answer (handed d)) (keep_call s d done t))

  module _ (step : (s : S) (b : List ℕ) → c.accepts s ≡ true → c.judge s b ≡ 0 → c.accepts (c.after s b) ≡ true) where
    -- where each passed record keeps an accepted state accepted, so does each call
    pub keeps_accepted : KeepsAccepted c
    unfolding KeepsAccepted
    keeps_accepted s a d = keep_call (λ s done. c.accepts s ≡ true) (λ s b done j h. step s b h j) s d [] a

    -- and each run
    pub run_accepted : (s : S) → c.accepts s ≡ true → (ds : List Call) → c.accepts (run c s ds) ≡ true
    run_accepted s a ds = keep_run (λ s done. c.accepts s ≡ true) (λ s b done j h. step s b h j) ds s [] a

  -- a state that a run reaches is the one after its passed records, which pass in turn
  pub record ReachedBy (from to : S) (done : List (List ℕ)) : Type 0 where
    pub state : to ≡ state_after c from done
    pub in_turn : InTurn c from done

  -- so it is of every run
  pub reached_run : (from : S) (ds : List Call) → ReachedBy from (run c from ds) (passed_records c from ds)
  unfolding state_after InTurn
  reached_run from ds =
      keep_run (ReachedBy from)
      (λ s b done j r.
      record {
        state = rw (after_append, ← r.state);
        in_turn = in_turn_append from done (b ∷ []) r.in_turn (rw (← r.state) (j, tt));
      })
      ds from [] (record { state = refl; in_turn = tt })

  -- ## A call with one record, by what the validator says

  -- a pass
  pub one_passed : (s : S) (b : List ℕ) → c.accepts s ≡ true → c.judge s b ≡ 0
      → call c s (one b) ≡ record { answer = Passed; state = c.after s b }
  unfolding call call_one
  one_passed s b a j = rw (a, j)

  -- a refusal
  pub one_refused : (s : S) (b : List ℕ) (n : ℕ) → c.accepts s ≡ true → c.judge s b ≡ suc n
      → call c s (one b) ≡ record { answer = Refused (suc n) 0; state = s }
  unfolding call call_one
  one_refused s b n a j = rw (a, j)
