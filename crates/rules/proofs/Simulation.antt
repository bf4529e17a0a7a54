-- Runs of one validator are, through a view of its states, runs of another. With it the theorems about the validators over the
-- rules' states hold of validators over the program's structs. Assumes nothing.
use Rattle.wire.proofs.Prelude.{List, [], ◌∙◌, ◌∷◌, ◌≡◌, dichotomy, inl, inr, refl, suc, sym, ℕ}
use Rattle.rules.proofs.ListCalls.{call_list_lem}
use Rattle.rules.proofs.Lists.{zero_or_more}
use Rattle.rules.specs.Calls.{Call, Checker, Result, call, call_list, handed, passed_records, run}

-- c over S and d over R agree in every state of S with the invariant, and each passed record keeps that
module _ {S R : Type 0} (c : Checker S) (d : Checker R) (view : S → R) (Inv : S → Type 0)
    (same_accepts : (s : S) → Inv s → c.accepts s ≡ d.accepts (view s))
    (same_judge : (s : S) (b : List ℕ) → Inv s → c.judge s b ≡ d.judge (view s) b)
    (same_after : (s : S) (b : List ℕ) → Inv s → c.judge s b ≡ 0 → Inv (c.after s b) × (view (c.after s b) ≡ d.after (view s) b)) where
  -- two results with one answer and, through the view, one state
  pub record Agree (x : Result S) (y : Result R) : Type 0 where
    pub answers : x.answer ≡ y.answer
    pub states : view x.state ≡ y.state
    pub invariant : Inv x.state

  -- a list
  agree_list : (start : S) → Inv start → (bs : List (List ℕ)) (k : ℕ) (s : S) → Inv s
      → Agree (call_list c start k s bs) (call_list d (view start) k (view s) bs)
  unfolding call_list
  agree_list start i₀ [] k s i = record { answers = refl; states = refl; invariant = i }
  agree_list start i₀ (b ∷ bs) k s i =
      elim (zero_or_more (c.judge s b)) [
        | inl q ↦ let a = same_after s b i q in
            rw (q, sym (same_judge s b i) ∙ q, ← a.1) (agree_list start i₀ bs (suc k) (c.after s b) a.0)
        | inr q ↦ rw (q.1, sym (same_judge s b i) ∙ q.1) (record { answers = refl; states = refl; invariant = i₀ })
      ]

  -- any call
  pub agree_call : (s : S) (x : Call) → Inv s → Agree (call c s x) (call d (view s) x)
  agree_call s x i =
      rw (call_list_lem c s x, call_list_lem d (view s) x, ← same_accepts s i)
      (elim (dichotomy (c.accepts s)) [
        | inl q ↦ rw q (record { answers = refl; states = refl; invariant = i })
        | inr q ↦ rw q (agree_list s i (handed x) 0 s i)
      ])

  -- a run of c is one of d: the same passed records, and through the view the same state
  pub record RunsAs (s : S) (r : R) (xs : List Call) : Type 0 where
    pub states : view (run c s xs) ≡ run d r xs
    pub records : passed_records c s xs ≡ passed_records d r xs
    pub invariant : Inv (run c s xs)

  -- so every run is
  pub simulation : (xs : List Call) (s : S) (r : R) → view s ≡ r → Inv s → RunsAs s r xs
  unfolding run passed_records
  simulation [] s r e i = record { states = e; records = refl; invariant = i }
  simulation (x ∷ xs) s r e i =
      let a = agree_call s x i in
      let f = simulation xs (call c s x).state (call d r x).state (rw e at a.states) a.invariant in
      record { states = f.states; records = rw (f.records, a.answers, e); invariant = f.invariant }
