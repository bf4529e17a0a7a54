-- The records of a call's bytes: what a call with one record, and a loop over those of a list, cite. Assumes nothing.
use Rattle.wire.proofs.Prelude.{Bool, List, [], ◌+◌, ◌-◌, ◌<◌, ◌∙◌, ◌∷◌, ◌≡◌, ◌≤◌, add-one, ap, arith, drop, drop-drop, drop_of_length-le}
use Rattle.wire.proofs.Prelude.{false, length, length-drop, min, min-zero, refl, suc, suc-min-suc, sym, take}
use Rattle.wire.proofs.Prelude.{true, zero, zero-min, ℕ}
use Rattle.answers.specs.Answers.{answer}
use Rattle.answers.specs.Answers.{Answer}
use Rattle.answers.specs.Answers.{Passed, Refused}
use Rattle.records.proofs.Formed.{read_formed}
use Rattle.records.specs.Records.{formed, reading, record_in, words_of}
use Rattle.records.specs.declared.Words.{Words}
use Rattle.rules.proofs.ListCalls.{cut_first, list_end, list_passed, list_refused}
use Rattle.rules.specs.Calls.{Call, Checker, Result, call, call_list, call_one, list, one, records_in}
use Rattle.rules.specs.Lists.{cut}
use Rattle.rules.specs.Rules.{Read, Record}

-- ## Any call

-- a call with a state that is not accepted is refused
pub call_unaccepted : {S : Type 0} (c : Checker S) (s : S) (d : Call) → c.accepts s ≡ false
    → call c s d ≡ record { answer = Refused 3 0; state = s }
unfolding call
call_unaccepted c s d h = rw h

module _ {S : Type 0} (c : Checker S) where
  -- an answer and a state are the call's
  abbrev pub Gives : S → Call → Answer → S → Type 0
  Gives s d a t = (a ≡ (call c s d).answer) × (t ≡ (call c s d).state)

  -- so are those that it is equal to
  gives : (s : S) (d : Call) (x : Result S) → call c s d ≡ x → Gives s d x.answer x.state
  gives s d x e = rw e (refl, refl)

  -- where the state is not accepted
  pub gives_unaccepted : (s : S) (d : Call) {t : Bool} → t ≡ c.accepts s → t ≡ false → Gives s d (Refused 3 0) s
  gives_unaccepted s d q h = gives s d (record { answer = Refused 3 0; state = s }) (call_unaccepted c s d (sym q ∙ h))

  -- ## A call with one record

  -- in an accepted state, by its refusal and the state left
  pub gives_one : (s : S) (b : List ℕ) {t : Bool} {n : ℕ} {a : Answer} {u : S} → t ≡ c.accepts s → t ≡ true → n ≡ c.judge s b
      → a ≡ answer n 0 → u ≡ (call_one c s b).state → Gives s (one b) a u
  unfolding call call_one
  gives_one s b q h j e l = rw (sym q ∙ h) (e ∙ ap (λ (n : ℕ). answer n 0) j, l)

-- ## Parts of bytes

-- the parts of a size that are left from byte `at` on
abbrev pub parts_from : ℕ → ℕ → List ℕ → List (List ℕ)
parts_from size at b = cut (length (drop at b)) size (drop at b)

-- none is left after the bytes
pub parts_none : (size at : ℕ) (b : List ℕ) → length b ≤ at → parts_from size at b ≡ []
unfolding cut
parts_none size at b h = rw (drop_of_length-le b {i = at} h)

-- the first n of a list that may have fewer
pub take_least : (n : ℕ) (b : List ℕ) → take (min (length b) n) b ≡ take n b
take_least zero b = rw (min-zero (length b))
take_least (suc n) [] = rw (zero-min (suc n))
take_least (suc n) (x ∷ b) = rw (suc-min-suc (length b) n) (ap (λ (t : List ℕ). x ∷ t) (take_least n b))

-- what comes after them
pub drop_least : (n : ℕ) (b : List ℕ) → drop (min (length b) n) b ≡ drop n b
drop_least zero b = rw (min-zero (length b))
drop_least (suc n) [] = rw (zero-min (suc n))
drop_least (suc n) (x ∷ b) = rw (suc-min-suc (length b) n) (drop_least n b)

-- a part that is left
pub parts_next : (n at end : ℕ) (b : List ℕ) → end ≡ min (length b) (at + suc n) → at < length b
    → parts_from (suc n) at b ≡ take (end - at) (drop at b) ∷ parts_from (suc n) end b
parts_next n at end b e h =
    let z = length-drop at b in
    let k : end - at ≡ min (length (drop at b)) (suc n) = omega arith in
    let m : at + (end - at) ≡ end = omega arith in
    let d : drop (suc n) (drop at b) ≡ drop end b =
    sym (drop_least (suc n) (drop at b)) ∙ ap (λ (j : ℕ). drop j (drop at b)) (sym k) ∙ drop-drop (end - at) at b ∙ rw m in
    cut_first n (drop at b) (omega arith) ∙ rw (d, k, take_least (suc n) (drop at b))

-- ## The records of a list

-- the records that are left from byte `at` on
abbrev pub parts : ℕ → List ℕ → List (List ℕ)
parts at b = records_in (drop at b)

-- ## One turn of a loop over the records

module _ {S : Type 0} (c : Checker S) (start s : S) (i at : ℕ) (b : List ℕ) where
  -- the end of the records
  pub turn_end : length b ≤ at → call_list c start i s (parts at b) ≡ record { answer = Passed; state = s }
  unfolding records_in
  turn_end h = ap (call_list c start i s) (parts_none 32 at b h) ∙ list_end c start i s

  module _ (end : ℕ) (e : end ≡ min (length b) (at + 32)) (h : at < length b) where
    -- the record and those after it
    turn : parts at b ≡ take (end - at) (drop at b) ∷ parts end b
    unfolding records_in
    turn = parts_next 31 at end b e h

    -- a record that is refused
    pub turn_refused : (n : ℕ) → c.judge s (take (end - at) (drop at b)) ≡ n → (n ≡ 0 → ⊥)
        → call_list c start i s (parts at b) ≡ record { answer = Refused n i; state = start }
    turn_refused zero j z = absurd (z refl)
    turn_refused (suc n) j z =
        ap (call_list c start i s) turn ∙ list_refused c start i s (take (end - at) (drop at b)) (parts end b) n j

    -- a record that passes
    pub turn_passed : c.judge s (take (end - at) (drop at b)) ≡ 0
        → call_list c start i s (parts at b) ≡ call_list c start (i + 1) (c.after s (take (end - at) (drop at b))) (parts end b)
    turn_passed j =
        ap (call_list c start i s) turn
        ∙ list_passed c start i s (take (end - at) (drop at b)) (parts end b) j
        ∙ ap (λ (k : ℕ). call_list c start k (c.after s (take (end - at) (drop at b))) (parts end b)) (sym (add-one i))

-- ## One record of a call

-- words are those of bytes that read as a record
pub record ReadsAs (b : List ℕ) (w : Words) (r : Record) : Type 0 where
  pub reads : reading b ≡ Read r
  pub words : w ≡ words_of b

-- so they are formed, and the record's
pub formed_as : {b : List ℕ} {w : Words} {r : Record} → ReadsAs b w r → (formed w ≡ true) × (record_in w ≡ r)
formed_as {b} {w} {r} x = let f = read_formed b r x.reads in rw x.words (f.1, f.2)

module _ (c : Checker (List ℕ)) (Ready : List ℕ → List ℕ → Type 0) where
  -- its refusal or 0, the state left and its index, as a step states them
  abbrev pub Stepped : List ℕ → List ℕ → ℕ → List ℕ → List ℕ → Type 0
  Stepped s b n t index = (n ≡ c.judge s b) × ((t ≡ (call_one c s b).state) × Ready t index)

  -- a refusal
  pub step_refused : (s b : List ℕ) (n : ℕ) {index : List ℕ} → Ready s index → c.judge s b ≡ n → (n ≡ 0 → ⊥) → Stepped s b n s index
  unfolding call_one
  step_refused s b zero h q z = absurd (z refl)
  step_refused s b (suc n) h q z = (sym q, (rw q, h))

  -- a pass
  pub step_passed : (s b : List ℕ) {t index : List ℕ} → c.judge s b ≡ 0 → t ≡ c.after s b → Ready t index → Stepped s b 0 t index
  unfolding call_one
  step_passed s b q e h = (sym q, (rw q e, h))

-- ## A loop over the records

-- what holds before each of them: their index, a state that is ready for it, and that the rest of the call is left
pub record Taking (c : Checker (List ℕ)) (Ready : List ℕ → List ℕ → Type 0) (start b s index : List ℕ) (at i : ℕ) : Type 0 where
  pub place : i ≤ at
  pub ready : Ready s index
  pub left : call c start (list b) ≡ call_list c start i s (parts at b)

module _ {c : Checker (List ℕ)} {Ready : List ℕ → List ℕ → Type 0} {start b : List ℕ} where
  -- before the first
  pub taking_first : {index : List ℕ} {t : Bool} → t ≡ c.accepts start → t ≡ true → (t ≡ true → Ready start index)
      → Taking c Ready start b start index 0 0
  unfolding call
  taking_first {t = u} q h r =
      let t : u ≡ true = h in
      record { place = omega arith; ready = r t; left = rw (sym q ∙ t) }

  module _ {s index : List ℕ} {at i : ℕ} (h : Taking c Ready start b s index at i) where
    -- after the last
    pub taking_end : length b ≤ at → Gives c start (list b) Passed s
    taking_end l = gives c start (list b) (record { answer = Passed; state = s }) (h.left ∙ turn_end c start s i at b l)

    module _ {end n : ℕ} (e : end ≡ min (length b) (at + 32)) (l : at < length b) (j : n ≡ c.judge s (take (end - at) (drop at b))) where
      -- after one that is refused
      pub taking_refused : (n ≡ 0 → ⊥) → Gives c start (list b) (Refused n i) start
      taking_refused z =
          gives c start (list b) (record { answer = Refused n i; state = start }) (h.left ∙ turn_refused c start s i at b end e l n (sym
          j) z)

      -- after one that passes
      pub taking_next : n ≡ 0 → {t next : List ℕ} → t ≡ (call_one c s (take (end - at) (drop at b))).state → Ready t next
          → Taking c Ready start b t next end (i + 1)
      unfolding call_one
      taking_next z q r =
          record {
            place = omega (arith, h.place, e);
            ready = r;
            left = rw (q, sym j ∙ z) (h.left ∙ turn_passed c start s i at b end e l (sym j ∙ z));
          }
