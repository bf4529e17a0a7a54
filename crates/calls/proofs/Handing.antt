-- The records of a call's bytes, taken one after the other: what the loop over those of a list cites. Assumes nothing.
use Rattle.wire.proofs.Prelude.{Bool, List, [], ◌++◌, ◌+◌, ◌<◌, ◌∙◌, ◌∷◌, ◌≡◌, add-one, ap, arith, drop, drop-append_seam, false, length, min, not}
use Rattle.wire.proofs.Prelude.{refl}
use Rattle.wire.proofs.Prelude.{suc, sym, take, take-append_seam, true, zero, ℕ}
use Rattle.answers.specs.Answers.{Passed, Refused, refuse}
use Rattle.answers.proofs.Refusals.{numbered}
use Rattle.answers.specs.Refusals.{Numbered, refusal_number}
use Rattle.answers.specs.declared.refusal.Refusal.{Refusal}
use Rattle.rules.proofs.ListCalls.{cut_first, list_end, list_passed, list_refused}
use Rattle.rules.proofs.Parts.{Gives, drop_least, take_least}
use Rattle.rules.specs.Lists.{cut}
use Rattle.rules.specs.Calls.{Call, Checker, Result, call, call_list, call_one, list, records_in}

-- the first record of bytes, and those of the rest
records_next : (b x rest : List ℕ) → b ≡ x ++ rest → length x ≡ min 32 (length b) → 0 < length b → records_in b ≡ x ∷ records_in rest
unfolding records_in
records_next b x rest e l h =
    let k : min (length b) 32 ≡ length x = omega (arith, l) in
    let t : take 32 b ≡ x = sym (take_least 32 b) ∙ rw (k, e) (take-append_seam x rest) in
    let d : drop 32 b ≡ rest = sym (drop_least 32 b) ∙ rw (k, e) (drop-append_seam x rest) in
    cut_first 31 b h ∙ rw (t, d)

-- no refusal has number 0
pub refusal_some : (r : Refusal) → 0 < refusal_number r
unfolding Numbered
refusal_some r = (numbered r r).0

-- where a test by an acceptance does not refuse, what is accepted is
pub accepted_of : {a t : Bool} (n : ℕ) → t ≡ a → 0 ≡ refuse (not t) (suc n) 0 → a ≡ true
accepted_of {t = true} n e h = sym e
accepted_of {t = false} n e h = absurd (omega (arith, h))

-- an answer and a state are the call's where the call is known
given : {S : Type 0} (c : Checker S) (s : S) (d : Call) (x : Result S) → call c s d ≡ x → Gives c s d x.answer x.state
given c s d x e = rw e (refl, refl)

-- no bytes, no records
records_none : (b : List ℕ) → length b ≡ 0 → records_in b ≡ []
unfolding records_in cut
records_none [] h = refl
records_none (x ∷ b) h = absurd (omega (arith, h))

-- a record that is refused with a number that is not 0
stopped : {S : Type 0} (c : Checker S) (start : S) (i : ℕ) (s : S) (x : List ℕ) (xs : List (List ℕ)) (n : ℕ) → 0 < n → n ≡ c.judge s x
    → call_list c start i s (x ∷ xs) ≡ record { answer = Refused n i; state = start }
stopped c start i s x xs zero some j = absurd (omega (arith, some))
stopped c start i s x xs (suc n) some j = list_refused c start i s x xs n (sym j)

module _ {S X : Type 0} where
  -- what holds before each record: a state with its index, ready for it, and the rest of the call that is left
  pub record Handing (c : Checker S) (Ready : S → X → Type 0) (start : S) (b : List ℕ) (s : S) (index : X) (i : ℕ) (rest : List ℕ) : Type 0 where
    pub ready : Ready s index
    pub left : call c start (list b) ≡ call_list c start i s (records_in rest)

  module _ {c : Checker S} {Ready : S → X → Type 0} {start : S} {b : List ℕ} where
    -- before the first
    pub handing_first : {index : X} {t : Bool} {rest : List ℕ} → t ≡ c.accepts start → t ≡ true → (t ≡ true → Ready start index)
        → rest ≡ b → Handing c Ready start b start index 0 rest
    unfolding call
    handing_first {t = t} q h r e = record { ready = r h; left = rw (sym q ∙ h, e) }

    module _ {s : S} {index : X} {i : ℕ} {rest : List ℕ} (h : Handing c Ready start b s index i rest) where
      -- after the last
      pub handing_end : length rest ≡ 0 → Gives c start (list b) Passed s
      handing_end e = given c start (list b) (record { answer = Passed; state = s }) (h.left ∙ ap (call_list c start i s) (records_none rest e) ∙ list_end c start i s)

      module _ (x next : List ℕ) (e : rest ≡ x ++ next) (l : length x ≡ min 32 (length rest)) (some : 0 < length rest) where
        -- after one that is refused
        pub handing_refused : (r : Refusal) → refusal_number r ≡ c.judge s x → Gives c start (list b) (Refused (refusal_number r) i) start
        handing_refused r j =
            given c start (list b) (record { answer = Refused (refusal_number r) i; state = start })
            (h.left ∙ ap (call_list c start i s) (records_next rest x next e l some)
            ∙ stopped c start i s x (records_in next) (refusal_number r) (refusal_some r) j)

        -- after one that passes
        pub handing_next : 0 ≡ c.judge s x → {t : S} {after : X} → t ≡ (call_one c s x).state → Ready t after
            → Handing c Ready start b t after (i + 1) next
        unfolding call_one
        handing_next j q r =
            record {
              ready = r;
              left = rw (q, sym j) (h.left ∙ ap (call_list c start i s) (records_next rest x next e l some)
                  ∙ list_passed c start i s x (records_in next) (sym j) ∙ ap (λ (k : ℕ). call_list c start k (c.after s x) (records_in next)) (sym (add-one i)));
            }
