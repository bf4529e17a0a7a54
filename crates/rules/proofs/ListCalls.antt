-- A call with a list, one record after the other: what a loop over the list's bytes cites. Assumes nothing.
use Rattle.wire.proofs.Prelude.{List, [], ◌++◌, ◌+◌, ◌<◌, ◌∷◌, ◌≡◌, ◌≤◌, add-suc, add-zero, ap, arith, drop, inl, inr, length, length-drop}
use Rattle.wire.proofs.Prelude.{refl, suc, suc-add, take, zero, zero-add, ℕ}
use Rattle.answers.specs.Answers.{Passed, Refused}
use Rattle.rules.proofs.Lists.{zero_or_more}
use Rattle.rules.specs.Calls.{Call, Checker, InTurn, call, call_list, call_one, handed, if_accepted, list, one, records_in, state_after}
use Rattle.rules.specs.Calls.{ListsInTurn}
use Rattle.rules.specs.Lists.{cut}

-- ## The records of a list

-- more room than there are bytes changes nothing
cut_room : (k j n : ℕ) (b : List ℕ) → length b ≤ k → length b ≤ j → cut k (suc n) b ≡ cut j (suc n) b
unfolding cut
cut_room zero zero n b h g = refl
cut_room zero (suc j) n [] h g = refl
cut_room zero (suc j) n (x ∷ b) h g = absurd (omega arith)
cut_room (suc k) zero n [] h g = refl
cut_room (suc k) zero n (x ∷ b) h g = absurd (omega arith)
cut_room (suc k) (suc j) n [] h g = refl
cut_room (suc k) (suc j) n (x ∷ b) h g =
    ap (λ (t : List (List ℕ)). take (suc n) (x ∷ b) ∷ t)
    (cut_room k j n (drop n b) (omega (arith, length-drop n b)) (omega (arith, length-drop n b)))

-- the first part is the first bytes, or all where there are fewer
pub cut_first : (n : ℕ) (b : List ℕ) → 0 < length b
    → cut (length b) (suc n) b ≡ take (suc n) b ∷ cut (length (drop (suc n) b)) (suc n) (drop (suc n) b)
unfolding cut
cut_first n [] h = absurd (omega arith)
cut_first n (x ∷ b) h =
    ap (λ (t : List (List ℕ)). take (suc n) (x ∷ b) ∷ t)
    (cut_room (length b) (length (drop n b)) n (drop n b) (omega (arith, length-drop n b)) (omega arith))

-- ## One record of the list

module _ {S : Type 0} (c : Checker S) (start : S) (i : ℕ) (s : S) where
  -- at the end of the list
  pub list_end : call_list c start i s [] ≡ record { answer = Passed; state = s }
  unfolding call_list
  list_end = refl

  -- a record that passes
  pub list_passed : (b : List ℕ) (bs : List (List ℕ)) → c.judge s b ≡ 0
      → call_list c start i s (b ∷ bs) ≡ call_list c start (suc i) (c.after s b) bs
  unfolding call_list
  list_passed b bs j = rw j

  -- a record that is refused
  pub list_refused : (b : List ℕ) (bs : List (List ℕ)) (n : ℕ) → c.judge s b ≡ suc n
      → call_list c start i s (b ∷ bs) ≡ record { answer = Refused (suc n) i; state = start }
  unfolding call_list
  list_refused b bs n j = rw j

-- ## The whole list

module _ {S : Type 0} (c : Checker S) where
  -- a call is that of a list with the records that it hands in
  pub call_list_lem : (s : S) (d : Call) → call c s d ≡ if_accepted (c.accepts s) s (call_list c s 0 s (handed d))
  unfolding call call_one call_list
  call_list_lem s (one b) = elim (zero_or_more (c.judge s b)) [ inl q ↦ rw q | inr q ↦ rw q.1 ]
  call_list_lem s (list b) = refl

  -- records that pass in turn
  pub list_all : (start : S) (i : ℕ) (s : S) (xs : List (List ℕ)) → InTurn c s xs
      → call_list c start i s xs ≡ record { answer = Passed; state = state_after c s xs }
  unfolding InTurn state_after call_list
  list_all start i s [] h = refl
  list_all start i s (x ∷ xs) h = rw h.0 (list_all start (suc i) (c.after s x) xs h.1)

  -- one that is refused after records that pass in turn
  list_stops : (start : S) (i : ℕ) (s : S) (xs : List (List ℕ)) (y : List ℕ) (ys : List (List ℕ)) (n : ℕ) → InTurn c s xs
      → c.judge (state_after c s xs) y ≡ suc n
      → call_list c start i s (xs ++ y ∷ ys) ≡ record { answer = Refused (suc n) (length xs + i); state = start }
  unfolding InTurn state_after call_list
  list_stops start i s [] y ys n h j = rw (j, zero-add)
  list_stops start i s (x ∷ xs) y ys n h j = rw (h.0, suc-add, ← add-suc) (list_stops start (suc i) (c.after s x) xs y ys n h.1 j)

  -- a list answers by its records in turn
  pub lists_in_turn : ListsInTurn c
  unfolding ListsInTurn
  lists_in_turn s a b =
      record {
        passes = λ h. rw (call_list_lem s (list b), a) (list_all s 0 s (records_in b) h);
        stops = λ xs y ys n e h j. rw (call_list_lem s (list b), a, e, ← add-zero (length xs)) (list_stops s 0 s xs y ys n h j);
      }
