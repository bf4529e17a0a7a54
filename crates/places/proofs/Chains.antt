-- Laws of chains of places: how they are built. Assumes nothing.
use Rattle.wire.proofs.Prelude.{Bool, ◌%◌, ◌+◌, ◌-◌, ◌<◌, ◌∙◌, ◌≡◌, ◌≤◌, ◌⊎◌, ap, arith, eq-or-lt_of_le, eqb, eqb-false, eqb-true, false}
use Rattle.wire.proofs.Prelude.{inl, inr, not-suc-le-zero, refl, sym, true, ℕ, ⊎_elim}
use Rattle.places.specs.NumberIndex.{Chains, chain_count}

-- ## Numbers that are the same or not

-- two numbers are the same, or not
same_or_not : (a b : ℕ) → (a ≡ b) ⊎ (a ≡ b → ⊥)
same_or_not a b = by (eqb a b) refl
  where
    by : (t : Bool) → eqb a b ≡ t → (a ≡ b) ⊎ (a ≡ b → ⊥)
    by true q = inl (eqb-true a b q)
    by false q = inr (eqb-false a b q)

-- at most another and not the same is less
pub less : (a b : ℕ) → a ≤ b → (a ≡ b → ⊥) → a < b
less a b h d = ⊎_elim (λ q. absurd (d q)) (λ q. q) (eq-or-lt_of_le h)

-- the low bits of a number are those of a chain
pub low_bits_most : (x : ℕ) → x % chain_count < chain_count
low_bits_most x = omega arith

-- a number less one
less_one : (v n : ℕ) → v ≡ n + 1 → v - 1 ≡ n
less_one v n q = omega arith

-- ## Building

-- the chains of no place
pub chains_of_none : (f heads nexts : ℕ → ℕ) → ((h : ℕ) → h < chain_count → heads h ≡ 0) → Chains f heads nexts 0
chains_of_none f heads nexts z =
    record {
      head_low = λ j p. absurd (not-suc-le-zero p);
      head_most = λ h b. omega (arith, z h b);
      head_is = λ h b p. absurd (omega (arith, z h b));
      next_low = λ k j p. absurd (not-suc-le-zero p);
      next_most = λ k p. absurd (not-suc-le-zero p);
      next_is = λ k p. absurd (not-suc-le-zero p);
    }

-- the same chains, of values, heads and places before that are the same
pub chains_same : (f heads nexts f' heads' nexts' : ℕ → ℕ) (n : ℕ)
    → Chains f heads nexts n
    → ((j : ℕ) → j < n → f' j ≡ f j)
    → ((h : ℕ) → h < chain_count → heads' h ≡ heads h)
    → ((k : ℕ) → k < n → nexts' k ≡ nexts k)
    → Chains f' heads' nexts' n
chains_same f heads nexts f' heads' nexts' n c s t u =
    record {
      head_low = λ j p. rw (s j p, t (f j % chain_count) (low_bits_most (f j))) (c.head_low j p);
      head_most = λ h b. rw (t h b) (c.head_most h b);
      head_is = λ h b p.
          let e = t h b in
          let q : 0 < heads h = rw e at p in
          let i : heads h - 1 < n = omega (arith, c.head_most h b) in
          rw (e, s (heads h - 1) i) (c.head_is h b q);
      next_low = λ k j p q r.
          let a : j < n = omega arith in
          rw (u k p) (c.next_low k j p q (rw (s j a, s k p) at r));
      next_most = λ k p. rw (u k p) (c.next_most k p);
      next_is = λ k p z.
          let e = u k p in
          let q : 0 < nexts k = rw e at z in
          let i : nexts k - 1 < n = omega (arith, c.next_most k p) in
          rw (e, s (nexts k - 1) i, s k p) (c.next_is k p q);
    }

module _ (f heads nexts heads' nexts' : ℕ → ℕ) (n h : ℕ) (c : Chains f heads nexts n) (low : h ≡ f n % chain_count)
    (head_here : heads' h ≡ n + 1) (head_else : (g : ℕ) → (g ≡ h → ⊥) → heads' g ≡ heads g)
    (next_here : nexts' n ≡ heads h) (next_else : (k : ℕ) → (k ≡ n → ⊥) → nexts' k ≡ nexts k) where
  -- the chain of place n is one of them
  here_most : h < chain_count
  here_most = rw low (low_bits_most (f n))

  -- the head of its chain
  head_at_lem : (g : ℕ) → g ≡ h → heads' g ≡ n + 1
  head_at_lem g q = ap heads' q ∙ head_here

  -- a place before the new one
  before : (k : ℕ) → k < n + 1 → (k ≡ n → ⊥) → k < n
  before k p d = less k n (omega arith) d

  -- each place is at or before the head of its chain
  head_low' : (j : ℕ) → j < n + 1 → j + 1 ≤ heads' (f j % chain_count)
  head_low' j p =
      ⊎_elim
      (λ q. omega (arith, head_at_lem (f j % chain_count) q))
      (λ d.
      ⊎_elim
      (λ (r : j ≡ n). absurd (d (ap (λ (x : ℕ). f x % chain_count) r ∙ sym low)))
      (λ r. omega (arith, head_else (f j % chain_count) d, c.head_low j (before j p r)))
      (same_or_not j n))
      (same_or_not (f j % chain_count) h)

  -- a place of the same low bits is before the new one
  next_low_here : (j : ℕ) → j < n → f j % chain_count ≡ f n % chain_count → j + 1 ≤ nexts' n
  next_low_here j p q =
      let s : f j % chain_count ≡ h = q ∙ sym low in
      let u : j + 1 ≤ heads h = rw s at (c.head_low j p) in
      omega (arith, next_here)

  -- the place before the new one
  next_is_here : 0 < nexts' n → f (nexts' n - 1) % chain_count ≡ f n % chain_count
  next_is_here p = rw next_here (c.head_is h here_most (let q : 0 < heads h = omega (arith, next_here) in q) ∙ low)

  -- the chains of one place more
  pub chains_grow : Chains f heads' nexts' (n + 1)
  chains_grow =
      record {
        head_low = head_low';
        head_most = λ g b.
            ⊎_elim (λ q. omega (arith, head_at_lem g q)) (λ d. omega (arith, head_else g d, c.head_most g b)) (same_or_not g h);
        head_is = λ g b p.
            ⊎_elim
            (λ q. rw (less_one _ n (head_at_lem g q)) (sym low ∙ sym q))
            (λ d. rw (head_else g d) (c.head_is g b (rw (head_else g d) at p)))
            (same_or_not g h);
        next_low = λ k j p q r.
            ⊎_elim
            (λ s. rw s (next_low_here j (rw s at q) (rw s at r)))
            (λ d. rw (next_else k d) (c.next_low k j (before k p d) q r))
            (same_or_not k n);
        next_most = λ k p.
            ⊎_elim
            (λ s. rw s (let u : nexts' n ≤ n = omega (arith, next_here, c.head_most h here_most) in u))
            (λ d. rw (next_else k d) (c.next_most k (before k p d)))
            (same_or_not k n);
        next_is = λ k p z.
            ⊎_elim
            (λ s. rw s (next_is_here (rw s at z)))
            (λ d. rw (next_else k d) (c.next_is k (before k p d) (rw (next_else k d) at z)))
            (same_or_not k n);
      }
