-- Laws of walks down the chain of a number, to a place where a test holds. Assumes nothing.
use Rattle.wire.proofs.Prelude.{Bool, ◌%◌, ◌+◌, ◌-◌, ◌<◌, ◌∙◌, ◌≡◌, ◌≤◌, ap, arith, false, refl, sym, true, ℕ}
use Rattle.places.proofs.Chains.{less, low_bits_most}
use Rattle.places.proofs.OverPlaces.{any_none, any_some}
use Rattle.places.specs.NumberIndex.{Chains, chain_count}
use Rattle.places.specs.OverPlaces.{any_at}
use Rattle.rules.proofs.Lists.{never_both_tests}

-- a walk at place `at` less one: each of the n places where a test holds is still to come
pub record WalkOver (f : ℕ → ℕ) (n : ℕ) (p : ℕ → Bool) (x at : ℕ) : Type 0 where
  pub most : at ≤ n
  pub is : 0 < at → f (at - 1) % chain_count ≡ x % chain_count
  pub low : (j : ℕ) → j < n → p j ≡ true → j + 1 ≤ at

-- the test holds only at places whose number is x
module _ (f heads nexts : ℕ → ℕ) (n : ℕ) (c : Chains f heads nexts n) (p : ℕ → Bool) (x : ℕ) (only : (j : ℕ) → p j ≡ true → x ≡ f j) where
  -- the low bits at a place where it holds
  only_low : (j : ℕ) → p j ≡ true → f j % chain_count ≡ x % chain_count
  only_low j t = ap (λ (y : ℕ). y % chain_count) (sym (only j t))

  -- a walk starts at the head of the chain
  pub over_first : (at h : ℕ) → h ≡ x % chain_count → at ≡ heads h → WalkOver f n p x at
  over_first at h q e =
      let b : h < chain_count = rw q (low_bits_most x) in
      record {
        most = omega (arith, e, c.head_most h b);
        is = λ z. rw e (c.head_is h b (rw e at z) ∙ q);
        low = λ j a t.
            let r : f j % chain_count ≡ h = only_low j t ∙ sym q in
            let u : j + 1 ≤ heads h = rw r at (c.head_low j a) in
            omega (arith, u, e);
      }

  module _ (at : ℕ) (w : WalkOver f n p x at) where
    -- it goes on where the test does not hold
    pub over_next : (to : ℕ) → 0 < at → p (at - 1) ≡ false → to ≡ nexts (at - 1) → WalkOver f n p x to
    over_next to z out e =
        let b : at - 1 < n = omega (arith, w.most) in
        record {
          most = omega (arith, e, c.next_most (at - 1) b);
          is = λ r. rw e (c.next_is (at - 1) b (rw e at r) ∙ w.is z);
          low = λ j a t.
              let o : j ≤ at - 1 = omega (arith, w.low j a t) in
              let d : j < at - 1 = less j (at - 1) o (λ r. never_both_tests (sym t ∙ ap p r ∙ out)) in
              let u = c.next_low (at - 1) j b d (only_low j t ∙ sym (w.is z)) in
              omega (arith, u, e);
        }

    -- it finds the place
    pub over_found : 0 < at → p (at - 1) ≡ true → any_at p 0 n ≡ true
    over_found z e = any_some p 0 n (at - 1) (omega arith) (omega (arith, w.most)) e

    -- at its end there is none
    pub over_end : at ≡ 0 → any_at p 0 n ≡ false
    over_end z = any_none p 0 n (λ j a b. none j (omega arith) (p j) refl)
      where
        none : (j : ℕ) → j < n → (t : Bool) → p j ≡ t → p j ≡ false
        none j a false q = q
        none j a true q = absurd (omega (arith, w.low j a q))
