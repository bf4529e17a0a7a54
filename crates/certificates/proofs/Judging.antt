-- The refusals of a certificate: each in its condition, with none before it. Assumes nothing.
use Rattle.std.specs.Prelude.{None, Some}
use Rattle.wire.proofs.Prelude.{Bool, ◌≡◌, ◌≤◌, arith, false, leb-true, not, true, ℕ}
use Rattle.answers.specs.Answers.{refuse}
use Rattle.certificates.specs.Certificates.{Certificate, Committee, FarCommittee, certificate_refusal, committee_allowed}
use Rattle.certificates.specs.Certificates.{committee_refusal, enough_signers, follows, half_allowed, leaves_allowed, most_half, refusal_by}
use Rattle.certificates.specs.Digests.{same_digest}
use Rattle.wire.proofs.Lists.{every_first}

-- k of a committee that 1 and 3 have nothing against
pub half_most : (c : Committee) → committee_allowed (Some c) ≡ true → c.half ≤ most_half
unfolding half_allowed
half_most c h = leb-true _ _ (every_first _ _ (every_first _ _ h).1).0

-- ## None

-- the number of leaves is right
pub leaves_right : (far : FarCommittee) (x : Certificate) → leaves_allowed x.leaves ≡ true
    → certificate_refusal far x ≡ committee_refusal far x
unfolding certificate_refusal
leaves_right far x h = rw h

-- and all else
pub none_refused : (c : Committee) (x : Certificate) → follows c.last x.number ≡ true → same_digest c.keys x.keys ≡ true
    → enough_signers c.half x.signers ≡ true → refusal_by c x ≡ 0
unfolding refusal_by
none_refused c x h k s = rw (h, k, s)

-- ## No other number

-- a number that neither the test nor the later ones give
never : (t : Bool) (n later m : ℕ) → (n ≡ m → ⊥) → (later ≡ m → ⊥) → refuse t n later ≡ m → ⊥
never true n later m p q h = p h
never false n later m p q h = q h

-- 3 is none of a certificate's
pub certificate_never_3 : (far : FarCommittee) (x : Certificate) → certificate_refusal far x ≡ 3 → ⊥
unfolding certificate_refusal refusal_by
certificate_never_3 far x = never (not (leaves_allowed x.leaves)) 21 (committee_refusal far x) 3 (λ h. omega (arith, h)) (by far)
  where
    by : (f : FarCommittee) → committee_refusal f x ≡ 3 → ⊥
    by None = λ h. omega (arith, h)
    by (Some c) =
        never (not (follows c.last x.number)) 53 _ 3 (λ h. omega (arith, h))
        (never (not (same_digest c.keys x.keys)) 54 _ 3 (λ h. omega (arith, h))
        (never (not (enough_signers c.half x.signers)) 55 0 3 (λ h. omega (arith, h)) (λ h. omega (arith, h))))
