-- What is claimed of certificates that are handed in one after another: those that pass make an unbroken chain (document 02, U5; D3.2,
-- section 6.4.3: each certificate is signed under the key that the one before it brought). Assumes nothing.
use Rattle.std.specs.Prelude.{◌*◌, ◌<◌, ◌^◌, ◌≤◌, suc, ℕ, List, [], ◌++◌, ◌∷◌, ◌↔◌, ◌≡◌, length, None, Some}
use Rattle.std.specs.Int.Count.{ones}
use Rattle.answers.specs.Answers.{unless_refused}
use Rattle.certificates.specs.Certificates.{Certificate, Committee, FarCommittee, certificate_refusal, certified}
use Rattle.certificates.specs.Certificates.{first_committee}
use Rattle.certificates.specs.Digests.{Digest}

-- ## What passes

-- a certificate that follows the last one of a committee: the next number, checked under the keys in force, and signed by more than k of
-- 2k members and by nobody else
pub record Follows (half last : ℕ) (keys : Digest) (x : Certificate) : Type 0 where
  pub number : x.number ≡ suc last
  pub checked_under : x.keys ≡ keys
  pub signed : half < ones x.signers
  pub members : x.signers < 2 ^ (2 * half)

-- one that passes
pub record Fit (c : Committee) (x : Certificate) : Type 0 where
  pub leaves_some : 1 ≤ x.leaves
  pub leaves_most : x.leaves ≤ 4096
  pub follows : Follows c.half c.last c.keys x
  pub number_fits : x.number < 2 ^ 64

-- a committee passes exactly these, and without one none passes
unfoldable pub CertificatesPass : Type 0
CertificatesPass =
    (x : Certificate)
    → ((c : Committee) → (certificate_refusal (Some c) x ≡ 0) ↔ Fit c x)
    × (certificate_refusal None x ≡ 0 → ⊥)

-- ## Chains

-- an unbroken chain of certificates, from the keys in force after number n to those in force after number m: each follows the one before
-- it, the first of them number n, and brings its next keys into force
pub data Chain (half : ℕ) : Digest → ℕ → List Certificate → Digest → ℕ → Type 0 where
  none : {keys : Digest} {n : ℕ} → Chain half keys n [] keys n
  link : {keys end : Digest} {n m : ℕ} {x : Certificate} {xs : List Certificate}
      → Follows half n keys x → Chain half x.next_keys x.number xs end m → Chain half keys n (x ∷ xs) end m

-- ## Certificates in turn

-- the committee after one was handed in
abbrev pub after_one : FarCommittee → Certificate → FarCommittee
after_one far x = unless_refused (certificate_refusal far x) (certified far x) far

-- and after several
unfoldable pub after_all : FarCommittee → List Certificate → FarCommittee
after_all far [] = far
after_all far (x ∷ xs) = after_all (after_one far x) xs

-- those of them that pass
unfoldable pub passed_among : FarCommittee → List Certificate → List Certificate
passed_among far [] = []
passed_among far (x ∷ xs) = unless_refused (certificate_refusal far x) (x ∷ []) [] ++ passed_among (after_one far x) xs

-- what holds of a committee after certificates that passed, from the opening's size and keys
pub record KeysInForce (far : FarCommittee) (half : ℕ) (keys : Digest) (passed : List Certificate) : Type 0 where
  pub committee : Committee
  pub there : far ≡ Some committee
  -- its size is the opening's
  pub size : committee.half ≡ half
  -- the keys in force are reached from the opening's by an unbroken chain of all of them
  pub chain : Chain half keys 0 passed committee.keys committee.last
  -- the last number is how many there are
  pub counted : committee.last ≡ length passed

-- it does of every list of certificates, refused ones among them
unfoldable pub ChainsUnbroken : Type 0
ChainsUnbroken =
    (half : ℕ) (keys : Digest) (xs : List Certificate)
    → KeysInForce (after_all (Some (first_committee half keys)) xs) half keys (passed_among (Some (first_committee half keys)) xs)
