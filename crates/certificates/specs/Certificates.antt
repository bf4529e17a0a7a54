-- Certificates of the far committee (document 02, U5; D3.2, section 6.4.3: trust committee, sidechain certificate). Assumes nothing.
use Rattle.std.specs.Prelude.{ℕ, ◌*◌, ◌+◌, ◌-◌, ◌^◌, Bool, cond, not, true, List, [], ◌∷◌, map, ◌≡◌, eqb, leb, ltb, get_or}
use Rattle.std.specs.Prelude.{Option, None, Some}
use Rattle.std.specs.Int.Count.{ones}
use Rattle.answers.specs.Answers.{refuse}
use Rattle.certificates.specs.Digests.{Digest, same_digest}
use Rattle.wire.specs.BigEndian.{every}
pub use Rattle.certificates.specs.declared.Certificate.{Certificate}
pub use Rattle.certificates.specs.declared.Committee.{Committee}

-- ## The committee

-- the committee of the far ledger, where it has one
abbrev pub FarCommittee : Type 0
FarCommittee = Option Committee

-- the greatest k: a mask of 64 bits has one for each of 2k members
abbrev pub most_half : ℕ
most_half = 32

-- k from 1 to 32
unfoldable pub half_allowed : ℕ → Bool
half_allowed k = every (leb 1 k ∷ leb k most_half ∷ [])

-- what 1 asks of an opening's committee, and 3 of a state's
abbrev pub committee_allowed : FarCommittee → Bool
committee_allowed None = true
committee_allowed (Some c) = half_allowed c.half

-- the committee at its opening, with the first keys
abbrev pub first_committee : ℕ → Digest → Committee
first_committee half keys = record { half = half; last = 0; keys = keys }

-- ## Judging a certificate

-- 1 to 4,096 leaves, else 21
unfoldable pub leaves_allowed : ℕ → Bool
leaves_allowed n = every (leb 1 n ∷ leb n 4096 ∷ [])

-- 53: the number is the last one plus 1, the first being 1; none follows 2^64-1
unfoldable pub follows : ℕ → ℕ → Bool
follows last n = every (ltb last (2 ^ 64 - 1) ∷ eqb n (last + 1) ∷ [])

-- 55: more than half of the bits of 2k members are set, and none from bit 2k on (D3.2: k + 1 signatures at least)
unfoldable pub enough_signers : ℕ → ℕ → Bool
enough_signers k signers = every (ltb k (ones signers) ∷ ltb signers (2 ^ (2 * k)) ∷ [])

-- k, signers, and 1 where they are enough: half of the members and one more, and nobody beyond
unfoldable pub signer_rows : List (List ℕ)
signer_rows =
    (1 ∷ 0 ∷ 0 ∷ [])
    ∷ (1 ∷ 1 ∷ 0 ∷ [])
    ∷ (1 ∷ 3 ∷ 1 ∷ [])
    ∷ (1 ∷ 5 ∷ 0 ∷ [])
    ∷ (1 ∷ 7 ∷ 0 ∷ [])
    ∷ (2 ∷ 12 ∷ 0 ∷ [])
    ∷ (2 ∷ 14 ∷ 1 ∷ [])
    ∷ (2 ∷ 15 ∷ 1 ∷ [])
    ∷ (2 ∷ 23 ∷ 0 ∷ [])
    ∷ []

-- a row of k, signers and whether they are enough holds
abbrev pub signers_hold : List ℕ → Bool
signers_hold row = eqb (cond (enough_signers (get_or row 0 0) (get_or row 1 0)) 1 0) (get_or row 2 0)

-- and so does each
unfoldable pub SignersHold : Type 0
SignersHold = every (map signers_hold signer_rows) ≡ true

-- 53, then 54 where its keys are not those in force, then 55
unfoldable pub refusal_by : Committee → Certificate → ℕ
refusal_by c x =
    refuse (not (follows c.last x.number)) 53
    (refuse (not (same_digest c.keys x.keys)) 54
    (refuse (not (enough_signers c.half x.signers)) 55
    0))

-- without a committee every certificate is 53
abbrev pub committee_refusal : FarCommittee → Certificate → ℕ
committee_refusal None x = 53
committee_refusal (Some c) x = refusal_by c x

-- 21 before these; 3 is judged by the call
unfoldable pub certificate_refusal : FarCommittee → Certificate → ℕ
certificate_refusal far x = refuse (not (leaves_allowed x.leaves)) 21 (committee_refusal far x)

-- the committee once a certificate has passed: the next keys are in force, its number is the last
abbrev pub certified : FarCommittee → Certificate → FarCommittee
certified None x = None
certified (Some c) x = Some (record { half = c.half; last = x.number; keys = x.next_keys })
