-- Digests: their bytes, and what their test tells. Assumes nothing.
use Rattle.wire.proofs.Prelude.{List, [], ◌++◌, ◌∙◌, ◌≡◌, append-nil, ap, arith, drop, drop_of_length-le, eq-eqb, eqb-true, refl, sym, true, ℕ}
use Rattle.certificates.specs.Digests.{BytesKept, Digest, DigestsTold, digest_bytes, same_digest}
use Rattle.wire.proofs.Lists.{every_both, every_first, every_none}
use Rattle.wire.proofs.Numbers.{drop_field}
use Rattle.wire.specs.BigEndian.{bytes_of, field}

pub bytes_kept : BytesKept
unfolding BytesKept digest_bytes
bytes_kept b h l =
    let e : drop 32 b ≡ [] = drop_of_length-le b {i = 32} (omega (arith, l)) in
    let d = drop_field 24 8 b h (omega (arith, l)) ∙ ap (λ (t : List ℕ). bytes_of 8 (field 24 8 b) ++ t) e ∙ append-nil _ in
    let c = drop_field 16 8 b h (omega (arith, l)) ∙ ap (λ (t : List ℕ). bytes_of 8 (field 16 8 b) ++ t) d in
    let g = drop_field 8 8 b h (omega (arith, l)) ∙ ap (λ (t : List ℕ). bytes_of 8 (field 8 8 b) ++ t) c in
    sym (drop_field 0 8 b h (omega (arith, l)) ∙ ap (λ (t : List ℕ). bytes_of 8 (field 0 8 b) ++ t) g)

pub digests_told : DigestsTold
unfolding DigestsTold same_digest
digests_told d e h =
    let p = every_first _ _ h in
    let q = every_first _ _ p.1 in
    let r = every_first _ _ q.1 in
    let s = every_first _ _ r.1 in
    let a = eqb-true d.first e.first p.0 in
    let b = eqb-true d.second e.second q.0 in
    let c = eqb-true d.third e.third r.0 in
    let f = eqb-true d.fourth e.fourth s.0 in
    λ i. record { first = a i; second = b i; third = c i; fourth = f i }

-- every digest is the same as itself
pub digest_self : (d : Digest) → same_digest d d ≡ true
unfolding same_digest
digest_self d =
    every_both _ _ (eq-eqb d.first d.first refl)
    (every_both _ _ (eq-eqb d.second d.second refl)
    (every_both _ _ (eq-eqb d.third d.third refl)
    (every_both _ _ (eq-eqb d.fourth d.fourth refl) every_none)))
