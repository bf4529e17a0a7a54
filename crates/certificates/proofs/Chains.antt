-- Which certificates pass, and that those that pass make an unbroken chain. Assumes nothing.
use Rattle.std.specs.Prelude.{None, Some}
use Rattle.wire.proofs.Prelude.{Bool, List, [], ◌+◌, ◌-◌, ◌^◌, ◌∙◌, ◌∷◌, ◌≡◌, ap, arith, eq-eqb, eqb-true, false, le-leb, leb-true, length}
use Rattle.wire.proofs.Prelude.{lt-ltb, ltb-true, not, refl, suc, sym, true, zero, ℕ}
use Rattle.answers.specs.Answers.{refuse}
use Rattle.certificates.proofs.Judging.{leaves_right, none_refused}
use Rattle.certificates.proofs.Telling.{digest_self, digests_told}
use Rattle.certificates.specs.Certificates.{Certificate, Committee, certificate_refusal, enough_signers, first_committee}
use Rattle.certificates.specs.Certificates.{follows, leaves_allowed, refusal_by}
use Rattle.certificates.specs.Chains.{CertificatesPass, Chain, ChainsUnbroken, Fit, after_all, link, none, passed_among}
use Rattle.certificates.specs.Digests.{DigestsTold, same_digest}
use Rattle.wire.proofs.Lists.{every_both, every_first, every_none}

-- ## What passes

-- where there is no refusal the test holds, and the later ones have none
unrefused : (t : Bool) (n later : ℕ) → refuse (not t) (suc n) later ≡ 0 → (t ≡ true) × (later ≡ 0)
unrefused true n later h = (refl, h)
unrefused false n later h = absurd (omega (arith, h))

module _ (c : Committee) (x : Certificate) where
  -- a certificate with no refusal is fit
  pub passed_fit : certificate_refusal (Some c) x ≡ 0 → Fit c x
  unfolding certificate_refusal refusal_by leaves_allowed follows enough_signers DigestsTold
  passed_fit h =
      let a = unrefused (leaves_allowed x.leaves) 20 _ h in
      let b = unrefused (follows c.last x.number) 52 _ a.1 in
      let d = unrefused (same_digest c.keys x.keys) 53 _ b.1 in
      let e = unrefused (enough_signers c.half x.signers) 54 _ d.1 in
      let l = every_first _ _ a.0 in
      let n = every_first _ _ b.0 in
      let s = every_first _ _ e.0 in
      let below = ltb-true c.last (2 ^ 64 - 1) n.0 in
      let next = eqb-true x.number (c.last + 1) (every_first _ _ n.1).0 in
      record {
        leaves_some = leb-true _ _ l.0;
        leaves_most = leb-true _ _ (every_first _ _ l.1).0;
        follows =
            record {
              number = omega (arith, next);
              checked_under = sym (digests_told c.keys x.keys d.0);
              signed = ltb-true _ _ s.0;
              members = ltb-true _ _ (every_first _ _ s.1).0;
            };
        number_fits = omega (arith, below, next);
      }

  -- and a fit one has none
  pub fit_passes : Fit c x → certificate_refusal (Some c) x ≡ 0
  unfolding leaves_allowed follows enough_signers
  fit_passes f =
      let g = f.follows in
      let h = f.number_fits in
      leaves_right (Some c) x (every_both _ _ (le-leb _ _ f.leaves_some) (every_both _ _ (le-leb _ _ f.leaves_most) every_none))
      ∙ none_refused c x
      (every_both _ _ (lt-ltb c.last (2 ^ 64 - 1) (omega (arith, h, g.number)))
      (every_both _ _ (eq-eqb x.number (c.last + 1) (omega (arith, g.number))) every_none))
      (ap (same_digest c.keys) g.checked_under ∙ digest_self c.keys)
      (every_both _ _ (lt-ltb _ _ g.signed) (every_both _ _ (lt-ltb _ _ g.members) every_none))

-- without a committee none passes
pub without_refused : (x : Certificate) → certificate_refusal None x ≡ 0 → ⊥
unfolding certificate_refusal
without_refused x h = let a = unrefused (leaves_allowed x.leaves) 20 53 h in omega (arith, a.1)

pub certificates_pass : CertificatesPass
unfolding CertificatesPass
certificates_pass x = (λ c. (passed_fit c x, fit_passes c x), without_refused x)

-- ## Chains

-- what certificates leave of a committee: its size, the keys and the number that their chain reaches, and how many there were
record Reached (c : Committee) (xs : List Certificate) : Type 0 where
  committee : Committee
  there : after_all (Some c) xs ≡ Some committee
  size : committee.half ≡ c.half
  chain : Chain c.half c.keys c.last (passed_among (Some c) xs) committee.keys committee.last
  counted : committee.last ≡ c.last + length (passed_among (Some c) xs)

reached : (xs : List Certificate) (c : Committee) → Reached c xs
unfolding after_all passed_among
reached [] c = record { committee = c; there = refl; size = refl; chain = none; counted = omega arith }
reached (x ∷ xs) c = go (certificate_refusal (Some c) x) refl (reached xs)
  where
    go : (n : ℕ) → certificate_refusal (Some c) x ≡ n → ((d : Committee) → Reached d xs) → Reached c (x ∷ xs)
    go zero e hyp =
        let f = (passed_fit c x e).follows in
        let r = hyp (record { half = c.half; last = x.number; keys = x.next_keys }) in
        record {
          committee = r.committee;
          there = rw e r.there;
          size = r.size;
          chain = rw e (link f r.chain);
          counted = rw e (omega (arith, r.counted, f.number));
        }
    go (suc n) e hyp =
        let r = hyp c in
        record { committee = r.committee; there = rw e r.there; size = r.size; chain = rw e r.chain; counted = rw e r.counted }

pub chains_unbroken : ChainsUnbroken
unfolding ChainsUnbroken
chains_unbroken half keys xs =
    let r = reached xs (first_committee half keys) in
    record { committee = r.committee; there = r.there; size = r.size; chain = r.chain; counted = omega (arith, r.counted) }

-- without a committee none passes, and none comes
pub none_without : (xs : List Certificate) → (after_all None xs ≡ None) × (passed_among None xs ≡ [])
unfolding after_all passed_among
none_without [] = (refl, refl)
none_without (x ∷ xs) = go (certificate_refusal None x) refl (none_without xs)
  where
    go : (n : ℕ) → certificate_refusal None x ≡ n → (after_all None xs ≡ None) × (passed_among None xs ≡ [])
        → (after_all None (x ∷ xs) ≡ None) × (passed_among None (x ∷ xs) ≡ [])
    go zero e hyp = absurd (without_refused x e)
    go (suc n) e hyp = rw e hyp
