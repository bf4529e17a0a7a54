-- Laws of clashing records. Only those under "What clashes" open the definition of `clashes`. Assumes nothing.
use Rattle.wire.proofs.Prelude.{Bool, List, [], ◌&&◌, ◌++◌, ◌||◌, ◌∙◌, ◌∷◌, ◌≡◌, ap₂, dichotomy, eq-eqb, eqb, eqb-false, eqb-true}
use Rattle.wire.proofs.Prelude.{false, inl, inr, ne_eqb, not, not-true, refl, sym, true, ℕ}
use Rattle.rules.proofs.Lists.{any_snoc, eqb_turned, or_neither, truth_self, truth_turned}
use Rattle.rules.specs.Lists.{any, same_truth}
use Rattle.rules.specs.PairValidator.{unshared}
use Rattle.rules.specs.Rules.{Record, arrived, clashes, is_receiving}
use Rattle.wire.proofs.Lists.{every_first}
use Rattle.wire.specs.BigEndian.{every}

-- ## What clashes

-- a record of the list has the number, and is an arrival or not as the test says
unfoldable pub used : Bool → ℕ → List Record → Bool
used arrival n records = any (λ (r : Record). same_truth arrival (is_receiving r.kind) && eqb n r.number) records

-- a record clashes with one of a list where its number is used there in its class
pub clash_used : (r : Record) (xs : List Record) → any (clashes r) xs ≡ used (is_receiving r.kind) r.number xs
unfolding clashes used
clash_used r xs = refl

-- an arrival clashes with one of a list where an arrival with its number is there
pub clash_arrived : (r : Record) (xs : List Record) → is_receiving r.kind ≡ true → any (clashes r) xs ≡ arrived r.number xs
unfolding used arrived
clash_arrived r xs q = rw (clash_used r xs, q)

-- a clash goes both ways
pub clash_turned : (r x : Record) → clashes r x ≡ clashes x r
unfolding clashes
clash_turned r x = ap₂ ◌&&◌ (truth_turned (is_receiving r.kind) (is_receiving x.kind)) (eqb_turned r.number x.number)

-- a record clashes with itself
pub clash_self : (r : Record) → clashes r r ≡ true
unfolding clashes
clash_self r = rw (truth_self (is_receiving r.kind), eq-eqb r.number r.number refl)

-- two records of one class and one number clash
pub class_clash : (r x : Record) → is_receiving r.kind ≡ is_receiving x.kind → r.number ≡ x.number → clashes r x ≡ true
unfolding clashes
class_clash r x c q = rw (c, truth_self (is_receiving x.kind), eq-eqb r.number x.number q)

-- ## Lists

-- the numbers of a list with one record more
pub used_snoc : (arrival : Bool) (n : ℕ) (xs : List Record) (r : Record)
    → used arrival n (xs ++ r ∷ []) ≡ (used arrival n xs || (same_truth arrival (is_receiving r.kind) && eqb n r.number))
unfolding used
used_snoc arrival n xs r = any_snoc (λ (x : Record). same_truth arrival (is_receiving x.kind) && eqb n x.number) xs r

-- no two records of a list clash
unfoldable pub Distinct : List Record → Type 0
Distinct [] = Unit {0}
Distinct (x ∷ xs) = (any (clashes x) xs ≡ false) × Distinct xs

-- with one record more that clashes with none
pub distinct_snoc : (xs : List Record) (r : Record) → Distinct xs → any (clashes r) xs ≡ false → Distinct (xs ++ r ∷ [])
unfolding Distinct any
distinct_snoc [] r d h = (refl, tt)
distinct_snoc (x ∷ xs) r d h =
    let u = or_neither (clashes r x) (any (clashes r) xs) h in
    (any_snoc (clashes x) xs r ∙ simp (sym (clash_turned r x) ∙ u.0, d.0), distinct_snoc xs r d.1 u.1)

-- the test of refusal 3
pub unshared_distinct : (xs : List Record) → unshared xs ≡ true → Distinct xs
unfolding Distinct unshared
unshared_distinct [] h = tt
unshared_distinct (x ∷ xs) h =
    let a = every_first _ _ h in
    let b = every_first _ _ a.1 in
    (not-true _ a.0, unshared_distinct xs b.0)

-- and back
pub distinct_unshared : (xs : List Record) → Distinct xs → unshared xs ≡ true
unfolding Distinct unshared every
distinct_unshared [] h = refl
distinct_unshared (x ∷ xs) h = simp (h.0, distinct_unshared xs h.1)
