-- Laws of an opening: its numbers of accounts, its refusals, the total of its balances, and zeros after them. Assumes nothing.
use Rattle.wire.proofs.Prelude.{List, List·getD-append, [], ◌++◌, ◌+◌, ◌-◌, ◌<◌, ◌∙◌, ◌∷◌, ◌≡◌, ◌≤◌, ap, append_assoc, arith, drop}
use Rattle.wire.proofs.Prelude.{drop-append-le, drop_at, drop-drop, eq-eqb, eqb, false, get_or, get_or-append-add, le-leb, leb-true, length}
use Rattle.wire.proofs.Prelude.{length-append, length-replicate, lt-leb, lt-ltb, ltb-true, refl, replicate, set, suc, suc-add, sym, take}
use Rattle.wire.proofs.Prelude.{take-append_seam, take_at, take-length, true, zero, zero-add, ℕ}
use Rattle.answers.specs.Answers.{unless_refused}
use Rattle.ledgers.specs.Limits.{account_limit, max_amount}
use Rattle.places.proofs.BalanceTotals.{balances_sum}
use Rattle.places.proofs.NumberIndex.{zero_at}
use Rattle.places.proofs.OverPlaces.{all_of}
use Rattle.places.specs.ExactSums.{wide}
use Rattle.places.specs.LedgerBalances.{zero_filled, zeros_at}
use Rattle.places.specs.OverPlaces.{sum_at}
use Rattle.places.specs.declared.exact_sums.Wide.{Wide}
use Rattle.rules.specs.Lists.{total}
use Rattle.rules.specs.PairValidator.{count_allowed, opening_refusal, supply_allowed}
use Rattle.rules.specs.Rules.{Tariff}
use Rattle.tariffs.specs.Tariffs.{tariff_allowed}
use Rattle.wire.proofs.Lists.{every_both, every_first, every_none, every_not}
use Rattle.wire.specs.BigEndian.{every}

-- ## Numbers of accounts

-- an allowed number of accounts is at least one and at most the limit
pub count_facts : (n : ℕ) → count_allowed n ≡ true → (1 ≤ n) × (n ≤ account_limit)
unfolding count_allowed
count_facts n p =
    let a = every_first _ _ p in
    let b = every_first _ _ a.1 in
    (omega (arith, ltb-true 0 n a.0), leb-true n account_limit b.0)

-- and back
pub facts_count : (n : ℕ) → 1 ≤ n → n ≤ account_limit → count_allowed n ≡ true
unfolding count_allowed
facts_count n some fits =
    every_both _ _ (lt-ltb 0 n (omega (arith, some))) (every_both _ _ (le-leb n account_limit fits) every_none)

-- ## The refusals

module _ (tariff : Tariff) (homes fars supply : ℕ) where
  -- a number of home accounts that is not allowed is refused
  pub home_refused : count_allowed homes ≡ false → 1 ≡ opening_refusal tariff homes fars supply
  unfolding opening_refusal
  home_refused h = let e = every_not 0 (count_allowed homes ∷ count_allowed fars ∷ []) h in rw e

  -- and so is one of far accounts
  pub far_refused : count_allowed fars ≡ false → 1 ≡ opening_refusal tariff homes fars supply
  unfolding opening_refusal
  far_refused f = let e = every_not 1 (count_allowed homes ∷ count_allowed fars ∷ []) f in rw e

  module _ (h : count_allowed homes ≡ true) (f : count_allowed fars ≡ true) where
    -- both are allowed
    counts_allowed : every (count_allowed homes ∷ count_allowed fars ∷ []) ≡ true
    counts_allowed = every_both _ _ h (every_both _ _ f every_none)

    -- a supply that is more than an amount is refused
    pub supply_refused : max_amount < supply → 2 ≡ opening_refusal tariff homes fars supply
    unfolding opening_refusal supply_allowed
    supply_refused s = rw (counts_allowed, lt-leb supply max_amount s)

    -- then a tariff that is not allowed
    pub tariff_refused : supply ≤ max_amount → tariff_allowed tariff homes ≡ false → 52 ≡ opening_refusal tariff homes fars supply
    unfolding opening_refusal supply_allowed
    tariff_refused s t = rw (counts_allowed, le-leb supply max_amount s, t)

    -- and else nothing is
    pub none_refused : supply ≤ max_amount → tariff_allowed tariff homes ≡ true → 0 ≡ opening_refusal tariff homes fars supply
    unfolding opening_refusal supply_allowed
    none_refused s t = rw (counts_allowed, le-leb supply max_amount s, t)

-- what an opening leaves, in another form
pub opening_in : {A B : Type 0} (f : A → B) (n : ℕ) (given instead : A)
    → f (unless_refused n given instead) ≡ unless_refused n (f given) (f instead)
opening_in f zero given instead = refl
opening_in f (suc n) given instead = refl

-- ## Totals

-- the total of a list is the sum over its places
pub total_sum : (b : List ℕ) → total b ≡ sum_at (λ (i : ℕ). get_or b i 0) 0 (length b)
total_sum b = ap total (sym (take-length b)) ∙ balances_sum b 0 (length b) (omega arith)

-- limbs that stand for an amount are their low one
pub low_is_wide : (w : Wide) → wide w ≤ max_amount → w.low ≡ wide w
unfolding wide
low_is_wide w h = omega arith

-- ## Zeros beyond the accounts

-- an entry of zeros after a list
zero_after : (xs : List ℕ) (n i : ℕ) → length xs ≤ i → get_or (xs ++ replicate n 0) i 0 ≡ 0
zero_after [] n i h = zero_at n i
zero_after (x ∷ xs) n zero h = absurd (omega arith)
zero_after (x ∷ xs) n (suc i) h = zero_after xs n i (omega arith)

-- zeros without the first ones
fewer_zeros : (n m : ℕ) → drop n (replicate m zero) ≡ replicate (m - n) zero
fewer_zeros zero m = let e : m - 0 ≡ m = omega arith in rw e
fewer_zeros (suc n) zero = let e : 0 - suc n ≡ 0 = omega arith in rw e
fewer_zeros (suc n) (suc m) = let e : suc m - suc n ≡ m - n = omega arith in rw e (fewer_zeros n m)

-- balances with zeros up to the limit are as many as the limit
padded_length : (b : List ℕ) → length b ≤ account_limit → length (zero_filled b) ≡ account_limit
padded_length b h =
    omega (
      arith,
      length-append b (replicate (account_limit - length b) 0),
      length-replicate {A = ℕ} (account_limit - length b) 0,
    )

-- ## A ledger's balances in words

-- a word stored behind others
set_behind : (p q : List ℕ) (k a : ℕ) → set (p ++ q) (length p + k) a ≡ p ++ set q k a
set_behind [] q k a = rw (zero-add k)
set_behind (x ∷ p) q k a = rw (suc-add (length p) k) (ap (λ (t : List ℕ). x ∷ t) (set_behind p q k a))

-- words s have balances xs from word p on, zeros up to the limit after them, and then other words
pub record Stands (s : List ℕ) (p : ℕ) (xs rest : List ℕ) : Type 0 where
  pub long : length s ≡ p + account_limit + length rest
  pub balances : take (length xs) (drop p s) ≡ xs
  pub zeros : zeros_at s (p + length xs) (account_limit - length xs) ≡ true
  pub behind : (k : ℕ) → get_or s (p + account_limit + k) 0 ≡ get_or rest k 0

module _ (front : List ℕ) (p : ℕ) (e : length front ≡ p) (xs : List ℕ) (fits : length xs ≤ account_limit) where
  -- as many words
  pub front_long : length (front ++ zero_filled xs) ≡ p + account_limit
  front_long = omega (arith, length-append front (zero_filled xs), e, padded_length xs fits)

  module _ (rest : List ℕ) where
    -- the balances, copied to zeros
    pub copied : take p (front ++ (replicate account_limit 0 ++ rest))
        ++ (xs ++ drop (p + length xs) (front ++ (replicate account_limit 0 ++ rest)))
        ≡ front ++ (zero_filled xs ++ rest)
    copied =
        let z : length xs ≤ length (replicate {A = ℕ} account_limit 0) = rw (length-replicate {A = ℕ} account_limit 0) fits in
        rw (
          take_at front (replicate account_limit 0 ++ rest) p e,
          ← drop-drop (length xs) p (front ++ (replicate account_limit 0 ++ rest)),
          drop_at front (replicate account_limit 0 ++ rest) p e,
          drop-append-le (length xs) (replicate account_limit 0) rest z,
          fewer_zeros (length xs) account_limit,
          append_assoc xs (replicate (account_limit - length xs) 0) rest,
        )

    -- a word stored behind them
    pub stored_behind : (k a : ℕ) → set (front ++ (zero_filled xs ++ rest)) (p + account_limit + k) a ≡ front ++ (zero_filled xs ++ set rest k
        a)
    stored_behind k a =
        rw (← append_assoc front (zero_filled xs) rest, ← append_assoc front (zero_filled xs) (set rest k a), ← front_long)
        (set_behind (front ++ zero_filled xs) rest k a)

    -- what stands there
    pub stands : Stands (front ++ (zero_filled xs ++ rest)) p xs rest
    unfolding zeros_at
    stands =
        let q = replicate {A = ℕ} (account_limit - length xs) 0 in
        record {
          long = simp (length-append, length-replicate) (omega arith);
          balances = rw (drop_at front (zero_filled xs ++ rest) p e, append_assoc xs q rest) (take-append_seam xs (q ++ rest));
          zeros = all_of (λ (i : ℕ). eqb (get_or (front ++ (zero_filled xs ++ rest)) i 0) 0) (p + length xs) (account_limit - length xs)
              (λ i a b.
              let k : i ≡ length front + (i - p) = omega arith in
              eq-eqb _ 0
              (ap (λ (j : ℕ). get_or (front ++ (zero_filled xs ++ rest)) j 0) k
              ∙ get_or-append-add front (zero_filled xs ++ rest) (i - p) 0
              ∙ List·getD-append (zero_filled xs) rest 0 (i - p) (omega (arith, padded_length xs fits))
              ∙ zero_after xs (account_limit - length xs) (i - p) (omega arith)));
          behind = λ k. rw (← append_assoc front (zero_filled xs) rest, ← front_long) (get_or-append-add (front ++ zero_filled xs) rest k 0);
        }
