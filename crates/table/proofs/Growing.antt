-- An index with a number more, and numbers that are apart. Assumes nothing.
use Rattle.wire.proofs.Prelude.{Bool, List, ◌%◌, ◌+◌, ◌<◌, ◌∙◌, ◌≡◌, ◌≤◌, ◌⊎◌, ap, arith, cond, false, get_or, get_or-set_other, get_or-set_same}
use Rattle.wire.proofs.Prelude.{length, length-set, lt-ltb, ltb, ltb-true, refl, set, set-get_or, sym, true, ℕ, ⊎_elim}
use Rattle.places.proofs.Chains.{chains_grow, chains_same, low_bits_most}
use Rattle.places.proofs.NumberIndex.{kept_set, kept_twice}
use Rattle.places.specs.NumberIndex.{Kept, chain_count}
use Rattle.table.specs.Table.{IndexOf, number_at, with_number}

-- ## One number more

-- the elements of other places stay
pub grown_else : (index : List ℕ) (base n x k : ℕ) → (k ≡ n → ⊥)
    → get_or (with_number index base n x) (base + chain_count + k) 0 ≡ get_or index (base + chain_count + k) 0
grown_else index base n x k d =
    get_or-set_other (set index (base + chain_count + n) (get_or index (base + x % chain_count) 0)) (base + x % chain_count)
    (base + chain_count + k) (n + 1) 0 (λ r. omega (arith, r, low_bits_most x))
    ∙ get_or-set_other index (base + chain_count + n) (base + chain_count + k) (get_or index (base + x % chain_count) 0) 0 (λ r. d (omega arith))

-- the heads alone, and none beyond them
abbrev heads_of : List ℕ → ℕ → ℕ → ℕ
heads_of index base g = cond (ltb g chain_count) (get_or index (base + g) 0) 0

-- they are the heads
heads_are : (index : List ℕ) (base g : ℕ) → g < chain_count → heads_of index base g ≡ get_or index (base + g) 0
heads_are index base g h = rw (lt-ltb g chain_count h)

module _ (s s' : List ℕ) (from : ℕ) (index : List ℕ) (base n x : ℕ) (c : IndexOf s from index base n)
    (room : base + chain_count + n < length index) (same : (j : ℕ) → j < n → number_at s' from j ≡ number_at s from j)
    (number : x ≡ number_at s' from n) where
  abbrev head : ℕ
  head = x % chain_count

  abbrev last : ℕ
  last = get_or index (base + head) 0

  abbrev first : List ℕ
  first = set index (base + chain_count + n) last

  -- the element of the new place
  next_here : get_or (with_number index base n x) (base + chain_count + n) 0 ≡ heads_of index base head
  next_here =
      get_or-set_other first (base + head) (base + chain_count + n) (n + 1) 0 (λ r. omega (arith, r, low_bits_most x))
      ∙ get_or-set_same index (base + chain_count + n) last 0 room
      ∙ sym (heads_are index base head (low_bits_most x))

  -- those of other places
  next_else : (k : ℕ) → (k ≡ n → ⊥) → get_or (with_number index base n x) (base + chain_count + k) 0 ≡ get_or index (base + chain_count + k) 0
  next_else = grown_else index base n x

  -- the head of its chain
  head_here : heads_of (with_number index base n x) base head ≡ n + 1
  head_here =
      heads_are (with_number index base n x) base head (low_bits_most x)
      ∙ get_or-set_same first (base + head) (n + 1) 0 (simp length-set (omega (arith, room, low_bits_most x)))

  -- the other heads
  head_else : (g : ℕ) → (g ≡ head → ⊥) → heads_of (with_number index base n x) base g ≡ heads_of index base g
  head_else g d = go (ltb g chain_count) refl
    where
      go : (t : Bool) → ltb g chain_count ≡ t
          → cond t (get_or (with_number index base n x) (base + g) 0) 0 ≡ cond t (get_or index (base + g) 0) 0
      go false q = refl
      go true q =
          get_or-set_other first (base + head) (base + g) (n + 1) 0 (λ r. d (omega arith))
          ∙ get_or-set_other index (base + chain_count + n) (base + g) last 0 (λ r. omega (arith, r, ltb-true g chain_count q))

  -- it is the index of one number more
  pub index_grown : IndexOf s' from (with_number index base n x) base (n + 1)
  index_grown =
      chains_same (number_at s' from) (heads_of (with_number index base n x) base)
      (λ (k : ℕ). get_or (with_number index base n x) (base + chain_count + k) 0)
      (number_at s' from)
      (λ (h : ℕ). get_or (with_number index base n x) (base + h) 0)
      (λ (k : ℕ). get_or (with_number index base n x) (base + chain_count + k) 0)
      (n + 1)
      (chains_grow (number_at s' from) (heads_of index base) (λ (k : ℕ). get_or index (base + chain_count + k) 0)
      (heads_of (with_number index base n x) base) (λ (k : ℕ). get_or (with_number index base n x) (base + chain_count + k) 0) n head
      (chains_same (number_at s from) (λ (h : ℕ). get_or index (base + h) 0) (λ (k : ℕ). get_or index (base + chain_count + k) 0)
      (number_at s' from) (heads_of index base) (λ (k : ℕ). get_or index (base + chain_count + k) 0) n c same (heads_are index base)
      (λ k p. refl))
      (ap (λ (y : ℕ). y % chain_count) number) head_here head_else next_here next_else)
      (λ j p. refl)
      (λ h b. sym (heads_are (with_number index base n x) base h b))
      (λ k p. refl)

-- it takes one store where the chain is empty and the place's element is zero
pub grown_first : (index : List ℕ) (base n x : ℕ) → get_or index (base + x % chain_count) 0 ≡ 0 → get_or index (base + chain_count + n) 0 ≡ 0
    → set index (base + x % chain_count) (n + 1) ≡ with_number index base n x
grown_first index base n x h k =
    ap (λ (l : List ℕ). set l (base + x % chain_count) (n + 1)) (sym (set-get_or index (base + chain_count + n) 0))
    ∙ ap (λ (v : ℕ). set (set index (base + chain_count + n) v) (base + x % chain_count) (n + 1)) (k ∙ sym h)

-- nothing else of it is altered
pub grown_kept : (index : List ℕ) (base n m x : ℕ) → n < m → Kept base (base + chain_count + m) index (with_number index base n x)
grown_kept index base n m x h =
    kept_twice (kept_set index (base + chain_count + n) (get_or index (base + x % chain_count) 0) (omega arith) (omega arith))
    (kept_set (set index (base + chain_count + n) (get_or index (base + x % chain_count) 0)) (base + x % chain_count) (n + 1) (omega arith)
    (omega (arith, low_bits_most x)))

-- ## The index beside it

-- what is altered within a part is altered within a longer one
pub kept_longer : {a b : ℕ} {xs ys : List ℕ} (c : ℕ) → b ≤ c → Kept a b xs ys → Kept a c xs ys
kept_longer c h f = record { long = f.long; before = f.before; after = λ k p. f.after k (omega arith) }

-- an index outside the part that is altered stays, where its numbers do
pub index_beside : (s s' : List ℕ) (from : ℕ) {index index' : List ℕ} {a b : ℕ} (base n : ℕ) → Kept a b index index'
    → (base + chain_count + n ≤ a) ⊎ (b ≤ base) → ((j : ℕ) → j < n → number_at s' from j ≡ number_at s from j)
    → IndexOf s from index base n → IndexOf s' from index' base n
index_beside s s' from {index} {index'} {a} {b} base n f d same c =
    chains_same (number_at s from) (λ (h : ℕ). get_or index (base + h) 0) (λ (k : ℕ). get_or index (base + chain_count + k) 0)
    (number_at s' from) (λ (h : ℕ). get_or index' (base + h) 0) (λ (k : ℕ). get_or index' (base + chain_count + k) 0) n c same
    (λ h p.
    ⊎_elim (λ (q : base + chain_count + n ≤ a). f.before (base + h) (omega arith))
    (λ (q : b ≤ base). f.after (base + h) (omega arith)) d)
    (λ k p.
    ⊎_elim (λ (q : base + chain_count + n ≤ a). f.before (base + chain_count + k) (omega arith))
    (λ (q : b ≤ base). f.after (base + chain_count + k) (omega arith)) d)
