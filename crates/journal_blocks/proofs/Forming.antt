-- What a block that refusal 14 has nothing against shows, fact by fact. Assumes nothing.
use Rattle.wire.proofs.Prelude.{List, ◌*◌, ◌+◌, ◌-◌, ◌<◌, ◌||◌, ◌∙◌, ◌≡◌, ◌≤◌, ap, ap₂, arith, drop, eq-eqb, eqb-true, le-leb, leb}
use Rattle.wire.proofs.Prelude.{leb-true, lt-ltb, ltb-true, take, true, ℕ}
use Rattle.journal_blocks.specs.Blocks.{block_formed, block_kind, head_end, item_limit, item_size, kind_of_block, records_per_block}
use Rattle.journal_blocks.specs.Blocks.{stated_count}
use Rattle.wire.proofs.Lists.{every_hold, hold_every}
use Rattle.wire.specs.BigEndian.{All, zeros}

-- the facts, one for each test
pub record FormedBlock (b : List ℕ) (k before : ℕ) : Type 0 where
  pub kind : block_kind b ≡ kind_of_block k
  pub some : 0 < stated_count b
  pub fits : stated_count b ≤ item_limit k
  pub head : zeros (take (32 - head_end k) (drop (head_end k) b)) ≡ true
  pub tail : zeros (take (448 - stated_count b * item_size k) (drop (32 + stated_count b * item_size k) b)) ≡ true
  pub follows : (leb k 2 || leb records_per_block before) ≡ true

-- from the tests to the facts
pub formed_block_facts : (b : List ℕ) (k before : ℕ) → block_formed b k before ≡ true → FormedBlock b k before
unfolding block_formed All
formed_block_facts b k before h = let t = every_hold _ h in search (eqb-true, ltb-true, leb-true)

-- and back
pub facts_formed_block : (b : List ℕ) (k before : ℕ) → FormedBlock b k before → block_formed b k before ≡ true
unfolding block_formed All
facts_formed_block b k before f = hold_every _ (search (eq-eqb, lt-ltb, le-leb))

-- the zero bytes of the header, from the place where they begin
pub head_is : (b : List ℕ) (k e : ℕ) → e ≡ head_end k → zeros (take (32 - e) (drop e b)) ≡ zeros (take (32 - head_end k) (drop (head_end k) b))
head_is b k e p = ap (λ (x : ℕ). zeros (take (32 - x) (drop x b))) p

-- the zero bytes after the items, from the place where the items end
pub tail_is : (b : List ℕ) (k n e : ℕ) → n ≡ stated_count b → e ≡ 32 + n * item_size k
    → zeros (take (480 - e) (drop e b)) ≡ zeros (take (448 - stated_count b * item_size k) (drop (32 + stated_count b * item_size k) b))
tail_is b k n e p q =
    let m : ℕ = stated_count b * item_size k in
    let z : e ≡ 32 + m = q ∙ ap (λ (x : ℕ). 32 + x * item_size k) p in
    let y : 480 - e ≡ 448 - m = omega arith in
    ap₂ (λ (x w : ℕ). zeros (take x (drop w b))) y z
