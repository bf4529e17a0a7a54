-- What a write that is allowed shows, fact by fact. Assumes nothing.
use Rattle.wire.proofs.Prelude.{◌%◌, ◌/◌, ◌<◌, ◌≡◌, ◌≤◌, arith, div-add-mod', eq-eqb, eqb-true, false, le-leb, leb-true, lt-ltb, ltb-true}
use Rattle.wire.proofs.Prelude.{refl, suc, true, zero, ℕ}
use Rattle.journal_blocks.proofs.Sizes.{items_room}
use Rattle.journal_blocks.specs.Blocks.{item_limit, item_size, kind_of_block, max_block}
use Rattle.journal_writer.specs.Written.{allowed, tariff_fits, write_refusal}
use Rattle.ledgers.specs.Limits.{account_limit}
use Rattle.tariffs.specs.Tariffs.{parts, tariff_allowed}
use Rattle.tariffs.specs.declared.Tariff.{Tariff}
use Rattle.wire.proofs.Lists.{every_hold, hold_every}
use Rattle.wire.specs.BigEndian.{All}

-- the facts, one for each test
pub record WriteAllowed (o k kind : ℕ) (t : Tariff) (n : ℕ) : Type 0 where
  pub long : o ≡ 512
  pub low : k ≤ max_block
  pub right : kind ≡ kind_of_block k
  pub whole : n % item_size k ≡ 0
  pub some : 0 < n / item_size k
  pub fits : n / item_size k ≤ item_limit k
  pub tariff : tariff_fits k t (n / item_size k) ≡ true

-- from the tests to the facts
pub allowed_facts : (o k kind : ℕ) (t : Tariff) (n : ℕ) → allowed o k kind t n ≡ true → WriteAllowed o k kind t n
unfolding allowed All
allowed_facts o k kind t n h = let e = every_hold _ h in search (eqb-true, ltb-true, leb-true)

-- and back
pub facts_allowed : (o k kind : ℕ) (t : Tariff) (n : ℕ) → WriteAllowed o k kind t n → allowed o k kind t n ≡ true
unfolding allowed All
facts_allowed o k kind t n a = hold_every _ (search (eq-eqb, lt-ltb, le-leb))

-- in every block but block 0 rate and charge account are not looked at
pub fits_later : (k : ℕ) (t : Tariff) (n : ℕ) → 0 < k → tariff_fits k t n ≡ true
fits_later zero t n h = absurd (omega arith)
fits_later (suc k) t n h = refl

-- rate and charge account that 52 has nothing against
pub tariff_bounds : (t : Tariff) (n : ℕ) → tariff_allowed t n ≡ true → (t.rate ≤ parts) × (t.account < n)
unfolding tariff_allowed All
tariff_bounds t n h = let e = every_hold _ h in (leb-true _ _ e.0, ltb-true _ _ e.1.0)

-- those of a write that is allowed fit the bytes of block 0
pub allowed_tariff : (o k kind : ℕ) (t : Tariff) (n : ℕ) → WriteAllowed o k kind t n
    → k ≡ 0 → (t.rate ≤ parts) × (t.account ≤ account_limit)
allowed_tariff o zero kind t n a e = omega (arith, tariff_bounds t (n / 8) a.tariff, a.fits)
allowed_tariff o (suc k) kind t n a e = absurd (omega arith)

-- the items have room
pub allowed_room : (o k kind : ℕ) (t : Tariff) (n : ℕ) → WriteAllowed o k kind t n → n ≤ 448
allowed_room o k kind t n a =
    omega (arith, div-add-mod' n (item_size k), a.whole, items_room k (n / item_size k) a.fits)

-- what is answered and left where a write is allowed, and where it is not
pub allowed_answer : (o k kind : ℕ) (t : Tariff) (n : ℕ) → allowed o k kind t n ≡ true → write_refusal o k kind t n ≡ 0
unfolding write_refusal
allowed_answer o k kind t n h = rw h

-- and 4 where it is not
pub refused_answer : (o k kind : ℕ) (t : Tariff) (n : ℕ) → allowed o k kind t n ≡ false → write_refusal o k kind t n ≡ 4
unfolding write_refusal
refused_answer o k kind t n h = rw h
