-- Demand 3, second half, from a pass to a far list: the home records that the home validator passes, interleaved with far
-- records that pass the rules. Far account 0 holds the far pool: what home sends goes on to it, and what home receives comes
-- from it. The far locals for that take their numbers from a block of 2^32 that no home record uses. Assumes nothing.
use Rattle.rules.specs.Calls.{InTurn}
use Rattle.wire.proofs.Prelude.{Bool, List, [], ◌&&◌, ◌*◌, ◌+◌, ◌-◌, ◌/◌, ◌<◌, ◌^◌, ◌∙◌, ◌∷◌, ◌≡◌, ◌≤◌, add-zero, and-false, ap, arith, drop}
use Rattle.wire.proofs.Prelude.{drop-cons, drop_of_length-le, drop-set-lt, eqb, false, get_or, get_or-set_other, get_or-set_same, length}
use Rattle.wire.proofs.Prelude.{lt-length-set, ne_eqb, not, refl, set-get_or, set-set, suc, sym, true, zero, ℕ}
use native.Mathlib.Decide.{ℕ_discrete}
use Rattle.ledgers.specs.Ledgers.{ledger_of}
use Rattle.ledgers.specs.Limits.{max_amount}
use Rattle.records.proofs.Exactly.{encoding_bytes, encoding_reads, reads_exactly}
use Rattle.records.proofs.Formed.{read_formed}
use Rattle.records.specs.Records.{EncodingReads, Readable, ReadsExactly, encoding, reading, record_in}
use Rattle.rules.proofs.Clashes.{clash_used, used, used_snoc}
use Rattle.rules.proofs.HomeSound.{after_far, after_home, pair_of, view_of}
use Rattle.rules.proofs.InFlight.{matched_matches}
use Rattle.rules.proofs.Lists.{any_last, length_lowered, length_moved, length_raised, lowered_same, or_neither, raised_same, truth_not}
use Rattle.rules.proofs.Refusals.{HomePassable, Passable, home_judge_none, home_read, none_judge}
use Rattle.rules.specs.HomeValidator.{Possible, home_validator, is_far, pool_after, reads_far}
use Rattle.rules.specs.Lists.{any, left, lowered, none, raised, right, same_truth, sum, total}
use Rattle.rules.specs.Rules.{Far, Home, Kind, LedgerState, Local, Read, Receiving, Record, Sending, held, is_sending, judge, matches}
use Rattle.rules.specs.Rules.{Ledger, Passes, Tariff, after_bytes, clashes, debit, is_receiving, judge_bytes, moved}
use Rattle.tariffs.proofs.Charges.{charge_free}
use Rattle.tariffs.specs.Tariffs.{free}
use Rattle.wire.specs.BigEndian.{All, Bytes, field}

-- a far record with a good signature: kind, sender, receiver, number, amount
abbrev far_record : Kind → ℕ → ℕ → ℕ → ℕ → Record
far_record k s r n a = record { kind = k; sender = s; receiver = r; number = n; amount = a; verified = true }

-- ## Lists with one record more in front

module _ (H F : LedgerState) (r : Record) (bs : List (List ℕ)) where
  -- a home record that passes
  possible_home : (b : List ℕ) → reading b ≡ Read r → ledger_of r.kind ≡ Home → judge (pair_of H F) r ≡ 0
      → Possible (pair_of (held H r) F) bs → Possible (pair_of H F) (b ∷ bs)
  unfolding Passes judge_bytes after_bytes
  possible_home b q l j x =
      record {
        far_records = x.far_records;
        merged = b ∷ x.merged;
        are_far = x.are_far;
        interleaved = left x.interleaved;
        passes = rw (q, after_home H F r l) (j, x.passes);
      }

  -- a far record that passes
  possible_far : Readable r → ledger_of r.kind ≡ Far → judge (pair_of H F) r ≡ 0 → Possible (pair_of H (held F r)) bs
      → Possible (pair_of H F) bs
  unfolding Passes All judge_bytes after_bytes EncodingReads
  possible_far g l j x =
      let q = encoding_reads r g in
      record {
        far_records = encoding r ∷ x.far_records;
        merged = encoding r ∷ x.merged;
        are_far = ((encoding_bytes r, ap reads_far q ∙ ap is_far l), x.are_far);
        interleaved = right x.interleaved;
        passes = rw (q, after_far H F r l) (j, x.passes);
      }

-- ## Numbers and balances of the far list so far

-- home uses no number of the block
abbrev Outside : ℕ → LedgerState → Type 0
Outside block H = (arrival : Bool) (n : ℕ) → n / 2 ^ 32 ≡ block → used arrival n H.passed ≡ false

-- a number that is none of the first k of the block is not used by a far arrival where no home local or sending uses it, and by no far
-- local or sending where no home arrival uses it
abbrev Unused : ℕ → ℕ → LedgerState → LedgerState → Type 0
Unused block k H F =
    (arrival : Bool) (n : ℕ) → (n / 2 ^ 32 ≡ block → block * 2 ^ 32 + k ≤ n) → used (not arrival) n H.passed ≡ false
    → used arrival n F.passed ≡ false

-- what home does not use with a record more it does not use without it
used_less : (arrival : Bool) (n : ℕ) (H : LedgerState) (r : Record) → used arrival n (held H r).passed ≡ false
    → (used arrival n H.passed ≡ false) × ((same_truth arrival (is_receiving r.kind) && eqb n r.number) ≡ false)
used_less arrival n H r h = or_neither _ _ (sym (used_snoc arrival n H.passed r) ∙ h)

-- a record more of one number on each ledger, an arrival on one of them, leaves it so
unused_both : (block k : ℕ) (H F : LedgerState) (r x : Record) → x.number ≡ r.number
    → is_receiving x.kind ≡ not (is_receiving r.kind) → Unused block k H F → Unused block k (held H r) (held F x)
unused_both block k H F r x q c u arrival n i h =
    let v = used_less (not arrival) n H r h in
    used_snoc arrival n F.passed x ∙ simp (q, c, ← truth_not arrival (is_receiving r.kind), v.1, u arrival n i v.0)

-- what was given to an account is taken again
lowered_raised : (balances : List ℕ) (i a : ℕ) → i < length balances → lowered (raised balances i a) i a ≡ balances
unfolding lowered raised
lowered_raised balances i a h =
    let z : get_or balances i 0 + a - a ≡ get_or balances i 0 = omega arith in
    rw (set-set, get_or-set_same balances i (get_or balances i 0 + a) 0 h, z, set-get_or)

-- where nothing is taken on sendings, one takes its amount
free_debit : (t : Tariff) (r : Record) (l : Ledger) → t ≡ free → debit t r (Sending l) ≡ r.amount
free_debit t r l q = rw (q, charge_free r.amount) (omega arith)

-- and moves nothing else
free_moved : (t : Tariff) (balances : List ℕ) (r : Record) (l : Ledger) → t ≡ free
    → moved t balances r (Sending l) ≡ lowered balances r.sender r.amount
unfolding raised
free_moved t balances r l q =
    rw (free_debit t r l q, q, charge_free r.amount, add-zero, set-get_or)

-- account 0 gets what another one had, and those after that one keep theirs
gathered : (balances : List ℕ) (i a : ℕ) → 0 < i → i < length balances
    → get_or (raised (lowered balances i a) 0 a) 0 0 + total (drop (suc i) (raised (lowered balances i a) 0 a))
    ≡ get_or balances 0 0 + a + total (drop (suc i) balances)
unfolding lowered raised
gathered balances i a pos h =
    let first : 0 < length balances = omega arith in
    let other : 0 ≡ i → ⊥ = omega arith in
    let below : 0 < suc i = omega arith in
    let last : i < suc i = omega arith in
    simp (drop-set-lt, get_or-set_same, get_or-set_other, lt-length-set)

module _ (far_accounts block : ℕ) (few : far_accounts ≤ 2 ^ 16) (top : block * 2 ^ 32 + 2 ^ 32 ≤ 2 ^ 64) where
  -- a far local with the next number of the block
  local_far : (H F : LedgerState) (i j a k : ℕ) (bs : List (List ℕ)) → length F.balances ≡ far_accounts → i < far_accounts
      → j < far_accounts → 0 < a → a ≤ max_amount → a ≤ get_or F.balances i 0 → k < 2 ^ 32 → Outside block H → Unused block k H F
      → (Unused block (suc k) H (held F (far_record (Local Far) i j (block * 2 ^ 32 + k) a))
      → Possible (pair_of H (held F (far_record (Local Far) i j (block * 2 ^ 32 + k) a))) bs)
      → Possible (pair_of H F) bs
  unfolding Passable
  local_far H F i j a k bs ln p q m m' l room out un next =
      let number : ℕ = block * 2 ^ 32 + k in
      let z : Record = far_record (Local Far) i j number a in
      let here : number / 2 ^ 32 ≡ block = omega arith in
      let fresh = clash_used z F.passed ∙ un false number (λ w. omega arith) (out true number here) in
      possible_far H F z bs (omega arith) refl
      (none_judge (pair_of H F) z (Local Far) refl
      (record { sender_open = rw ln p; receiver_open = rw ln q; signed = refl; fresh = fresh }, l))
      (next (λ arrival n i u.
      used_snoc arrival n F.passed z
      ∙ simp (
        ne_eqb n number (λ w. omega (arith, i (ap (λ (y : ℕ). y / 2 ^ 32) w ∙ here))),
        and-false,
        un arrival n (λ w. omega (arith, i w)) u,
      )))

module _ (far_accounts supply block : ℕ) (some : 0 < far_accounts) (few : far_accounts ≤ 2 ^ 16)
    (top : block * 2 ^ 32 + 2 ^ 32 ≤ 2 ^ 64) where
  -- far account 0 has the pool, and the numbers of the block from k on are left
  record Ready (H F : LedgerState) (pool k : ℕ) : Type 0 where
    count : length F.balances ≡ far_accounts
    far_free : F.tariff ≡ free
    pool_there : pool ≤ get_or F.balances 0 0
    outside : Outside block H
    unused : Unused block k H F

  -- ## One home record

  module _ (H F : LedgerState) (b : List ℕ) (r : Record) (pool k : ℕ) (bs : List (List ℕ)) (is : reading b ≡ Read r) (g : Readable r)
      (out : r.number / 2 ^ 32 ≡ block → ⊥) (room : k < 2 ^ 32) (rd : Ready H F pool k)
      (follow : (F' : LedgerState) → Ready (held H r) F' (pool_after pool r r.kind) (suc k) → Possible (pair_of (held H r) F') bs) where
    -- home still uses no number of the block
    outside_next : Outside block (held H r)
    outside_next arrival n i =
        used_snoc arrival n H.passed r
        ∙ simp (ne_eqb n r.number (λ w. out (sym (ap (λ (y : ℕ). y / 2 ^ 32) w) ∙ i)), and-false, rd.outside arrival n i)

    -- its number is not used in its class
    own_unused : (arrival : Bool) → is_receiving r.kind ≡ arrival → any (clashes r) H.passed ≡ false
        → used arrival r.number H.passed ≡ false
    own_unused arrival c h = rw (clash_used r H.passed, c) at h

    -- a home record that passes has a far list
    home_one : (kind : Kind) → r.kind ≡ kind → HomePassable (view_of H far_accounts pool supply) r kind → Possible (pair_of H F) (b ∷ bs)
    unfolding Passable HomePassable
    -- a local: nothing
    home_one (Local Home) q h =
        possible_home H F r bs b is (ap ledger_of q) (none_judge (pair_of H F) r (Local Home) q h)
        (follow F
        (record {
          count = rd.count;
          far_free = rd.far_free;
          pool_there = rw q rd.pool_there;
          outside = outside_next;
          unused = λ arrival n i u. rd.unused arrival n (λ w. omega (arith, i w)) (used_less (not arrival) n H r u).0;
        }))
    -- a sending: its arrival on far, and from there on to account 0
    home_one (Sending Home) q h =
        let x : Record = far_record (Receiving Far) r.sender r.receiver r.number r.amount in
        let F₁ : LedgerState = held F x in
        let open-receiver : r.receiver < length F.balances = rw rd.count h.0.receiver_open in
        let open-sender : r.sender < length (held H r).balances = rw (length_moved H.tariff H.balances r r.kind) h.0.sender_open in
        let fresh : used true r.number F.passed ≡ false = rd.unused true r.number (λ w. absurd (out w)) (own_unused false (ap
        is_receiving q) h.0.fresh) in
        possible_home H F r bs b is (ap ledger_of q) (none_judge (pair_of H F) r (Sending Home) q (rw rd.count h))
        (possible_far (held H r) F x bs (omega (arith, g)) refl
        (none_judge (pair_of (held H r) F) x (Receiving Far) refl (
          record { sender_open = open-sender; receiver_open = open-receiver; signed = refl; fresh = clash_used x F.passed ∙ fresh },
          any_last (matches x) H.passed r
              (matched_matches x r (record { sending = ap is_sending q; number = refl; sender = refl; receiver = refl; amount = refl })),
        ))
        (local_far far_accounts block few top (held H r) F₁ r.receiver 0 r.amount k bs (simp length_raised rd.count)
        h.0.receiver_open some g.amount_some g.amount_most
        (omega (arith, raised_same F.balances r.receiver r.amount open-receiver)) room outside_next
        (unused_both block k H F r x refl (sym (ap (λ (t : Kind). not (is_receiving t)) q)) rd.unused)
        (λ u.
        follow (held F₁ (far_record (Local Far) r.receiver 0 (block * 2 ^ 32 + k) r.amount))
        (record {
          count = simp (length_raised, length_lowered) rd.count;
          far_free = rd.far_free;
          pool_there =
              rw (q, lowered_raised F.balances r.receiver r.amount open-receiver)
              (omega (arith, rd.pool_there, raised_same F.balances 0 r.amount (rw rd.count some)));
          outside = outside_next;
          unused = u;
        }))))
    -- an arrival: from account 0 to the sender's account, and its sending from there
    home_one (Receiving Home) q h =
        let x : Record = far_record (Sending Far) r.sender r.receiver r.number r.amount in
        let F₁ : LedgerState = held F (far_record (Local Far) 0 r.sender (block * 2 ^ 32 + k) r.amount) in
        let left_over : List ℕ = lowered F.balances 0 r.amount in
        let open-sender : r.sender < length left_over = rw (length_lowered, rd.count) h.0.sender_open in
        local_far far_accounts block few top H F 0 r.sender r.amount k (b ∷ bs) rd.count some h.0.sender_open
        g.amount_some g.amount_most (omega (arith, rd.pool_there, h.1)) room rd.outside rd.unused
        (λ u.
        possible_far H F₁ x (b ∷ bs) (omega (arith, g)) refl
        (none_judge (pair_of H F₁) x (Sending Far) refl (
          record {
            sender_open = rw length_raised open-sender;
            receiver_open = h.0.receiver_open;
            signed = refl;
            fresh = clash_used x F₁.passed ∙ u false r.number (λ w. absurd (out w)) (own_unused true (ap is_receiving q) h.0.fresh);
          },
          omega (arith, free_debit F.tariff r Far rd.far_free, raised_same left_over r.sender r.amount open-sender),
        ))
        (possible_home H (held F₁ x) r bs b is (ap ledger_of q)
        (none_judge (pair_of H (held F₁ x)) r (Receiving Home) q (
          simp (length_raised, length_lowered, rd.count) h.0,
          any_last (matches r) F₁.passed x
              (matched_matches r x (record { sending = refl; number = refl; sender = refl; receiver = refl; amount = refl })),
        ))
        (follow (held F₁ x)
        (record {
          count = simp (length_raised, length_lowered) rd.count;
          far_free = rd.far_free;
          pool_there =
              rw (q, free_moved F.tariff F₁.balances x Far rd.far_free, lowered_raised left_over r.sender r.amount open-sender)
              (omega (arith, rd.pool_there, lowered_same F.balances 0 r.amount (rw rd.count some)));
          outside = outside_next;
          unused = unused_both block (suc k) H F₁ r x refl (sym (ap (λ (t : Kind). not (is_receiving t)) q)) u;
        }))))
    home_one (Local Far) q h = absurd h
    home_one (Sending Far) q h = absurd h
    home_one (Receiving Far) q h = absurd h

  -- ## All home records

  -- home records that pass in turn
  home_list : (bs : List (List ℕ)) (capacity pool k : ℕ) (H F : LedgerState) → k + length bs ≤ 2 ^ 32 → Ready H F pool k
      → All (λ (b : List ℕ). field 8 8 b / 2 ^ 32 ≡ block → ⊥) bs → All Bytes bs
      → InTurn (home_validator capacity) (view_of H far_accounts pool supply) bs → Possible (pair_of H F) bs
  unfolding InTurn All ReadsExactly record_in Passes
  home_list [] capacity pool k H F room rd out by it =
      record { far_records = []; merged = []; are_far = tt; interleaved = none; passes = tt }
  home_list (b ∷ bs) capacity pool k H F room rd out by it =
      let v = view_of H far_accounts pool supply in
      let x = home_read capacity v (reading b) it.0 in
      let r = x.0 in
      let n : field 8 8 b ≡ r.number = ap (λ (y : Record). y.number) (read_formed b r x.1).2 in
      home_one H F b r pool k bs x.1 ((reads_exactly b by.0 r).0 x.1).0 (λ e. out.0 (rw n e)) (omega arith) rd
      (λ F' rd'.
      home_list bs capacity (pool_after pool r r.kind) (suc k) (held H r) F' (omega arith) rd' out.1 by.1 (rw x.1 at it.1))
      r.kind refl (home_judge_none v r r.kind refl x.2)

  -- what the far accounts from i on hold goes to account 0 first
  pub gather : (bs : List (List ℕ)) (capacity pool : ℕ) (H : LedgerState) → pool ≤ max_amount → Outside block H
      → All (λ (b : List ℕ). field 8 8 b / 2 ^ 32 ≡ block → ⊥) bs → All Bytes bs
      → InTurn (home_validator capacity) (view_of H far_accounts pool supply) bs
      → (c i k : ℕ) (F : LedgerState) → 0 < i → i + c ≡ far_accounts → k + c + length bs ≤ 2 ^ 32
      → F.tariff ≡ free → length F.balances ≡ far_accounts
      → get_or F.balances 0 0 + total (drop i F.balances) ≡ pool → Unused block k H F → Possible (pair_of H F) bs
  unfolding sum
  gather bs capacity pool H small out off by it zero i k F pos end room free-far ln inv un =
      let e : drop i F.balances ≡ [] = drop_of_length-le F.balances {i = i} (omega arith) in
      home_list bs capacity pool k H F (omega arith)
      (record { count = ln; far_free = free-far; pool_there = omega (arith, rw e at inv); outside = out; unused = un }) off by it
  gather bs capacity pool H small out off by it (suc c) i k F pos end room free-far ln inv un =
      let a : ℕ = get_or F.balances i 0 in
      let F₁ : LedgerState = held F (far_record (Local Far) i 0 (block * 2 ^ 32 + k) a) in
      let parts : total (drop i F.balances) ≡ a + total (drop (suc i) F.balances) = rw (drop-cons F.balances i 0 (omega arith)) in
      elim (ℕ_discrete a 0) [
        | yes p ↦
            gather bs capacity pool H small out off by it c (suc i) k F (omega arith) (omega arith) (omega arith) free-far ln
            (omega (arith, parts)) un
        | no p ↦
            local_far far_accounts block few top H F i 0 a k bs ln (omega arith) some (omega arith) (omega (arith, parts)) (omega arith)
            (omega arith) out un
            (λ u.
            gather bs capacity pool H small out off by it c (suc i) (suc k) F₁ (omega arith) (omega arith) (omega arith) free-far
            (simp (length_raised, length_lowered) ln) (omega (arith, gathered F.balances i a pos (omega arith), parts)) u)
      ]
