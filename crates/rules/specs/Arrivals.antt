-- Nothing is stranded (document 02, U2): what was sent and has not arrived can still arrive, whatever else has passed. Assumes nothing.
use Rattle.std.specs.Prelude.{ℕ, false, true, List, [], ◌∷◌, ◌⊎◌, ◌≡◌}
use Rattle.ledgers.specs.Ledgers.{counterpart}
use Rattle.rules.specs.PairValidator.{PairView, pair_accepts}
use Rattle.rules.specs.Rules.{Ledger, Receiving, Record, Sending, arrived, is_receiving, judge, state_of}

-- the arrival of a sending on ledger l, with a good signature: the same record on the other ledger (D3.2, Definition 12: effect)
unfoldable pub receiving_of : Ledger → Record → Record
receiving_of l r =
    record {
      kind = Receiving (counterpart l);
      sender = r.sender;
      receiver = r.receiver;
      number = r.number;
      amount = r.amount;
      verified = true;
    }

-- x is one of the records
unfoldable pub Among : Record → List Record → Type 0
Among x [] = ⊥
Among x (y ∷ ys) = (x ≡ y) ⊎ Among x ys

-- with the records passed on ledger l and on the other one, r is a sending in flight: it has passed on l, and no arrival with its number
-- on the other (Rules: in flight)
pub record Flying (l : Ledger) (own others : List Record) (r : Record) : Type 0 where
  pub sends : r.kind ≡ Sending l
  pub passed : Among r own
  pub not_arrived : arrived r.number others ≡ false

-- in every state that the pair validator accepts, the rules pass the arrival of each sending in flight
unfoldable pub NothingStranded : Type 0
NothingStranded =
    (capacity : ℕ) (v : PairView) → pair_accepts capacity v ≡ true → (l : Ledger) (r : Record)
    → Flying l (state_of l v.pair).passed (state_of (counterpart l) v.pair).passed r
    → judge v.pair (receiving_of l r) ≡ 0

-- and where an arrival with the number of a sending has passed, it is the sending's own, so that a sending is in flight, by its number,
-- exactly until it has arrived itself
unfoldable pub ArrivedIsOwn : Type 0
ArrivedIsOwn =
    (capacity : ℕ) (v : PairView) → pair_accepts capacity v ≡ true → (l : Ledger) (r x : Record) → r.kind ≡ Sending l
    → Among r (state_of l v.pair).passed → Among x (state_of (counterpart l) v.pair).passed → is_receiving x.kind ≡ true
    → x.number ≡ r.number → x ≡ receiving_of l r
