-- What D3.2 asks of a validity language, claimed of the rules from any state, a forged one too. Assumes nothing.
use Rattle.std.specs.Prelude.{ℕ, ◌≡◌, true, false, List, [], ◌∷◌, ◌++◌, ◌↔◌}
use Rattle.ledgers.specs.Ledgers.{counterpart, ledger_of}
use Rattle.records.specs.Records.{reading}
use Rattle.rules.specs.Arrivals.{receiving_of}
use Rattle.rules.specs.Cases.{after_all}
use Rattle.rules.specs.Rules.{Ledger, PairState, Passes, Read, Receiving, Record, Sending, arrived, clashes, is_sending, judge, state_of}

-- every beginning of a list that passes the rules passes them (D3.2, section 6.3: closed under prefixes)
unfoldable pub ClosedUnderBeginnings : Type 0
ClosedUnderBeginnings = (p : PairState) (xs ys : List (List ℕ)) → Passes p (xs ++ ys) → Passes p xs

-- of two records that clash on one ledger, only the first passes
unfoldable pub NoClashPasses : Type 0
NoClashPasses =
    (p : PairState) (xs ys zs : List (List ℕ)) (b c : List ℕ) (r q : Record) → reading b ≡ Read r → reading c ≡ Read q
    → ledger_of r.kind ≡ ledger_of q.kind → clashes q r ≡ true → Passes p (xs ++ b ∷ (ys ++ c ∷ zs)) → ⊥

-- no record passes twice
unfoldable pub NonePassesTwice : Type 0
NonePassesTwice = (p : PairState) (xs ys zs : List (List ℕ)) (b : List ℕ) → Passes p (xs ++ b ∷ (ys ++ b ∷ zs)) → ⊥

-- a sending among passed records with the number, sender, receiver and amount of r
pub record WasSent (passed : List Record) (r : Record) : Type 0 where
  pub before : List Record
  pub sending : Record
  pub later : List Record
  pub stands : passed ≡ before ++ sending ∷ later
  pub is_sending : is_sending sending.kind ≡ true
  pub same_number : r.number ≡ sending.number
  pub same_sender : r.sender ≡ sending.sender
  pub same_receiver : r.receiver ≡ sending.receiver
  pub same_amount : r.amount ≡ sending.amount

-- an arrival that passes has its sending in the table of the other ledger (D3.2, section 6.4.2, asks it of the sequence)
unfoldable pub ReceivingsWereSent : Type 0
ReceivingsWereSent =
    (p : PairState) (r : Record) (l : Ledger) → r.kind ≡ Receiving l → judge p r ≡ 0 → WasSent (state_of (counterpart l) p).passed r

-- however much has passed since a sending, its arrival passes exactly when no arrival with its number has passed on its ledger (D3.2,
-- Definition 15: when the arrival itself has not; from a state that is accepted the one is the other, by ArrivedIsOwn)
unfoldable pub SendingsArrive : Type 0
SendingsArrive =
    (p : PairState) (xs ys : List (List ℕ)) (b c : List ℕ) (r : Record) (l : Ledger) → reading b ≡ Read r → r.kind ≡ Sending l
    → reading c ≡ Read (receiving_of l r) → Passes p (xs ++ b ∷ ys)
    → (Passes p ((xs ++ b ∷ ys) ++ c ∷ [])
    ↔ (arrived r.number (state_of (counterpart l) (after_all p (xs ++ b ∷ ys))).passed ≡ false))
