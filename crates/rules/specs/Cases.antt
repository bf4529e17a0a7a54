-- The starred cases of document 01 as rows of one table, and rows of our own: accounts that are not open, the order of refusals, numbers
-- by class, charges, matches that look near enough, openings, and states that refusal 3 has something against. Assumes nothing.
use Rattle.std.specs.Prelude.{ℕ, ◌-◌, ◌^◌, ◌≡◌, Bool, true, false, ◌&&◌, not, List, [], ◌∷◌, ◌++◌, eqb, set, replicate}
use Rattle.ledgers.specs.Limits.{capacity}
use Rattle.records.specs.Records.{encoding}
use Rattle.rules.specs.HomeValidator.{HomeView, home_accepts, home_opened, home_opening_refusal, home_validator}
use Rattle.rules.specs.Lists.{all, same_truth}
use Rattle.rules.specs.PairValidator.{PairView, pair_accepts, pair_opened, pair_opening_refusal}
use Rattle.rules.specs.Rules.{Far, Home, Kind, Local, PairState, Receiving, Record, Sending, Tariff, after_bytes, in_flight, judge_bytes}
use Rattle.rules.specs.Rules.{new_ledger, opened}
use Rattle.tariffs.specs.Tariffs.{free}
use Rattle.wire.specs.BigEndian.{every, same}

-- ## Rows

-- a row has the number of its case (0: none); a row of the pair starts from the rules' opening state, one of the home validator from its
-- own, and both have the records that pass before
pub data CaseRow : Type 0 where
  -- the record passes; then home balances, far balances and in flight
  pass_row : ℕ → List (List ℕ) → List ℕ → List ℕ → List ℕ → ℕ → CaseRow
  -- the record is refused with the number
  refusal_row : ℕ → List (List ℕ) → List ℕ → ℕ → CaseRow
  -- the home validator gives the number (0: passed)
  home_row : ℕ → List (List ℕ) → List ℕ → ℕ → CaseRow
  -- the home validator in this state gives the number
  home_row_in : HomeView → List ℕ → ℕ → CaseRow
  -- the rules in this state pass the record; then home balances, far balances and in flight
  pass_row_in : PairState → List ℕ → List ℕ → List ℕ → ℕ → CaseRow
  -- or refuse it with the number
  refusal_row_in : PairState → List ℕ → ℕ → CaseRow
  -- the home validator in this state passes the record; then home balances and the far pool
  home_pass_row_in : HomeView → List ℕ → List ℕ → ℕ → CaseRow
  -- an opening with this tariff and these balances gets the number (0: accepted)
  opening_row : ℕ → Tariff → List ℕ → List ℕ → ℕ → CaseRow
  -- an opening of the home validator, with tariff, home balances, far accounts and far total, gets the number
  home_opening_row : ℕ → Tariff → List ℕ → ℕ → ℕ → ℕ → CaseRow
  -- the pair validator with this capacity accepts the state, or does not
  state_row : ℕ → PairView → Bool → CaseRow
  -- the home validator likewise
  home_state_row : ℕ → HomeView → Bool → CaseRow

-- home has accounts with 100 and 50, far has one with 20 (Cases: opening); nothing is taken on sendings
unfoldable pub case_opening : PairState
case_opening = opened free (100 ∷ 50 ∷ []) (20 ∷ [])

-- the same for the home validator
unfoldable pub home_case_opening : HomeView
home_case_opening = home_opened free (100 ∷ 50 ∷ []) 1 20

-- the state after records
unfoldable pub after_all : PairState → List (List ℕ) → PairState
after_all p [] = p
after_all p (b ∷ bs) = after_all (after_bytes p b) bs

-- records pass one after the other
unfoldable pub all_pass : PairState → List (List ℕ) → Bool
all_pass p [] = true
all_pass p (b ∷ bs) = eqb (judge_bytes p b) 0 && all_pass (after_bytes p b) bs

-- the home validator's state after records
unfoldable pub home_after_all : HomeView → List (List ℕ) → HomeView
home_after_all v [] = v
home_after_all v (b ∷ bs) = home_after_all ((home_validator capacity).after v b) bs

-- records pass the home validator one after the other
unfoldable pub home_all_pass : HomeView → List (List ℕ) → Bool
home_all_pass v [] = true
home_all_pass v (b ∷ bs) = eqb ((home_validator capacity).judge v b) 0 && home_all_pass ((home_validator capacity).after v b) bs

-- the figures of a state are those of the row
unfoldable pub shows : PairState → List ℕ → List ℕ → ℕ → Bool
shows p homes fars flying = every (same p.home.balances homes ∷ same p.far.balances fars ∷ eqb (in_flight p) flying ∷ [])

-- the rules give the row
unfoldable pub holds : CaseRow → Bool
holds (pass_row n before now homes fars flying) =
    every
    (all_pass case_opening (before ++ now ∷ [])
    ∷ shows (after_all case_opening (before ++ now ∷ [])) homes fars flying
    ∷ []
    )
holds (refusal_row n before now number) =
    every
    (all_pass case_opening before
    ∷ eqb (judge_bytes (after_all case_opening before) now) number
    ∷ []
    )
holds (home_row n before now number) =
    every
    (home_all_pass home_case_opening before
    ∷ eqb ((home_validator capacity).judge (home_after_all home_case_opening before) now) number
    ∷ []
    )
holds (home_row_in v now number) = eqb ((home_validator capacity).judge v now) number
holds (pass_row_in p now homes fars flying) = every (eqb (judge_bytes p now) 0 ∷ shows (after_bytes p now) homes fars flying ∷ [])
holds (refusal_row_in p now number) = eqb (judge_bytes p now) number
holds (home_pass_row_in v now homes pool) =
    every
    (eqb ((home_validator capacity).judge v now) 0
    ∷ same ((home_validator capacity).after v now).home.balances homes
    ∷ eqb ((home_validator capacity).after v now).far_pool pool
    ∷ []
    )
holds (opening_row n tariff homes fars number) = eqb (pair_opening_refusal tariff homes fars) number
holds (home_opening_row n tariff homes far_accounts far_total number) = eqb (home_opening_refusal tariff homes far_accounts far_total) number
holds (state_row room v accepted) = same_truth (pair_accepts room v) accepted
holds (home_state_row room v accepted) = same_truth (home_accepts room v) accepted

-- ## The table

-- the bytes of a record with a good signature: kind, sender, receiver, number, amount
unfoldable pub good : Kind → ℕ → ℕ → ℕ → ℕ → List ℕ
good k s r n a = encoding (record { kind = k; sender = s; receiver = r; number = n; amount = a; verified = true })

-- the same with a bad signature
unfoldable pub bad : Kind → ℕ → ℕ → ℕ → ℕ → List ℕ
bad k s r n a = encoding (record { kind = k; sender = s; receiver = r; number = n; amount = a; verified = false })

-- the starred cases, in document 01's order
unfoldable pub cases : List CaseRow
cases =
    pass_row 1 [] (good (Sending Home) 0 0 7 30) (70 ∷ 50 ∷ []) (20 ∷ []) 30
    ∷ pass_row 2 (good (Sending Home) 0 0 7 30 ∷ []) (good (Receiving Far) 0 0 7 30) (70 ∷ 50 ∷ []) (50 ∷ []) 0
    ∷ refusal_row 3 (good (Sending Home) 0 0 7 30 ∷ good (Receiving Far) 0 0 7 30 ∷ []) (good (Receiving Far) 0 0 7 30) 24
    ∷ refusal_row 4 (good (Sending Home) 0 0 7 30 ∷ []) (good (Receiving Far) 0 0 7 31) 31
    ∷ pass_row 5 [] (good (Local Home) 1 0 1 50) (150 ∷ 0 ∷ []) (20 ∷ []) 0
    ∷ refusal_row 5 [] (good (Local Home) 1 0 1 51) 25
    ∷ pass_row 6 [] (good (Local Home) 0 0 1 100) (100 ∷ 50 ∷ []) (20 ∷ []) 0
    ∷ refusal_row 6 [] (good (Local Home) 0 0 1 101) 25
    ∷ refusal_row 7 [] (good (Local Home) 2 0 1 1) 22
    ∷ refusal_row 8 [] (good (Local Home) 0 0 1 0) 21
    ∷ refusal_row 8 [] (good (Local Home) 0 0 1 (2 ^ 63 - 1)) 25
    ∷ refusal_row 8 [] (good (Local Home) 0 0 1 (2 ^ 63)) 21
    ∷ home_row 9 [] (good (Receiving Home) 0 0 1 20) 0
    ∷ home_row 9 [] (good (Receiving Home) 0 0 1 21) 32
    ∷ home_row 9 (good (Sending Home) 0 0 1 30 ∷ []) (good (Receiving Home) 0 0 2 50) 0
    ∷ home_row 9 (good (Sending Home) 0 0 1 30 ∷ []) (good (Receiving Home) 0 0 2 51) 32
    ∷ refusal_row 10 (good (Local Home) 0 0 1 1 ∷ []) (bad (Local Home) 0 0 1 1) 23
    ∷ refusal_row 11 [] (set (good (Local Home) 0 0 1 1) 24 2) 21
    ∷ opening_row 12 free ((2 ^ 63 - 1) ∷ []) (0 ∷ []) 0
    ∷ opening_row 12 free ((2 ^ 63 - 1) ∷ []) (1 ∷ []) 2
    ∷ opening_row 12 free ((2 ^ 63 - 1) ∷ 0 ∷ []) (0 ∷ []) 0
    ∷ opening_row 12 free ((2 ^ 63 - 1) ∷ 1 ∷ []) (0 ∷ []) 2
    ∷ home_opening_row 12 free ((2 ^ 63 - 1) ∷ []) 1 0 0
    ∷ home_opening_row 12 free ((2 ^ 63 - 1) ∷ []) 1 1 2
    ∷ []

-- ## Rows of our own

-- the home validator with fewer accounts at home than the far ledger has
unfoldable pub far_larger : HomeView
far_larger = home_opened free (100 ∷ []) 2 20

-- of each kind on each ledger the sender's account alone, the receiver's alone and both not open; home has accounts 0 and 1, far has
-- account 0 only, so that 1 is open for those at home alone, and in the last rows the other way round (document 02, U1; Refusals: 22)
unfoldable pub account_rows : List CaseRow
account_rows =
    refusal_row 0 [] (good (Local Home) 2 1 1 1) 22
    ∷ refusal_row 0 [] (good (Local Home) 1 2 1 1) 51
    ∷ refusal_row 0 [] (good (Local Home) 2 2 1 1) 22
    ∷ refusal_row 0 [] (good (Local Far) 1 0 1 1) 22
    ∷ refusal_row 0 [] (good (Local Far) 0 1 1 1) 51
    ∷ refusal_row 0 [] (good (Local Far) 1 1 1 1) 22
    ∷ refusal_row 0 [] (good (Sending Home) 2 0 1 1) 22
    ∷ refusal_row 0 [] (good (Sending Home) 1 1 1 1) 51
    ∷ refusal_row 0 [] (good (Sending Home) 2 1 1 1) 22
    ∷ refusal_row 0 [] (good (Sending Far) 1 1 1 1) 22
    ∷ refusal_row 0 [] (good (Sending Far) 0 2 1 1) 51
    ∷ refusal_row 0 [] (good (Sending Far) 1 2 1 1) 22
    ∷ refusal_row 0 [] (good (Receiving Home) 1 1 1 1) 22
    ∷ refusal_row 0 [] (good (Receiving Home) 0 2 1 1) 51
    ∷ refusal_row 0 [] (good (Receiving Home) 1 2 1 1) 22
    ∷ refusal_row 0 [] (good (Receiving Far) 2 0 1 1) 22
    ∷ refusal_row 0 [] (good (Receiving Far) 1 1 1 1) 51
    ∷ refusal_row 0 [] (good (Receiving Far) 2 1 1 1) 22
    ∷ home_row 0 [] (good (Local Home) 2 1 1 1) 22
    ∷ home_row 0 [] (good (Local Home) 1 2 1 1) 51
    ∷ home_row 0 [] (good (Local Home) 2 2 1 1) 22
    ∷ home_row 0 [] (good (Sending Home) 2 0 1 1) 22
    ∷ home_row 0 [] (good (Sending Home) 1 1 1 1) 51
    ∷ home_row 0 [] (good (Sending Home) 2 1 1 1) 22
    ∷ home_row 0 [] (good (Receiving Home) 1 1 1 1) 22
    ∷ home_row 0 [] (good (Receiving Home) 0 2 1 1) 51
    ∷ home_row 0 [] (good (Receiving Home) 1 2 1 1) 22
    ∷ pass_row 0 [] (good (Sending Home) 1 0 1 1) (100 ∷ 49 ∷ []) (20 ∷ []) 1
    ∷ pass_row 0 [] (good (Sending Far) 0 1 1 1) (100 ∷ 50 ∷ []) (19 ∷ []) 1
    ∷ pass_row 0 (good (Sending Home) 1 0 1 1 ∷ []) (good (Receiving Far) 1 0 1 1) (100 ∷ 49 ∷ []) (21 ∷ []) 0
    ∷ pass_row 0 (good (Sending Far) 0 1 1 1 ∷ []) (good (Receiving Home) 0 1 1 1) (100 ∷ 51 ∷ []) (19 ∷ []) 0
    ∷ home_row 0 [] (good (Sending Home) 1 0 1 1) 0
    ∷ home_row 0 [] (good (Receiving Home) 0 1 1 1) 0
    ∷ home_row_in far_larger (good (Local Home) 1 0 1 1) 22
    ∷ home_row_in far_larger (good (Local Home) 0 1 1 1) 51
    ∷ home_row_in far_larger (good (Local Home) 1 1 1 1) 22
    ∷ home_row_in far_larger (good (Sending Home) 1 1 1 1) 22
    ∷ home_row_in far_larger (good (Sending Home) 0 2 1 1) 51
    ∷ home_row_in far_larger (good (Sending Home) 1 2 1 1) 22
    ∷ home_row_in far_larger (good (Receiving Home) 2 0 1 1) 22
    ∷ home_row_in far_larger (good (Receiving Home) 1 1 1 1) 51
    ∷ home_row_in far_larger (good (Receiving Home) 2 1 1 1) 22
    ∷ home_row_in far_larger (good (Sending Home) 0 1 1 1) 0
    ∷ home_row_in far_larger (good (Receiving Home) 1 0 1 1) 0
    ∷ []

-- neighbouring refusals where both are due: the earlier is given (Refusals: order)
unfoldable pub order_rows : List CaseRow
order_rows =
    refusal_row 0 [] (good (Local Home) 2 2 1 0) 21
    ∷ refusal_row 0 [] (good (Local Home) 0 2 1 0) 21
    ∷ refusal_row 0 [] (bad (Local Home) 2 0 1 1) 22
    ∷ refusal_row 0 [] (bad (Local Home) 2 2 1 1) 22
    ∷ refusal_row 0 [] (bad (Local Home) 0 2 1 1) 51
    ∷ refusal_row 0 [] (bad (Sending Home) 0 1 1 1) 51
    ∷ refusal_row 0 [] (bad (Receiving Far) 0 1 1 1) 51
    ∷ refusal_row 0 (good (Local Home) 0 0 1 1 ∷ []) (good (Local Home) 0 2 1 101) 51
    ∷ refusal_row 0 (good (Sending Home) 0 0 1 1 ∷ []) (bad (Sending Home) 0 0 1 1) 23
    ∷ refusal_row 0 (good (Local Home) 0 0 1 1 ∷ []) (good (Local Home) 0 0 1 101) 24
    ∷ refusal_row 0 (good (Sending Home) 0 0 7 30 ∷ good (Receiving Far) 0 0 7 30 ∷ []) (good (Receiving Far) 0 0 7 31) 24
    ∷ home_row 0 [] (good (Local Far) 0 0 1 0) 21
    ∷ home_row 0 [] (good (Local Home) 0 2 1 0) 21
    ∷ home_row 0 [] (good (Local Far) 2 2 1 1) 33
    ∷ home_row 0 [] (good (Local Far) 0 2 1 1) 33
    ∷ home_row 0 [] (bad (Local Home) 2 0 1 1) 22
    ∷ home_row 0 [] (bad (Local Home) 2 2 1 1) 22
    ∷ home_row 0 [] (bad (Sending Home) 0 1 1 1) 51
    ∷ home_row 0 [] (bad (Receiving Home) 0 2 1 1) 51
    ∷ home_row 0 (good (Local Home) 0 0 1 1 ∷ []) (good (Receiving Home) 0 2 1 21) 51
    ∷ home_row 0 (good (Local Home) 0 0 1 1 ∷ []) (bad (Local Home) 0 0 1 1) 23
    ∷ home_row 0 (good (Local Home) 0 0 1 1 ∷ []) (good (Sending Home) 0 0 1 101) 24
    ∷ home_row 0 (good (Receiving Home) 0 0 1 1 ∷ []) (good (Receiving Home) 0 0 1 21) 24
    ∷ []

-- on each ledger arrivals are counted apart from locals and sendings: of each two kinds, in both orders, one number (document 02, U2)
unfoldable pub class_rows : List CaseRow
class_rows =
    pass_row 0 (good (Local Far) 0 0 7 5 ∷ good (Sending Home) 0 0 7 30 ∷ []) (good (Receiving Far) 0 0 7 30) (70 ∷ 50 ∷ []) (50 ∷ []) 0
    ∷ pass_row 0 (good (Sending Home) 0 0 7 30 ∷ good (Local Far) 0 0 7 5 ∷ []) (good (Receiving Far) 0 0 7 30) (70 ∷ 50 ∷ []) (50 ∷ []) 0
    ∷ pass_row 0 (good (Local Home) 0 0 7 5 ∷ good (Sending Far) 0 1 7 20 ∷ []) (good (Receiving Home) 0 1 7 20) (100 ∷ 70 ∷ []) (0 ∷ []) 0
    ∷ pass_row 0 (good (Sending Home) 0 0 7 30 ∷ good (Sending Far) 0 0 7 10 ∷ []) (good (Receiving Home) 0 0 7 10) (80 ∷ 50 ∷ []) (10 ∷ []) 30
    ∷ pass_row 0 (good (Sending Home) 0 0 7 30 ∷ good (Sending Far) 0 0 7 10 ∷ []) (good (Receiving Far) 0 0 7 30) (70 ∷ 50 ∷ []) (40 ∷ []) 10
    ∷ pass_row 0 (good (Sending Home) 0 0 7 30 ∷ good (Receiving Far) 0 0 7 30 ∷ []) (good (Sending Far) 0 0 7 10) (70 ∷ 50 ∷ []) (40 ∷ []) 10
    ∷ pass_row 0 (good (Sending Home) 0 0 7 30 ∷ good (Receiving Far) 0 0 7 30 ∷ []) (good (Local Far) 0 0 7 50) (70 ∷ 50 ∷ []) (50 ∷ []) 0
    ∷ pass_row 0 (good (Sending Far) 0 0 7 10 ∷ good (Receiving Home) 0 0 7 10 ∷ []) (good (Local Home) 0 0 7 110) (110 ∷ 50 ∷ []) (10 ∷ []) 0
    ∷ pass_row 0 (good (Sending Far) 0 0 7 10 ∷ good (Receiving Home) 0 0 7 10 ∷ []) (good (Sending Home) 0 0 7 110) (0 ∷ 50 ∷ []) (10 ∷ []) 110
    ∷ refusal_row 0 (good (Sending Home) 0 0 7 30 ∷ good (Receiving Far) 0 0 7 30 ∷ []) (good (Receiving Home) 0 0 7 30) 31
    ∷ refusal_row 0 (good (Local Far) 0 0 7 5 ∷ []) (good (Receiving Far) 0 0 7 5) 31
    ∷ refusal_row 0 (good (Local Home) 0 0 7 1 ∷ []) (good (Local Home) 0 0 7 1) 24
    ∷ refusal_row 0 (good (Local Home) 0 0 7 1 ∷ []) (good (Sending Home) 0 0 7 1) 24
    ∷ refusal_row 0 (good (Sending Home) 0 0 7 1 ∷ []) (good (Local Home) 0 0 7 1) 24
    ∷ refusal_row 0 (good (Sending Home) 0 0 7 1 ∷ []) (good (Sending Home) 1 0 7 1) 24
    ∷ refusal_row 0 (good (Local Far) 0 0 7 1 ∷ []) (good (Local Far) 0 0 7 1) 24
    ∷ refusal_row 0 (good (Local Far) 0 0 7 1 ∷ []) (good (Sending Far) 0 0 7 1) 24
    ∷ refusal_row 0 (good (Sending Far) 0 0 7 1 ∷ []) (good (Local Far) 0 0 7 1) 24
    ∷ refusal_row 0 (good (Sending Far) 0 0 7 1 ∷ []) (good (Sending Far) 0 1 7 1) 24
    ∷ refusal_row 0 (good (Sending Far) 0 0 7 1 ∷ good (Receiving Home) 0 0 7 1 ∷ []) (good (Receiving Home) 0 0 7 1) 24
    ∷ refusal_row 0 (good (Sending Home) 0 0 7 1 ∷ good (Receiving Far) 0 0 7 1 ∷ good (Local Far) 0 0 7 1 ∷ [])
    (good (Receiving Far) 0 0 7 1) 24
    ∷ home_row 0 (good (Local Home) 0 0 7 1 ∷ []) (good (Receiving Home) 0 0 7 20) 0
    ∷ home_row 0 (good (Sending Home) 0 0 7 1 ∷ []) (good (Receiving Home) 0 0 7 21) 0
    ∷ home_row 0 (good (Receiving Home) 0 0 7 1 ∷ []) (good (Local Home) 0 0 7 101) 0
    ∷ home_row 0 (good (Receiving Home) 0 0 7 1 ∷ []) (good (Sending Home) 0 0 7 101) 0
    ∷ home_row 0 (good (Local Home) 0 0 7 1 ∷ []) (good (Local Home) 0 0 7 1) 24
    ∷ home_row 0 (good (Local Home) 0 0 7 1 ∷ []) (good (Sending Home) 0 0 7 1) 24
    ∷ home_row 0 (good (Sending Home) 0 0 7 1 ∷ []) (good (Local Home) 0 0 7 1) 24
    ∷ home_row 0 (good (Sending Home) 0 0 7 1 ∷ []) (good (Sending Home) 1 0 7 1) 24
    ∷ home_row 0 (good (Receiving Home) 0 0 7 1 ∷ []) (good (Receiving Home) 0 1 7 1) 24
    ∷ []

-- a charge of so many ten-thousandths, paid to a home account
abbrev pub taking : ℕ → ℕ → Tariff
taking rate account = record { rate = rate; account = account }

-- home with 1,000 and 50 and far with 20, and a charge
abbrev pub charged : ℕ → ℕ → PairState
charged rate account = opened (taking rate account) (1000 ∷ 50 ∷ []) (20 ∷ [])

-- the same for the home validator
abbrev pub home_charged : ℕ → ℕ → HomeView
home_charged rate account = home_opened (taking rate account) (1000 ∷ 50 ∷ []) 1 20

-- what home's sendings cost, of charges that are whole numbers: paid to the charge account, which may be the sender, needed beside the
-- amount, and exact where amount times rate is beyond 64 bits; locals, far sendings and arrivals cost nothing, and what is in flight and
-- the far pool leave the charge out (document 02, U3)
unfoldable pub charge_rows : List CaseRow
charge_rows =
    pass_row_in (charged 50 1) (good (Sending Home) 0 0 7 200) (799 ∷ 51 ∷ []) (20 ∷ []) 200
    ∷ pass_row_in (charged 0 1) (good (Sending Home) 0 0 7 1000) (0 ∷ 50 ∷ []) (20 ∷ []) 1000
    ∷ pass_row_in (charged 10000 1) (good (Sending Home) 0 0 7 500) (0 ∷ 550 ∷ []) (20 ∷ []) 500
    ∷ refusal_row_in (charged 10000 1) (good (Sending Home) 0 0 7 501) 25
    ∷ pass_row_in (charged 2500 1) (good (Sending Home) 0 0 7 800) (0 ∷ 250 ∷ []) (20 ∷ []) 800
    ∷ refusal_row_in (charged 2500 1) (good (Sending Home) 0 0 7 804) 25
    ∷ refusal_row_in (charged 50 1) (good (Sending Home) 0 0 7 1000) 25
    ∷ pass_row_in (charged 10000 0) (good (Sending Home) 0 0 7 500) (500 ∷ 50 ∷ []) (20 ∷ []) 500
    ∷ refusal_row_in (charged 10000 0) (good (Sending Home) 0 0 7 501) 25
    ∷ pass_row_in (charged 10000 1) (good (Sending Home) 1 0 7 25) (1000 ∷ 25 ∷ []) (20 ∷ []) 25
    ∷ pass_row_in (charged 10000 1) (good (Local Home) 0 1 7 1000) (0 ∷ 1050 ∷ []) (20 ∷ []) 0
    ∷ pass_row_in (charged 10000 1) (good (Sending Far) 0 0 7 20) (1000 ∷ 50 ∷ []) (0 ∷ []) 20
    ∷ pass_row_in (after_bytes (charged 10000 1) (good (Sending Far) 0 0 7 20)) (good (Receiving Home) 0 0 7 20) (1020 ∷ 50 ∷ []) (0 ∷ []) 0
    ∷ pass_row_in (after_bytes (charged 10000 1) (good (Sending Home) 0 0 7 500)) (good (Receiving Far) 0 0 7 500) (0 ∷ 550 ∷ []) (520 ∷ []) 0
    ∷ refusal_row_in (after_bytes (charged 10000 1) (good (Sending Home) 0 0 7 500)) (good (Receiving Far) 0 0 7 1000) 31
    ∷ pass_row_in (opened (taking 9999 1) ((2 ^ 63 - 1) ∷ 0 ∷ []) (0 ∷ [])) (good (Sending Home) 0 0 7 4611916614258100000)
    (1617 ∷ 4611455422596674190 ∷ []) (0 ∷ []) 4611916614258100000
    ∷ refusal_row_in (opened (taking 9999 1) ((2 ^ 63 - 1) ∷ 0 ∷ []) (0 ∷ [])) (good (Sending Home) 0 0 7 4611916614258110000) 25
    ∷ refusal_row_in (opened (taking 10000 1) ((2 ^ 63 - 1) ∷ 0 ∷ []) (0 ∷ [])) (good (Sending Home) 0 0 7 (2 ^ 63 - 1)) 25
    ∷ home_pass_row_in (home_charged 50 1) (good (Sending Home) 0 0 7 200) (799 ∷ 51 ∷ []) 220
    ∷ home_pass_row_in (home_charged 10000 0) (good (Sending Home) 0 0 7 500) (500 ∷ 50 ∷ []) 520
    ∷ home_pass_row_in (home_charged 10000 1) (good (Local Home) 0 1 7 1000) (0 ∷ 1050 ∷ []) 20
    ∷ home_pass_row_in (home_charged 10000 1) (good (Receiving Home) 0 0 7 20) (1020 ∷ 50 ∷ []) 0
    ∷ home_row_in (home_charged 10000 1) (good (Sending Home) 0 0 7 501) 25
    ∷ home_row_in (home_after_all (home_charged 10000 1) (good (Sending Home) 0 0 7 500 ∷ [])) (good (Receiving Home) 0 0 7 520) 0
    ∷ home_row_in (home_after_all (home_charged 10000 1) (good (Sending Home) 0 0 7 500 ∷ [])) (good (Receiving Home) 0 0 7 521) 32
    ∷ []

-- arrivals that differ from the sending in one field, or find a local; number 0 is used like any other (Matches and sums)
unfoldable pub near_rows : List CaseRow
near_rows =
    refusal_row 0 (good (Sending Home) 0 0 7 30 ∷ []) (good (Receiving Far) 1 0 7 30) 31
    ∷ refusal_row 0 (good (Sending Far) 0 0 7 20 ∷ []) (good (Receiving Home) 0 1 7 20) 31
    ∷ refusal_row 0 (good (Sending Home) 0 0 7 30 ∷ []) (good (Receiving Far) 0 0 8 30) 31
    ∷ refusal_row 0 (good (Local Home) 0 0 7 30 ∷ []) (good (Receiving Far) 0 0 7 30) 31
    ∷ refusal_row 0 [] (good (Receiving Far) 0 0 0 30) 31
    ∷ home_row 0 [] (good (Local Home) 1 0 1 51) 25
    ∷ pass_row 0 [] (good (Sending Home) 1 0 0 50) (100 ∷ 0 ∷ []) (20 ∷ []) 50
    ∷ refusal_row 0 (good (Sending Home) 1 0 0 50 ∷ []) (good (Local Home) 0 0 0 1) 24
    ∷ []

-- 1 before 2 before 52: 1 to 56 accounts on each ledger, a rate of 0 to 10,000, and a charge account that is open at home, at rate 0 too
unfoldable pub opening_rows : List CaseRow
opening_rows =
    opening_row 0 free (replicate 56 1) (replicate 56 1) 0
    ∷ opening_row 0 free (replicate 57 1) (1 ∷ []) 1
    ∷ opening_row 0 free (1 ∷ []) (replicate 57 1) 1
    ∷ opening_row 0 free [] (1 ∷ []) 1
    ∷ opening_row 0 free (1 ∷ []) [] 1
    ∷ opening_row 0 free (replicate 57 (2 ^ 63)) (1 ∷ []) 1
    ∷ opening_row 0 (taking 10000 1) (1 ∷ 1 ∷ []) (1 ∷ []) 0
    ∷ opening_row 0 (taking 10001 0) (1 ∷ []) (1 ∷ []) 52
    ∷ opening_row 0 (taking 1 1) (1 ∷ []) (1 ∷ 1 ∷ []) 52
    ∷ opening_row 0 (taking 0 1) (1 ∷ []) (1 ∷ 1 ∷ []) 52
    ∷ opening_row 0 (taking 10001 1) ((2 ^ 63) ∷ []) (1 ∷ []) 2
    ∷ opening_row 0 (taking 10001 1) ((2 ^ 63) ∷ []) [] 1
    ∷ home_opening_row 0 (taking 10000 1) (1 ∷ 1 ∷ []) 1 1 0
    ∷ home_opening_row 0 (taking 10001 0) (1 ∷ []) 1 1 52
    ∷ home_opening_row 0 (taking 1 1) (1 ∷ []) 2 1 52
    ∷ home_opening_row 0 (taking 0 1) (1 ∷ []) 2 1 52
    ∷ home_opening_row 0 (taking 10001 1) (1 ∷ []) 1 (2 ^ 63) 2
    ∷ home_opening_row 0 (taking 10001 1) (1 ∷ []) 0 (2 ^ 63) 1
    ∷ home_opening_row 0 free (replicate 56 1) 56 1 0
    ∷ home_opening_row 0 free (replicate 57 1) 1 1 1
    ∷ home_opening_row 0 free (1 ∷ []) 57 1 1
    ∷ home_opening_row 0 free (1 ∷ []) 0 (2 ^ 63) 1
    ∷ []

-- a record of kind k with number n and amount a, from account s to account r, and its signature
abbrev pub held_record : Kind → ℕ → ℕ → ℕ → ℕ → Bool → Record
held_record k s r n a v = record { kind = k; sender = s; receiver = r; number = n; amount = a; verified = v }

-- the opening with these records held and with this supply
abbrev pub pair_holding : List Record → List Record → ℕ → PairView
pair_holding homes fars supply =
    record {
      pair =
          record {
            home = record { balances = 100 ∷ 50 ∷ []; passed = homes; tariff = free };
            far = record { balances = 20 ∷ []; passed = fars; tariff = free };
          };
      supply = supply;
    }

-- the same for the home validator
abbrev pub home_holding : List Record → ℕ → ℕ → ℕ → HomeView
home_holding homes far_accounts pool supply =
    record {
      home = record { balances = 100 ∷ 50 ∷ []; passed = homes; tariff = free };
      far_accounts = far_accounts;
      far_pool = pool;
      supply = supply;
    }

-- what refusal 3 has something against, one condition after the other, beside states that are accepted
unfoldable pub state_rows : List CaseRow
state_rows =
    state_row 2 (pair_holding [] [] 170) true
    ∷ state_row 2 (pair_holding (held_record (Sending Home) 0 0 7 30 true ∷ []) [] 200) true
    ∷ state_row 2 (pair_holding (held_record (Receiving Home) 0 0 8 5 true ∷ []) (held_record (Sending Far) 0 0 8 5 true ∷ []) 170) true
    ∷ state_row 2 (pair_opened free [] (20 ∷ [])) false
    ∷ state_row 2 (pair_opened free (20 ∷ []) []) false
    ∷ state_row 2 (pair_opened free (replicate 57 1) (20 ∷ [])) false
    ∷ state_row 2 (pair_opened free (20 ∷ []) (replicate 57 1)) false
    ∷ state_row 0 (pair_holding (held_record (Local Home) 0 1 1 1 true ∷ []) [] 170) false
    ∷ state_row 0 (pair_holding [] (held_record (Local Far) 0 0 1 1 true ∷ []) 170) false
    ∷ state_row 2 (pair_opened free ((2 ^ 63) ∷ []) (0 ∷ [])) false
    ∷ state_row 2 (pair_holding (held_record (Local Home) 0 1 1 0 true ∷ []) [] 170) false
    ∷ state_row 2 (pair_holding (held_record (Local Home) 0 1 1 (2 ^ 63) true ∷ []) [] 170) false
    ∷ state_row 2 (pair_holding (held_record (Local Home) 2 1 1 1 true ∷ []) [] 170) false
    ∷ state_row 2 (pair_holding (held_record (Local Home) 0 2 1 1 true ∷ []) [] 170) false
    ∷ state_row 2 (pair_holding (held_record (Local Home) 2 2 1 1 true ∷ []) [] 170) false
    ∷ state_row 2 (pair_holding (held_record (Sending Home) 0 1 1 1 true ∷ []) [] 171) false
    ∷ state_row 2 (pair_holding (held_record (Sending Home) 2 0 1 1 true ∷ []) [] 171) false
    ∷ state_row 2 (pair_holding (held_record (Receiving Home) 0 2 8 5 true ∷ []) (held_record (Sending Far) 0 2 8 5 true ∷ []) 170) false
    ∷ state_row 2 (pair_holding (held_record (Receiving Home) 1 0 8 5 true ∷ []) (held_record (Sending Far) 1 0 8 5 true ∷ []) 170) false
    ∷ state_row 2 (pair_holding [] (held_record (Local Far) 1 0 1 1 true ∷ []) 170) false
    ∷ state_row 2 (pair_holding [] (held_record (Local Far) 0 1 1 1 true ∷ []) 170) false
    ∷ state_row 2 (pair_holding [] (held_record (Sending Far) 0 1 1 1 true ∷ []) 171) true
    ∷ state_row 2 (pair_holding [] (held_record (Sending Far) 1 1 1 1 true ∷ []) 171) false
    ∷ state_row 2 (pair_holding (held_record (Local Home) 0 1 1 1 false ∷ []) [] 170) false
    ∷ state_row 2 (pair_holding (held_record (Local Home) 0 1 1 1 true ∷ held_record (Local Home) 1 0 1 2 true ∷ []) [] 170) false
    ∷ state_row 2 (pair_holding [] (held_record (Local Far) 0 0 1 1 true ∷ held_record (Local Far) 0 0 1 2 true ∷ []) 170) false
    ∷ state_row 2 (pair_holding (held_record (Local Home) 0 1 1 1 true ∷ held_record (Sending Home) 0 0 1 1 true ∷ []) [] 171) false
    ∷ state_row 2 (pair_holding (held_record (Sending Home) 0 0 1 1 true ∷ held_record (Sending Home) 0 0 1 1 true ∷ []) [] 172) false
    ∷ state_row 2 (pair_holding [] (held_record (Local Far) 0 0 1 1 true ∷ held_record (Sending Far) 0 0 1 1 true ∷ []) 171) false
    ∷ state_row 2 (pair_holding [] (held_record (Sending Far) 0 0 1 1 true ∷ held_record (Sending Far) 0 0 1 1 true ∷ []) 172) false
    ∷ state_row 2
    (pair_holding (held_record (Receiving Home) 0 0 8 5 true ∷ held_record (Receiving Home) 0 0 8 5 true ∷ [])
    (held_record (Sending Far) 0 0 8 5 true ∷ []) 170)
    false
    ∷ state_row 2
    (pair_holding (held_record (Sending Home) 0 0 8 5 true ∷ [])
    (held_record (Receiving Far) 0 0 8 5 true ∷ held_record (Receiving Far) 0 0 8 5 true ∷ []) 170)
    false
    ∷ state_row 2
    (pair_holding (held_record (Receiving Home) 0 0 8 5 true ∷ held_record (Sending Home) 0 0 8 30 true ∷ [])
    (held_record (Sending Far) 0 0 8 5 true ∷ []) 200)
    true
    ∷ state_row 2
    (pair_holding (held_record (Local Home) 0 1 8 1 true ∷ held_record (Receiving Home) 0 0 8 5 true ∷ [])
    (held_record (Sending Far) 0 0 8 5 true ∷ []) 170)
    true
    ∷ state_row 2
    (pair_holding (held_record (Sending Home) 0 0 8 5 true ∷ [])
    (held_record (Receiving Far) 0 0 8 5 true ∷ held_record (Sending Far) 0 0 8 30 true ∷ []) 200)
    true
    ∷ state_row 2
    (pair_holding (held_record (Sending Home) 0 0 8 5 true ∷ [])
    (held_record (Local Far) 0 0 8 1 true ∷ held_record (Receiving Far) 0 0 8 5 true ∷ []) 170)
    true
    ∷ state_row 2 (pair_holding (held_record (Receiving Home) 0 0 8 5 true ∷ []) [] 170) false
    ∷ state_row 2 (pair_holding [] (held_record (Receiving Far) 0 0 8 5 true ∷ []) 170) false
    ∷ state_row 2 (pair_holding (held_record (Local Far) 0 0 1 1 true ∷ []) [] 170) false
    ∷ state_row 2 (pair_holding [] (held_record (Local Home) 0 0 1 1 true ∷ []) 170) false
    ∷ state_row 2 (pair_holding [] [] 169) false
    ∷ state_row 2 (pair_holding [] [] 171) false
    ∷ state_row 2 (pair_opened (taking 10000 1) (100 ∷ 50 ∷ []) (20 ∷ [])) true
    ∷ state_row 2 (pair_opened (taking 10001 1) (100 ∷ 50 ∷ []) (20 ∷ [])) false
    ∷ state_row 2 (pair_opened (taking 1 2) (100 ∷ 50 ∷ []) (20 ∷ 1 ∷ 1 ∷ [])) false
    ∷ state_row 2 (pair_opened (taking 0 2) (100 ∷ 50 ∷ []) (20 ∷ 1 ∷ 1 ∷ [])) false
    ∷ state_row 2 (record { pair = record { home = new_ledger free (1 ∷ []); far = new_ledger (taking 1 0) (1 ∷ []) }; supply = 2 }) false
    ∷ home_state_row 1 (home_opened (taking 10000 1) (100 ∷ 50 ∷ []) 1 20) true
    ∷ home_state_row 1 (home_opened (taking 10001 1) (100 ∷ 50 ∷ []) 1 20) false
    ∷ home_state_row 1 (home_opened (taking 1 2) (100 ∷ 50 ∷ []) 3 20) false
    ∷ home_state_row 1 (home_opened (taking 0 2) (100 ∷ 50 ∷ []) 3 20) false
    ∷ home_state_row 1 (home_holding [] 1 20 170) true
    ∷ home_state_row 1 (home_holding (held_record (Receiving Home) 0 0 8 5 true ∷ []) 1 20 170) true
    ∷ home_state_row 1 (home_holding [] 0 20 170) false
    ∷ home_state_row 1 (home_holding [] 57 20 170) false
    ∷ home_state_row 0 (home_holding (held_record (Local Home) 0 1 1 1 true ∷ []) 1 20 170) false
    ∷ home_state_row 1 (home_holding [] 1 (2 ^ 63 - 150) (2 ^ 63)) false
    ∷ home_state_row 1 (home_holding (held_record (Local Home) 0 1 1 0 true ∷ []) 1 20 170) false
    ∷ home_state_row 1 (home_holding (held_record (Local Home) 2 0 1 1 true ∷ []) 1 20 170) false
    ∷ home_state_row 1 (home_holding (held_record (Local Home) 0 2 1 1 true ∷ []) 1 20 170) false
    ∷ home_state_row 1 (home_holding (held_record (Sending Home) 1 0 1 1 true ∷ []) 1 20 170) true
    ∷ home_state_row 1 (home_holding (held_record (Sending Home) 2 0 1 1 true ∷ []) 1 20 170) false
    ∷ home_state_row 1 (home_holding (held_record (Sending Home) 0 1 1 1 true ∷ []) 1 20 170) false
    ∷ home_state_row 1 (home_holding (held_record (Receiving Home) 1 0 8 5 true ∷ []) 1 20 170) false
    ∷ home_state_row 1 (home_holding (held_record (Receiving Home) 0 2 8 5 true ∷ []) 1 20 170) false
    ∷ home_state_row 1 (home_holding (held_record (Local Home) 0 1 1 1 false ∷ []) 1 20 170) false
    ∷ home_state_row 2 (home_holding (held_record (Local Home) 0 1 1 1 true ∷ held_record (Local Home) 1 0 1 2 true ∷ []) 1 20 170) false
    ∷ home_state_row 2 (home_holding (held_record (Local Home) 0 1 1 1 true ∷ held_record (Sending Home) 0 0 1 2 true ∷ []) 1 20 170) false
    ∷ home_state_row 2 (home_holding (held_record (Sending Home) 0 0 1 1 true ∷ held_record (Sending Home) 0 0 1 2 true ∷ []) 1 20 170) false
    ∷ home_state_row 2 (home_holding (held_record (Receiving Home) 0 0 1 1 true ∷ held_record (Receiving Home) 0 0 1 2 true ∷ []) 1 20 170) false
    ∷ home_state_row 2 (home_holding (held_record (Receiving Home) 0 0 1 1 true ∷ held_record (Sending Home) 0 0 1 2 true ∷ []) 1 20 170) true
    ∷ home_state_row 2 (home_holding (held_record (Local Home) 0 1 1 1 true ∷ held_record (Receiving Home) 0 0 1 2 true ∷ []) 1 20 170) true
    ∷ home_state_row 1 (home_holding (held_record (Local Far) 0 0 1 1 true ∷ []) 1 20 170) false
    ∷ home_state_row 1 (home_holding [] 1 19 170) false
    ∷ home_state_row 1 (home_holding [] 1 21 170) false
    ∷ []

-- ## The claims

-- every starred case holds
unfoldable pub CasesHold : Type 0
CasesHold = all holds cases ≡ true

-- and every row of our own
unfoldable pub FurtherRowsHold : Type 0
FurtherRowsHold = all holds (account_rows ++ (order_rows ++ (class_rows ++ (charge_rows ++ (near_rows ++ (opening_rows ++ state_rows)))))) ≡ true
