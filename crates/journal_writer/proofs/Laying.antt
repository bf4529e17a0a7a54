-- What stands in the output after its parts have been written one by one. Assumes nothing.
use Rattle.wire.proofs.Prelude.{List, [], ◌++◌, ◌+◌, ◌-◌, ◌∙◌, ◌≡◌, ◌≤◌, ap, append_assoc, append-nil, ap₂, arith, drop}
use Rattle.wire.proofs.Prelude.{drop_of_length-le, length, length-append, length-drop, length-replicate, length-take, replicate}
use Rattle.wire.proofs.Prelude.{sym, take, take_at, ℕ}
use borrow.Rule.Slice.PartMut.{put_mid}

-- the check, written from byte 480 on
pub sealed : (o d : List ℕ) → length o ≡ 512 → put_mid 480 (length o - 480) o d ≡ take 480 o ++ d
sealed o d lo =
    let p : List ℕ = drop 480 o in
    let post : drop (length o - 480) p ≡ [] = drop_of_length-le p {i = length o - 480} (omega (arith, length-drop 480 o)) in
    ap (λ (z : List ℕ). take 480 o ++ (d ++ z)) post ∙ ap (λ (y : List ℕ). take 480 o ++ y) (append-nil d)

-- the header, the items and zeros, written from bytes 0, 32 and the items' end on
module _ (o h t x1 x2 x3 : List ℕ) (lo : length o ≡ 512) (lh : length h ≡ 32) (lt : length t ≤ 448) (e1 : x1 ≡ h) (e2 : x2 ≡ t) where
  -- the output after the header
  abbrev o1 : List ℕ
  o1 = x1 ++ drop 32 o

  -- its first 32 bytes
  o1_head : take 32 o1 ≡ h
  o1_head = ap (λ (y : List ℕ). take 32 (y ++ drop 32 o)) e1 ∙ take_at h (drop 32 o) 32 lh

  -- the output after the items
  abbrev o2 : List ℕ
  o2 = put_mid 32 (32 + length t - 32) o1 x2

  -- what stands after them
  rest : List ℕ
  rest = drop (32 + length t - 32) (drop 32 o1)

  -- header, items and that
  o2_is : o2 ≡ (h ++ t) ++ rest
  unfolding rest
  o2_is = (λ i. o1_head i ++ (e2 i ++ drop (32 + length t - 32) (drop 32 o1))) ∙ sym (append_assoc h t _)

  -- its beginning
  o2_head : take (32 + length t) o2 ≡ h ++ t
  o2_head =
      ap (take (32 + length t)) o2_is ∙ take_at (h ++ t) rest (32 + length t) (omega (arith, length-append h t))

  -- 512 bytes still
  o2_length : length o2 ≡ 512
  o2_length =
      let l1 : length x1 ≡ 32 = ap length e1 ∙ lh in
      let l2 : length x2 ≡ length t = ap length e2 in
      simp (length-append, length-take, length-drop) (omega arith)

  -- the first 480 bytes after the zeros
  pub laid : x3 ≡ replicate (length (take (480 - (32 + length t)) (drop (32 + length t) o2))) 0
      → take 480 (put_mid (32 + length t) (480 - (32 + length t)) o2 x3) ≡ h ++ (t ++ replicate (448 - length t) 0)
  laid e3 =
      let n : ℕ = 32 + length t in
      let m : length (take (480 - n) (drop n o2)) ≡ 448 - length t = simp (length-take, length-drop) (omega (arith, o2_length)) in
      let z : x3 ≡ replicate (448 - length t) 0 = e3 ∙ ap (λ (k : ℕ). replicate k 0) m in
      let l : length ((h ++ t) ++ replicate (448 - length t) 0) ≡ 480 = simp (length-append, length-replicate) (omega arith) in
      let post : List ℕ = drop (480 - n) (drop n o2) in
      ap₂ (λ (y w : List ℕ). take 480 (y ++ (w ++ post))) o2_head z
      ∙ ap (take 480) (sym (append_assoc (h ++ t) (replicate (448 - length t) 0) post))
      ∙ take_at ((h ++ t) ++ replicate (448 - length t) 0) post 480 l
      ∙ append_assoc h t (replicate (448 - length t) 0)
