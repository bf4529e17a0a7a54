-- `sha256::digest` meets its contract. Assumes nothing.
use Rattle.wire.proofs.Prelude.{List, ◌++◌, ◌∙◌, ap, length, length-take-le, rules, sym, ℕ}
use Rattle.sha256.proofs.Padding.{hashed_by_one, hashed_by_two}
use Rattle.sha256.specs.Sha256.{hash_bytes, padding, sha256}
use Rattle.sha256.proofs.digest.Goals as goal

pub slice_bounds-compress-end : goal.slice_bounds-compress-end
slice_bounds-compress-end c = sym (length-take-le 64 c.last_bytes-b.result (search rules))

pub compress-t-requires : goal.compress-t-requires
compress-t-requires c = length-take-le 64 c.last_bytes-b.result (search rules)

pub returns-then-n-lt-LENGTH_AT : goal.returns-then-n-lt-LENGTH_AT
unfolding sha256
returns-then-n-lt-LENGTH_AT c =
    let m = c.args.message.now in
    let rest = ap (λ (x : List ℕ). x ++ padding (length m)) (c.remainder.ensures ∙ c.chunks_exact.ensures.remainder) in
    c.hash_bytes.ensures
    ∙ ap hash_bytes
    (hashed_by_one m _ _ _ c.whole_blocks-s.ensures (search rules) (c.last_bytes-b.ensures ∙ rest) c.compress-t.ensures
    c.if-n-lt-LENGTH_AT.true)

pub returns : goal.returns
unfolding sha256
returns c =
    let m = c.args.message.now in
    let rest = ap (λ (x : List ℕ). x ++ padding (length m)) (c.remainder.ensures ∙ c.chunks_exact.ensures.remainder) in
    c.hash_bytes-2.ensures
    ∙ ap hash_bytes
    (hashed_by_two m _ _ _ c.whole_blocks-s.ensures (search rules) (c.last_bytes-b.ensures ∙ rest) c.compress-t.ensures
    c.if-n-lt-LENGTH_AT.false c.compress.ensures)
