-- `wire::all_zero`: the library's test of every byte. Assumes nothing.
use Rattle.std.proofs.lemmas.Iterator.{YieldsList-from_slice}
use Rattle.std.proofs.lemmas.Iterator.Search.{all_from_yields_List}
use Rattle.wire.proofs.Prelude.{◌-◌, ◌∙◌, drop, eqb, rules, take}
use Rattle.wire.proofs.Lists.{zeros_all}
use Rattle.wire.proofs.all_zero.Goals as goal

pub returns : goal.returns
returns c =
    let bytes = YieldsList-from_slice (take (c.args.e - c.args.a) (drop c.args.a c.args.s.now)) c.iter.ensures.rest in
    all_from_yields_List (λ x. eqb x 0) _ _ _ c.all.ensures.ran bytes (λ x b q k. search rules) ∙ zeros_all _
