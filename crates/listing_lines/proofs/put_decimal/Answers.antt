-- The library's text of a number is its decimal digits, of which there are at most 20.
use Rattle.wire.proofs.Prelude.{arith, sym, ◌∙◌, ◌++◌, ap}
use Rattle.listing_lines.proofs.Decimals.{text_decimal}
use Rattle.listing_lines.proofs.put_decimal.Goals as goal

pub returns-clause-puts : goal.returns-clause-puts
returns-clause-puts g c =
    let digits = c.as_bytes.ensures.value ∙ c.format.ensures.text ∙ sym (text_decimal c.args.x (omega arith)) in
    c.put.ensures ∙ ap (λ l. c.args.out.now.items ++ l) digits
