-- The digits are those of bytes 8-15.
use Rattle.wire.proofs.Prelude.{arith, drop, take, ap, ◌++◌, ◌≡◌, ◌∙◌}
use Rattle.wire.proofs.Lists.{bytes_each}
use Rattle.wire.proofs.Numbers.{bytes_field}
use Rattle.wire.specs.BigEndian.{bytes_of}
use Rattle.listing_lines.specs.Lines.{hexadecimal, number_text}
use Rattle.listing_lines.proofs.put_number.Goals as goal

pub returns-clause-puts : goal.returns-clause-puts
unfolding number_text
returns-clause-puts g c =
    let b = c.args.bytes.now in
    let f = bytes_field 8 8 b (bytes_each b (λ i. omega (arith, c.type_inv.bytes i))) (omega (arith, c.requires.1)) in
    let t : c.digits.result ≡ hexadecimal (take 8 (drop 8 b)) =
    c.digits.ensures ∙ ap (λ x. hexadecimal (bytes_of 8 x)) c.at.ensures ∙ ap hexadecimal f in
    c.put.ensures ∙ ap (λ l. c.args.out.now.items ++ l) t
