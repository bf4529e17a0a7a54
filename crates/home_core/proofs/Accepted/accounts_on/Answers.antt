-- `Accepted::accounts_on`: the rules count the accounts that the words say. Assumes nothing.
use Rattle.home_core.proofs.Accept.{length_balances, sound_of}
use Rattle.home_core.specs.Layout.{home_view_of}
use Rattle.rules.specs.HomeValidator.{home_accounts}
use Rattle.wire.proofs.Prelude.{◌∙◌, ap, arith, sym}
use Rattle.home_core.proofs.Accepted.accounts_on.Goals as goal

pub bounds-self-2106 : goal.bounds-self-2106
bounds-self-2106 c = omega (arith, (sound_of c.args.self.words.now c.args.self.ready.accepted).long)

pub bounds-self-2107 : goal.bounds-self-2107
bounds-self-2107 c = omega (arith, (sound_of c.args.self.words.now c.args.self.ready.accepted).long)

pub returns-in-Home : goal.returns-in-Home
returns-in-Home c =
    let s = c.args.self.words.now in
    let h = sound_of s c.args.self.ready.accepted in
    sym (length_balances s h.long h.bounds.home_fits) ∙ ap (home_accounts (home_view_of s)) (sym c.in-Home.is)
