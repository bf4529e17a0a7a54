-- `Accepted::last_refusal`: where the words stand that it reads, and the balances that it lends. Assumes nothing.
use Rattle.wire.proofs.Prelude.{arith}
use Rattle.home_core.proofs.Accept.{sound_of}
use Rattle.home_core.specs.Layout.{home_accounts_of, home_tariff_of}
use Rattle.tariffs.proofs.Allowing.{allowed_rate}
use Rattle.home_core.proofs.Accepted.last_refusal.Goals as goal

pub bounds-self-2105 : goal.bounds-self-2105
bounds-self-2105 c = omega (arith, (sound_of c.args.self.words.now c.args.self.ready.accepted).long)

pub bounds-self-2106 : goal.bounds-self-2106
bounds-self-2106 c = omega (arith, (sound_of c.args.self.words.now c.args.self.ready.accepted).long)

pub bounds-self-2109 : goal.bounds-self-2109
bounds-self-2109 c = omega (arith, (sound_of c.args.self.words.now c.args.self.ready.accepted).long)

pub funds_refusal-requires : goal.funds_refusal-requires
funds_refusal-requires c =
    let s = c.args.self.words.now in
    let h = sound_of s c.args.self.ready.accepted in
    (omega (arith, h.long, h.bounds.home_fits), allowed_rate (home_tariff_of s) (home_accounts_of s) h.bounds.tariff_allowed)
