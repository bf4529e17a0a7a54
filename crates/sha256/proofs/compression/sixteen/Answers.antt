-- `sha256::compression::sixteen` meets its contract. Assumes nothing.
use Rattle.sha256.proofs.Rounds.{sixteen_by_one}
use Rattle.sha256.proofs.compression.sixteen.Goals as goal

pub returns : goal.returns
returns c =
    sixteen_by_one c.args.s c.args.k c.args.w c.one_round-s1.ensures c.one_round-s2.ensures c.one_round-s3.ensures
    c.one_round-s4.ensures c.one_round-s5.ensures c.one_round-s6.ensures c.one_round-s7.ensures c.one_round-s8.ensures
    c.one_round-s9.ensures c.one_round-s10.ensures c.one_round-s11.ensures c.one_round-s12.ensures c.one_round-s13.ensures
    c.one_round-s14.ensures c.one_round-s15.ensures c.one_round.ensures
