use Rattle.std.proofs.Common.{arith}
use Rattle.exb_numbers.specs.Spaces.{channels_at, groups_at}
use Rattle.exb_relay.proofs.laws.spaces_number.Goals as goal

pub returns : goal.returns
returns c s =
    let channels = c.channels_are_apart.ensures in
    let groups = c.groups_are_apart.ensures in
    record {
      some = λ k q e is. let r = channels.range (channels_at s k) q e is in omega (arith, r.0);
      small = λ k q e is. let r = channels.range (channels_at s k) q e is in omega (arith, r.1);
      alone = λ k q r e is also. channels.one (channels_at s k) q r e is also;
      high = λ k g set is. (groups.range (groups_at s k) set g is).0;
      fits = λ k g set is. (groups.range (groups_at s k) set g is).1;
    }
