use Rattle.std.proofs.Common.{arith}
use Rattle.bg_wanted.proofs.way.at_map.Goals as goal

pub returns : goal.returns
returns c =
    λ fs incs si lt high fits way.
    let comes = c.in_ok-r.ensures.comes fs incs fits way in
    let more = c.in_ok-r.ensures.more in
    c.in_ok-elsewhere.ensures fs incs si lt (omega (arith, high, more)) comes
