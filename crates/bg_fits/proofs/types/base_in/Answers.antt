use Rattle.std.proofs.Common.{◌≡◌, ◌<◌, length, arith}
use Rattle.std.proofs.lemmas.Bool.Decides.{nat_tests}
use Rattle.bg_fits.proofs.Bases.{bare_in, bare_is, map_in, map_is}
use Rattle.bg_fits.proofs.types.base_in.Goals as goal

pub returns-then-is_empty-clause-base : goal.returns-then-is_empty-clause-base
returns-then-is_empty-clause-base c =
    let n : length c.args.t.maps.now ≡ 0 = let h = c.is_empty.ensures in let k = c.if-is_empty.true in grind (arith, nat_tests, h, k) in
    bare_in c.args.t.maps.now c.args.t.base n

pub returns-then-is_empty-clause-is : goal.returns-then-is_empty-clause-is
returns-then-is_empty-clause-is c =
    let n : length c.args.t.maps.now ≡ 0 = let h = c.is_empty.ensures in let k = c.if-is_empty.true in grind (arith, nat_tests, h, k) in
    bare_is c.args.t.maps.now c.args.t.base n

pub returns-else-is_empty-clause-base : goal.returns-else-is_empty-clause-base
returns-else-is_empty-clause-base c =
    let n : 0 < length c.args.t.maps.now = let h = c.is_empty.ensures in let k = c.if-is_empty.false in grind (arith, nat_tests, h, k) in
    map_in c.args.t.maps.now c.args.t.base n

pub returns-else-is_empty-clause-is : goal.returns-else-is_empty-clause-is
returns-else-is_empty-clause-is c =
    let n : 0 < length c.args.t.maps.now = let h = c.is_empty.ensures in let k = c.if-is_empty.false in grind (arith, nat_tests, h, k) in
    map_is c.args.t.maps.now c.args.t.base n
