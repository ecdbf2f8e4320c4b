use Rattle.std.proofs.Common.{◌≡◌, ◌<◌, length, arith}
use Rattle.std.proofs.lemmas.Bool.Decides.{nat_tests}
use Rattle.bg_linear.specs.Views.{lin_of}
use Rattle.bg_linear.proofs.Products.{told_same, number_right, number_left}
use Rattle.bg_linear.proofs.made.times.Goals as goal

pub returns-then-is_empty : goal.returns-then-is_empty
returns-then-is_empty c =
    let empty : length c.args.g.now.entries.items ≡ 0 = let h = c.is_empty.ensures in let k = c.if-is_empty.true in grind (arith, nat_tests, h, k) in
    told_same lin_of c.throughout.result _ _ (number_right c.right_of.result (lin_of c.args.f.now) (lin_of c.args.g.now) c.right_of.ensures empty) c.throughout.ensures

pub returns-else-is_empty : goal.returns-else-is_empty
returns-else-is_empty c =
    let some : 0 < length c.args.g.now.entries.items = let h = c.is_empty.ensures in let k = c.if-is_empty.false in grind (arith, nat_tests, h, k) in
    told_same lin_of c.throughout-else-is_empty.result _ _ (number_left c.left_of.result (lin_of c.args.f.now) (lin_of c.args.g.now) c.left_of.ensures some) c.throughout-else-is_empty.ensures
