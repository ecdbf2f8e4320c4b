use Rattle.std.proofs.Common.{◌≡◌, ◌≤◌, map, drop, length}
use Rattle.std.specs.declared.cmp.Ordering.TheVariants.{Equal}
use Rattle.bg_certtext.specs.Views.{slot_of}
use Rattle.bg_certtext.specs.Orders.{slots_order}
use Rattle.bg_certtext.proofs.sorted.+compare_value.Given as goal

abbrev pub invariant-compare_all-loop-i : goal.invariant-compare_all-loop-i
invariant-compare_all-loop-i l = record {
  inside : l.i ≤ length l.ys;
  so_far : slots_order (map slot_of (drop l.i l.xs)) (map slot_of (drop l.i l.ys)) Equal ≡ slots_order (map slot_of l.xs) (map slot_of l.ys) Equal;
}
