use Rattle.bg_point.specs.Points.{target_of}
use Rattle.bg_tree.proofs.Ends.{placed_ends}
use Rattle.bg_tree.proofs.settle.settle.Goals as goal

pub returns-in-Solvable : goal.returns-in-Solvable
returns-in-Solvable c =
    let v = c.deref-in-Solvable.ensures.value in
    let i = c.in_ok-end-in-Solvable.ensures in
    let j = rw v at i in
    let g = c.in_ok-given.ensures in
    let h = rw (c.deref.ensures.value, c.deref-2.ensures.value) at g in
    placed_ends (target_of c.args.targets.now) c.args.f.now c.args.budget c.args.trail.now.decisions.items c.in_ok-given.given.items c.in_ok-end-in-Solvable.end c.requires.whole c.requires.bounds h j
