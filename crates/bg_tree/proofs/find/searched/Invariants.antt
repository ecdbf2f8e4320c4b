use Rattle.std.proofs.Common.{◌≡◌, ◌*◌, ◌≤◌, length}
use Rattle.bg_point.specs.Points.{target_of}
use Rattle.bg_formula.specs.Formulas.{formula_of}
use Rattle.bg_cert.specs.Walks.{IsWalk, atoms_on, stack_of, has}
use Rattle.bg_pick.specs.Marks.{marks_of, AllReady}
use Rattle.bg_tree.specs.Ways.{ArePaths}
use Rattle.bg_tree.specs.Trees.{work, KeepsCount}
use Rattle.bg_tree.proofs.Told.{Told, Tallied, Whole}
use Rattle.bg_tree.proofs.find.searched.Given as goal

abbrev pub invariant-loop-s : goal.invariant-loop-s
invariant-loop-s l =
    record {
      walks : IsWalk l.s.walk;
      sized : atoms_on l.s.walk ≡ length l.problem.formula.now.atoms.items;
      told : Told (target_of l.problem.targets.now) (formula_of l.problem.formula.now) (has l.problem.set.now) (20 * l.budget.nodes) l.s;
      tallied : Tallied (formula_of l.problem.formula.now) (has l.problem.set.now) l.budget.nodes l.s;
      kept : KeepsCount (formula_of l.problem.formula.now) (has l.problem.set.now) l.s;
      within : l.s.inner ≤ 20 * l.budget.nodes;
      whole : Whole (formula_of l.problem.formula.now) (has l.problem.set.now) l.s;
      paths : ArePaths (target_of l.problem.targets.now) (formula_of l.problem.formula.now) (has l.problem.set.now) (stack_of (formula_of l.problem.formula.now) l.s.walk);
      ready : AllReady (formula_of l.problem.formula.now) (has l.problem.set.now) l.problem.index.now (stack_of (formula_of l.problem.formula.now) l.s.walk) (marks_of l.guide);
    }

abbrev pub decreases-loop-s : goal.decreases-loop-s
decreases-loop-s l = work l.s
