use Rattle.std.proofs.Common.{◌≡◌, ◌-◌, ◌++◌, map}
use Rattle.bg_sense.specs.Variables.{count_from}
use Rattle.bg_formula.specs.Atoms.{atom_of, IsTruth}
use Rattle.bg_clause.proofs.whole.add_truths.Given as goal

abbrev pub invariant-loop-x : goal.invariant-loop-x
invariant-loop-x l =
    map atom_of l.atoms.items ≡ map atom_of l.fn.atoms.items ++ map IsTruth (count_from l.first (l.x - l.first))
