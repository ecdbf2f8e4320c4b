use Rattle.std.proofs.Common.{◌≡◌, ◌++◌, drop, map}
use Rattle.bg_text.specs.Views.{clause_of}
use Rattle.bg_ast.specs.Views as u
use Rattle.bg_keep.specs.Guesses.{names_of}
use Rattle.bg_keep.specs.Told.{told_clauses}
use Rattle.bg_keep.proofs.clauses.kept_clauses.Given as goal

abbrev pub invariant-loop-i : goal.invariant-loop-i
invariant-loop-i l =
    map clause_of l.made.items ++ told_clauses l.set (names_of l.names) (drop l.i (map u.clause_of l.told)) (map clause_of (drop l.i l.ks))
    ≡ told_clauses l.set (names_of l.names) (map u.clause_of l.told) (map clause_of l.fn.ks)
