use Rattle.std.proofs.Common.{◌≡◌, ◌++◌, drop, map}
use Rattle.bg_text.specs.Views.{spec_of}
use Rattle.bg_ast.specs.Views.{clause_of}
use Rattle.bg_keep.specs.Guesses.{names_of}
use Rattle.bg_keep.specs.Told.{told_specs}
use Rattle.bg_keep.proofs.parts.kept_parts.Given as goal

abbrev pub invariant-loop-i : goal.invariant-loop-i
invariant-loop-i l =
    map spec_of l.made.items ++ told_specs l.set (names_of l.names) (drop l.at.requires_ (map clause_of l.clauses.requires_.now)) (drop l.at.ensures_ (map clause_of l.clauses.ensures_.now)) (map spec_of (drop l.i l.parts))
    ≡ told_specs l.set (names_of l.names) (map clause_of l.clauses.requires_.now) (map clause_of l.clauses.ensures_.now) (map spec_of l.fn.parts)
