use Rattle.std.proofs.Common.{◌≡◌, ◌++◌, map, drop}
use Rattle.bg_ast.specs.Views.{type_name_of}
use Rattle.bg_certtext.specs.Views as text
use Rattle.bg_certify.proofs.Loops.{tables_for}
use Rattle.bg_certify.proofs.given.functions.Given as goal

abbrev pub invariant-loop-k : goal.invariant-loop-k
invariant-loop-k l =
    map text.function_of l.made.items ++ tables_for (map type_name_of l.types) (drop l.k l.declared) (drop l.k l.bodies) (drop l.k l.tables)
    ≡ tables_for (map type_name_of l.types) l.declared l.bodies l.tables
