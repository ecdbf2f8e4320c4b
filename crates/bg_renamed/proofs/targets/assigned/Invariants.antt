use Rattle.std.proofs.Common.{◌≡◌, map, length}
use Rattle.bg_ast.specs.Syntax.{Read}
use Rattle.bg_ast.specs.Meaning as m
use Rattle.bg_ast.specs.Views.{ex_of, var_of, target_of, bracket_of}
use Rattle.bg_passive.specs.Incarnations.{rename, rename_var}
use Rattle.bg_renamed.specs.Views.{env_of}
use Rattle.bg_renamed.proofs.Writes.{rewritten}
use Rattle.bg_renamed.proofs.targets.assigned.Given as goal

abbrev pub invariant-loop-last : goal.invariant-loop-last
invariant-loop-last l =
    rewritten (env_of l.env) (rename_var (env_of l.env) (var_of l.target.placed.variable)) (map bracket_of l.left) (m.ex_of (ex_of l.value)) ≡ rename (m.written (Read (var_of l.target.placed.variable)) (target_of l.target).brackets (m.ex_of (ex_of l.e))) (env_of l.env)

abbrev pub decreases-loop-last : goal.decreases-loop-last
decreases-loop-last l = length l.left
