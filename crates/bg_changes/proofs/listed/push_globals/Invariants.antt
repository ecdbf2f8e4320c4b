use Rattle.std.proofs.Common.{◌≡◌, ◌++◌, ◌-◌, map, filter, length}
use Rattle.bg_ast.specs.Syntax.{Global}
use Rattle.bg_ast.specs.Views.{var_of}
use Rattle.bg_sense.specs.Variables.{count_from}
use Rattle.bg_changes.specs.Marks.{marks_of, has_mark}
use Rattle.bg_changes.proofs.listed.push_globals.Given as goal

abbrev pub invariant-loop-k : goal.invariant-loop-k
invariant-loop-k l = map var_of l.out.items ++ filter (has_mark (marks_of l.marks)) (map Global (count_from l.k (length l.marks.globals.items - l.k))) ≡ map var_of l.fn.out.items ++ filter (has_mark (marks_of l.marks)) (map Global (count_from 0 (length l.marks.globals.items)))
