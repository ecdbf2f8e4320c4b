use Rattle.std.proofs.Common.{◌≡◌, take}
use Rattle.bg_ast.specs.Syntax.{More, Read, Local}
use Rattle.bg_term_table.specs.Views.{listed, meanings}
use Rattle.bg_term_table.proofs.bring.arguments.Given as goal

abbrev pub invariant-loop-x : goal.invariant-loop-x
invariant-loop-x l = listed (meanings l.made.items) ≡ More (Read (Local l.m)) (listed (meanings (take l.x-index l.index)))
