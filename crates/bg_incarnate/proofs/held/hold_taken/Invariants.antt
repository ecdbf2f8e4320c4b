use Rattle.std.proofs.Common.{◌≡◌, map, drop}
use Rattle.bg_ast.specs.Meaning.{variable_of}
use Rattle.bg_ast.specs.Views.{placed_of}
use Rattle.bg_passive.specs.Incarnations.{hold_all}
use Rattle.bg_incarnate.specs.Views.{held_env}
use Rattle.bg_incarnate.proofs.held.hold_taken.Given as goal

abbrev pub invariant-loop-i : goal.invariant-loop-i
invariant-loop-i l =
    hold_all (map variable_of (map placed_of (drop l.i l.takes))) (drop l.i l.made) (held_env l.held) ≡ hold_all (map variable_of (map placed_of l.takes)) l.made (held_env l.fn.held)
