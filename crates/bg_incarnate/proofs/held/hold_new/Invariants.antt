use Rattle.std.proofs.Common.{◌≡◌, map, drop}
use Rattle.bg_ast.specs.Views.{var_of}
use Rattle.bg_passive.specs.Incarnations.{hold_next, after_vars}
use Rattle.bg_incarnate.specs.Views.{held_env}
use Rattle.bg_incarnate.proofs.held.hold_new.Given as goal

abbrev pub invariant-loop-x : goal.invariant-loop-x
invariant-loop-x l =
    (hold_next (map var_of (drop l.x-index l.xs)) l.next (held_env l.held) ≡ hold_next (map var_of l.xs) l.fn.next (held_env l.fn.held))
    × (after_vars (map var_of (drop l.x-index l.xs)) l.next ≡ after_vars (map var_of l.xs) l.fn.next)
