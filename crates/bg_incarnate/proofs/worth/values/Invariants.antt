use Rattle.std.proofs.Common.{◌≡◌, ◌++◌, map, drop}
use Rattle.bg_ast.specs.Meaning as m
use Rattle.bg_ast.specs.Views.{exs_in, target_of}
use Rattle.bg_passive.specs.Incarnations.{set_to, each_ex, after_exs}
use Rattle.bg_renamed.specs.Views.{env_of}
use Rattle.bg_incarnate.specs.Views.{cmds_of}
use Rattle.bg_incarnate.proofs.worth.values.Given as goal

abbrev pub invariant-loop-i : goal.invariant-loop-i
invariant-loop-i l =
    (cmds_of l.out.items ++ set_to l.next (m.values_of (map target_of (drop l.i l.targets)) (exs_in (drop l.i l.es))) (env_of l.env) ≡ cmds_of l.fn.out.items ++ set_to l.fn.next (m.values_of (map target_of l.targets) (exs_in l.es)) (env_of l.env))
    × (l.made.items ++ each_ex l.next (m.values_of (map target_of (drop l.i l.targets)) (exs_in (drop l.i l.es))) ≡ each_ex l.fn.next (m.values_of (map target_of l.targets) (exs_in l.es)))
    × (after_exs (m.values_of (map target_of (drop l.i l.targets)) (exs_in (drop l.i l.es))) l.next ≡ after_exs (m.values_of (map target_of l.targets) (exs_in l.es)) l.fn.next)
