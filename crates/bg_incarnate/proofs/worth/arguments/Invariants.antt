use Rattle.std.proofs.Common.{◌≡◌, ◌++◌, drop}
use Rattle.bg_ast.specs.Meaning as m
use Rattle.bg_ast.specs.Views.{exs_in}
use Rattle.bg_passive.specs.Incarnations.{set_to, each_ex, after_exs}
use Rattle.bg_renamed.specs.Views.{env_of}
use Rattle.bg_incarnate.specs.Views.{cmds_of}
use Rattle.bg_incarnate.proofs.worth.arguments.Given as goal

abbrev pub invariant-loop-e : goal.invariant-loop-e
invariant-loop-e l =
    (cmds_of l.out.items ++ set_to l.next (m.exs_of (exs_in (drop l.e-index l.es))) (env_of l.env) ≡ cmds_of l.fn.out.items ++ set_to l.fn.next (m.exs_of (exs_in l.es)) (env_of l.env))
    × (l.made.items ++ each_ex l.next (m.exs_of (exs_in (drop l.e-index l.es))) ≡ each_ex l.fn.next (m.exs_of (exs_in l.es)))
    × (after_exs (m.exs_of (exs_in (drop l.e-index l.es))) l.next ≡ after_exs (m.exs_of (exs_in l.es)) l.fn.next)
