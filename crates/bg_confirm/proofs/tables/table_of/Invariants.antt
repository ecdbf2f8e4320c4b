use Rattle.std.proofs.Common.{◌≡◌, ◌≤◌, length, map, drop}
use Rattle.bg_ast.specs.Meaning as m
use Rattle.bg_ast.specs.Meaning.{named_of}
use Rattle.bg_ast.specs.Views.{type_name_of, fun_of}
use Rattle.bg_scalar.specs.Views.{entry_in}
use Rattle.bg_certtext.specs.Views.{entry_of}
use Rattle.bg_confirm.specs.Met as met
use Rattle.bg_confirm.proofs.tables.table_of.Given as goal

abbrev pub invariant-loop-k : goal.invariant-loop-k
invariant-loop-k l =
    (l.k ≤ length l.given.entries.items)
    × (map entry_in l.entries.entries ≡ map (met.entry_of (m.fun_of (named_of (map type_name_of l.types)) (fun_of l.f))) (map entry_of (drop l.k l.given.entries.items)))

abbrev pub decreases-loop-k : goal.decreases-loop-k
decreases-loop-k l = l.k
