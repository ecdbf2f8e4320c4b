use Rattle.std.proofs.Common.{◌≡◌, drop}
use Rattle.bg_ast.specs.Values.{select}
use Rattle.bg_scalar.specs.Values.{value_of}
use Rattle.bg_scalar.specs.Maps.{map_of}
use Rattle.bg_scalar.proofs.map.select.Given as goal

abbrev pub invariant-loop-e : goal.invariant-loop-e
invariant-loop-e l =
    select (map_of (drop l.e-index l.entries) (value_of l.default)) l.key ≡ select (map_of l.entries (value_of l.default)) l.key
